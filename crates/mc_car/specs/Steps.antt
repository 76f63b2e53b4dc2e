-- What the parts of reading and writing a file say.
use Rattle.std.specs.Prelude.{◌≡◌, ℕ, ◌-◌, ◌<◌, ◌≤◌, List, ◌++◌, length, take, drop, Result, Ok, Err, ⊤}
use denote.Ref.{Bor}
use Rattle.mc_base.specs.Cid.{digest_of}
use Rattle.mc_base.specs.declared.cid.Cid.{Cid}
use Rattle.mc_car.specs.Car.{AreSections, IsPiece}
use Rattle.mc_car.specs.CarRead.{piece_of, section_of}
use Rattle.mc_car.specs.declared.car.Section.{Section}
use Rattle.mc_car.specs.declared.fault.CarError.{CarError}
use Rattle.mc_car.specs.declared.fault.CarError.TheVariants.{Fault, Memory}
use Rattle.mc_car.specs.declared.fault.CarFault.{CarFault}
use Rattle.mc_car.specs.declared.piece.Span.{Span}

-- an error is the fault of what was read, or want of memory
abbrev pub IsFaultOf : {A : Type 0} → Result A CarFault → CarError → Type 0
IsFaultOf found Memory = ⊤
IsFaultOf found (Fault fault) = found ≡ Err fault

-- the piece that stands at an offset has its body here
pub record PieceAt (text : List ℕ) (at : ℕ) (span : Span) : Type 0 where
  pub found : piece_of at (drop at text)
      ≡ Ok (record { size = span.from - at; body = take (span.to - span.from) (drop span.from text) })
  pub begins : at < span.from
  pub order : span.from ≤ span.to
  pub ends : span.to ≤ length text

-- the body is the section under this identifier, whose bytes have it
pub record Names (at : ℕ) (body : List ℕ) (cid : Cid) : Type 0 where
  pub room : 36 ≤ length body
  pub found : section_of at body ≡ Ok (record { cid = cid; bytes = drop 36 body })
  pub named : digest_of (drop 36 body) ≡ cid.0

-- what borrowed parts of a text stand for
abbrev pub counted : ℕ × Bor (List ℕ) → ℕ × List ℕ
counted found = (found.0, found.1.now)

abbrev pub rooted : Cid × Bor (List ℕ) → Cid × List ℕ
rooted found = (found.0, found.1.now)

-- new is old with the piece, or the pieces, at its end
abbrev pub AppendsPiece : List ℕ → List ℕ → List ℕ → Type 0
AppendsPiece old new body = (piece : List ℕ) × IsPiece piece body × (new ≡ old ++ piece)

abbrev pub AppendsSections : List ℕ → List ℕ → List Section → Type 0
AppendsSections old new sections = (text : List ℕ) × AreSections text sections × (new ≡ old ++ text)
