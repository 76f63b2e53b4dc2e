-- The parts of a file by their places, and a file with one section more.
use Rattle.std.proofs.Common.{◌≡◌, ◌∙◌, ℕ, true, ◌+◌, ◌-◌, ◌<◌, ◌≤◌, List, [], ◌∷◌, ◌++◌, length, take, drop, Some, Result, Ok, Err, refl, sym, ap, append_assoc, arith}
use Rattle.std.specs.Prelude.{⊤, OnOk}
use Rattle.std.specs.Str.{bytes_eq}
use Rattle.std.proofs.lemmas.List.{drop-drop, drop-take, length-append, length-drop, length-take}
use Rattle.std.proofs.lemmas.Slice.Eq.{bytes_eq-Decides}
use Rattle.mc_base.specs.Cid.{digest_of}
use Rattle.mc_base.specs.declared.cid.Cid.{Cid}
use Rattle.mc_car.specs.declared.car.Section.{Section}
use Rattle.mc_car.specs.declared.fault.CarError.{CarError}
use Rattle.mc_car.specs.declared.fault.CarError.TheVariants.{Fault, Memory}
use Rattle.mc_car.specs.declared.fault.CarFault.{CarFault}
use Rattle.mc_car.specs.declared.piece.Span.{Span}
use Rattle.mc_car.specs.declared.places.Front.{Front}
use Rattle.mc_car.specs.declared.places.Place.{Place}
use Rattle.mc_car.specs.Car.{cid_bytes}
use Rattle.mc_car.specs.CarRead.{car_of, car_with, cid_and_rest, onto_sections, piece_of, section_named, section_of, sections_at}
use Rattle.mc_car.specs.Places.{AddsSections, IsFront, IsPlace, section_there}
use Rattle.mc_car.specs.Steps.{AppendsPiece, IsFaultOf, Names, PieceAt}
use Rattle.mc_car.proofs.FoundFacts.{cid_in_front}
use Rattle.mc_car.proofs.Pieces.{sections_more}
use Rattle.mc_car.proofs.ReadFacts.{cid_len, dropped}
use Rattle.mc_car.proofs.Sections.{IsReading, no_piece, onto_all, onto_next, step}

-- ---- one section

pub names : (at : ℕ) (body block : List ℕ) (cid : Cid) → Some (cid, block) ≡ cid_and_rest body → bytes_eq (digest_of block) cid.0 ≡ true → Names at body cid
names at body block cid is same =
    let parts = cid_in_front body cid block (sym is) in
    let len = cid_len cid parts.1 in
    let rest : drop 36 body ≡ block = ap (drop 36) parts.0 ∙ dropped 36 (cid_bytes cid) block len in
    record {
      room = omega (arith, ap length parts.0, length-append (cid_bytes cid) block, len);
      found = ap (section_named at) (sym is) ∙ rw same (ap (λ (bytes : List ℕ). Ok (record { cid = cid; bytes = bytes })) (sym rest));
      named = ap digest_of rest ∙ (bytes_eq-Decides (digest_of block) cid.0).0 same;
    }

-- the body of a piece
abbrev body_in : List ℕ → Span → List ℕ
body_in text span = take (span.to - span.from) (drop span.from text)

pub no_place : (text : List ℕ) (at : ℕ) (fault : CarFault) → at < length text → piece_of at (drop at text) ≡ Err fault → sections_at text at ≡ Err fault
unfolding sections_at
no_place text at fault inside is = no_piece at (drop at text) fault (omega (arith, inside, length-drop at text)) is

pub place_bad : (text : List ℕ) (at : ℕ) (span : Span) (fault : CarFault) → at < length text → PieceAt text at span → section_of at (body_in text span) ≡ Err fault → sections_at text at ≡ Err fault
place_bad text at span fault inside piece is = step text at span inside piece ∙ ap (λ s. onto_sections s (sections_at text span.to)) is

pub place_here : (text : List ℕ) (at : ℕ) (span : Span) (cid : Cid) → at < length text → PieceAt text at span → Names at (body_in text span) cid → IsPlace text at (record { cid = cid; from = span.from + 36; to = span.to })
place_here text at span cid inside piece is =
    let rest = span.to - (span.from + 36) in
    let room : 36 ≤ span.to - span.from = omega (arith, is.room, length-take {A = ℕ}, length-drop span.from text, piece.ends, piece.order) in
    let whole : span.to - span.from ≡ 36 + rest = omega (arith, room) in
    let there : drop 36 (body_in text span) ≡ take rest (drop (span.from + 36) text) =
    ap (λ n. drop 36 (take n (drop span.from text))) whole ∙ drop-take 36 rest (drop span.from text) ∙ ap (take rest) (drop-drop 36 span.from text) in
    let read : section_of at (body_in text span) ≡ Ok (record { cid = cid; bytes = take rest (drop (span.from + 36) text) }) =
    is.found ∙ ap (λ (bytes : List ℕ). Ok (record { cid = cid; bytes = bytes })) there in
    record {
      begins = omega (arith, piece.begins);
      order = omega (arith, room, piece.order);
      ends = piece.ends;
      first = step text at span inside piece ∙ ap (λ s. onto_sections s (sections_at text span.to)) read;
      named = ap digest_of (sym there) ∙ is.named;
    }

-- ---- one section after another

pub reading_place : (text : List ℕ) (from at : ℕ) (sections : List Section) (place : Place) (block : List ℕ) → IsReading text from at sections → IsPlace text at place → block ≡ (section_there text place).bytes
    → IsReading text from place.to (sections ++ record { cid = place.cid; bytes = block } ∷ [])
reading_place text from at sections place block reading is same = record {
  inside = is.ends;
  whole = reading.whole
      ∙ ap (onto_all sections) is.first
      ∙ onto_next sections (section_there text place) (sections_at text place.to)
      ∙ ap (λ (bytes : List ℕ). onto_all (sections ++ record { cid = place.cid; bytes = bytes } ∷ []) (sections_at text place.to)) (sym same);
}

pub reading_fault : (text : List ℕ) (from at : ℕ) (sections : List Section) (fault : CarFault) → IsReading text from at sections → sections_at text at ≡ Err fault → sections_at text from ≡ Err fault
reading_fault text from at sections fault reading is = reading.whole ∙ ap (onto_all sections) is

-- ---- a whole file

pub front_fault : (text : List ℕ) (front : Front) (error : CarError) → IsFront text front → IsFaultOf (sections_at text front.end) error → IsFaultOf (car_of text) error
front_fault text front Memory is fault = tt
front_fault text front (Fault why) is fault = is.whole ∙ ap (car_with (Ok front.roots)) fault

pub section_added : {E : Type 0} (result : Result ⊤ E) (old new : List ℕ) (cid : Cid) (block : List ℕ) → OnOk result (AppendsPiece old new (cid_bytes cid ++ block)) → OnOk result (AddsSections old new (record { cid = cid; bytes = block } ∷ []))
section_added (Err error) old new cid block more = tt
section_added (Ok done) old new cid block more = λ roots sections is. record {
  header = is.header;
  rest = is.rest ++ more.0;
  parts = more.2 ∙ ap (λ z. z ++ more.0) is.parts ∙ append_assoc is.header is.rest more.0;
  few = is.few;
  header_is = is.header_is;
  rest_is = sections_more is.rest more.0 sections (record { cid = cid; bytes = block }) is.rest_is more.1;
}
