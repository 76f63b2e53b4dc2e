-- A CARv1 file from left to right: what it holds, or the first fault, at the offset of the piece's varint.
use Rattle.std.specs.Prelude.{ℕ, zero, suc, ◌+◌, ◌-◌, ◌*◌, List, [], ◌∷◌, length, take, drop}
use Rattle.std.specs.Prelude.{nat_lt, nat_le, ◌==◌, is_some, if◌then◌else◌, Option, Some, None, Result, Ok, Err}
use Rattle.std.specs.Prelude.{option_map, option_and_then}
use Rattle.std.specs.Str.{bytes_eq}
use Rattle.mc_base.specs.Cid.{digest_of}
use Rattle.mc_base.specs.Varint.{high_run, varint_fault}
use Rattle.mc_base.specs.declared.cid.Cid.{Cid}
use Rattle.mc_model.specs.Offer.{cid_of_bytes}
use Rattle.mc_car.specs.Car.{header_start, header_end, root_start}
use Rattle.mc_car.specs.declared.car.Car.{Car}
use Rattle.mc_car.specs.declared.car.Section.{Section}
use Rattle.mc_car.specs.declared.fault.CarFault.{CarFault}
use Rattle.mc_car.specs.declared.fault.CarFaultKind.{CarFaultKind}
use Rattle.mc_car.specs.declared.fault.CarFaultKind.TheVariants.{BadVarint, CutShort, NoHeader, NoCid, WrongDigest}

-- the number of a kind
abbrev pub fault_number : CarFaultKind → ℕ
fault_number BadVarint = 1
fault_number CutShort = 2
fault_number NoHeader = 3
fault_number NoCid = 4
fault_number WrongDigest = 5

abbrev pub fault : CarFaultKind → ℕ → CarFault
fault kind at = record { kind = kind; at = at }

-- the value and the length of the varint at the front of a text that begins with one
abbrev pub front_value : List ℕ → ℕ
front_value [] = 0
front_value (byte ∷ bytes) = if nat_lt byte 128 then byte else (byte - 128 + 128 * front_value bytes)

abbrev pub front_len : List ℕ → ℕ
front_len text = high_run text + 1

-- a piece, with the length of its varint
pub record Piece : Type 0 where
  pub size : ℕ
  pub body : List ℕ

-- the piece after a varint of this value and length
abbrev pub piece_after : ℕ → ℕ → ℕ → List ℕ → Result Piece CarFault
piece_after at value size text =
    if nat_le value (length (drop size text)) then Ok (record { size = size; body = take value (drop size text) })
    else Err (fault CutShort at)

-- the piece at the front of a text, which has this offset in the file
unfoldable pub piece_of : ℕ → List ℕ → Result Piece CarFault
piece_of at text =
    if is_some (varint_fault text) then Err (fault BadVarint at)
    else piece_after at (front_value text) (front_len text) text

-- the identifier at the front of a text, and what stands after it
abbrev pub cid_and_rest : List ℕ → Option (Cid × List ℕ)
cid_and_rest text = option_map (λ cid. (cid, drop 36 text)) (cid_of_bytes (take 36 text))

-- the root at the front of a text, and what stands after it
abbrev pub root_of : List ℕ → Option (Cid × List ℕ)
root_of text = if bytes_eq (take 5 text) root_start then cid_and_rest (drop 5 text) else None

-- so many roots, and the end of the header
abbrev pub roots_from : ℕ → List ℕ → Option (List Cid)
roots_from zero text = if bytes_eq text header_end then Some [] else None
roots_from (suc count) text =
    option_and_then (λ found. option_map (λ roots. found.0 ∷ roots) (roots_from count found.1)) (root_of text)

-- the number in the head of an array, and what stands after it
abbrev pub long_count : List ℕ → Option (ℕ × List ℕ)
long_count [] = None
long_count (count ∷ rest) = if nat_lt count 24 then None else Some (count, rest)

abbrev pub count_of : List ℕ → Option (ℕ × List ℕ)
count_of [] = None
count_of (head ∷ rest) =
    if nat_lt head 0x80 then None
    else (if nat_lt head 0x98 then Some (head - 0x80, rest)
    else (if head == 0x98 then long_count rest else None))

-- the roots of a header
abbrev pub roots_of : List ℕ → Option (List Cid)
roots_of body =
    if bytes_eq (take 7 body) header_start
    then option_and_then (λ found. roots_from found.0 found.1) (count_of (drop 7 body)) else None

abbrev pub roots_or_fault : Option (List Cid) → Result (List Cid) CarFault
roots_or_fault None = Err (fault NoHeader 0)
roots_or_fault (Some roots) = Ok roots

abbrev pub header_of : List ℕ → Result (List Cid) CarFault
header_of body = roots_or_fault (roots_of body)

-- the section under an identifier, or why there is none
abbrev pub section_named : ℕ → Option (Cid × List ℕ) → Result Section CarFault
section_named at None = Err (fault NoCid at)
section_named at (Some found) =
    if bytes_eq (digest_of found.1) found.0.0 then Ok (record { cid = found.0; bytes = found.1 }) else Err (fault WrongDigest at)

abbrev pub section_of : ℕ → List ℕ → Result Section CarFault
section_of at body = section_named at (cid_and_rest body)

abbrev pub section_in : ℕ → Result Piece CarFault → Result Section CarFault
section_in at (Err fault) = Err fault
section_in at (Ok piece) = section_of at piece.body

-- the length of a piece, and 1 where there is none
abbrev pub piece_len : Result Piece CarFault → ℕ
piece_len (Err fault) = 1
piece_len (Ok piece) = piece.size + length piece.body

-- one section, and those after it
abbrev pub onto_sections : Result Section CarFault → Result (List Section) CarFault → Result (List Section) CarFault
onto_sections (Err fault) rest = Err fault
onto_sections (Ok section) (Err fault) = Err fault
onto_sections (Ok section) (Ok sections) = Ok (section ∷ sections)

-- The sections of a text from left to right. The bytes that are still within a piece are skipped; the first byte has
-- this offset.
abbrev pub sections_past : ℕ → ℕ → List ℕ → Result (List Section) CarFault
sections_past skipped at [] = Ok []
sections_past (suc skipped) at (byte ∷ bytes) = sections_past skipped (at + 1) bytes
sections_past zero at (byte ∷ bytes) =
    onto_sections (section_in at (piece_of at (byte ∷ bytes)))
    (sections_past (piece_len (piece_of at (byte ∷ bytes)) - 1) (at + 1) bytes)

-- those of a file from an offset on
unfoldable pub sections_at : List ℕ → ℕ → Result (List Section) CarFault
sections_at text at = sections_past 0 at (drop at text)

abbrev pub car_with : Result (List Cid) CarFault → Result (List Section) CarFault → Result Car CarFault
car_with (Err fault) sections = Err fault
car_with (Ok roots) (Err fault) = Err fault
car_with (Ok roots) (Ok sections) = Ok (record { roots = roots; sections = sections })

abbrev pub car_after : Result Piece CarFault → List ℕ → Result Car CarFault
car_after (Err fault) text = Err fault
car_after (Ok piece) text = car_with (header_of piece.body) (sections_at text (piece.size + length piece.body))

-- what a file holds, or the first fault
abbrev pub car_of : List ℕ → Result Car CarFault
car_of text = car_after (piece_of 0 text) text
