-- The sections of a file as blocks, one after another.
use Rattle.std.proofs.Common.{◌≡◌, ◌∙◌, ℕ, ◌≤◌, true, false, List, [], ◌∷◌, ◌++◌, length, map, Some, Result, Ok, Err, refl, sym, subst, ap}
use Rattle.std.specs.List.{list_all}
use Rattle.std.proofs.lemmas.List.{map-append}
use Rattle.std.proofs.lemmas.List.Folds.{list_all-append}
use Rattle.mc_base.specs.declared.cid.Cid.{Cid}
use Rattle.mc_block.specs.declared.verified.Verified.{Verified}
use Rattle.mc_car.specs.CarRead.{car_of, car_with, fault_number, onto_sections, sections_at}
use Rattle.mc_car.specs.Places.{IsFront, IsPlace, section_there}
use Rattle.mc_car.specs.declared.car.Section.{Section}
use Rattle.mc_car.specs.declared.fault.CarFault.{CarFault}
use Rattle.mc_car.specs.declared.places.Front.{Front}
use Rattle.mc_car.specs.declared.places.Place.{Place}
use Rattle.mc_car.proofs.PlaceFacts.{reading_fault, reading_place}
use Rattle.mc_car.proofs.Sections.{IsReading, onto_all, reading_begins, reading_ends}
use Rattle.mc_inbox.specs.Waiting.{as_stored}
use Rattle.mc_files.specs.Files.{is_block, refusal_of, stored_of}
use Rattle.mc_files.specs.Steps.{AreBlocks, AreWrong, IsFile, IsWrong, as_section, number_of, sections_refusal}
use Rattle.mc_files.specs.declared.reading.FileError.{FileError}
use Rattle.mc_files.specs.declared.reading.FileError.TheVariants as file

-- the sections up to an offset are these blocks
pub record AreTaken (text : List ℕ) (from at : ℕ) (blocks : List Verified) : Type 0 where
  pub reading : IsReading text from at (map as_section blocks)
  pub good : list_all is_block (map as_section blocks) ≡ true

one_good : (sections : List Section) (section : Section) → list_all is_block sections ≡ true → is_block section ≡ true → list_all is_block (sections ++ section ∷ []) ≡ true
one_good sections section good is = list_all-append is_block sections (section ∷ []) ∙ (rw (good, is) refl)

pub taken_more : (text : List ℕ) (from at : ℕ) (blocks : List Verified) (block : Verified) (place : Place) → AreTaken text from at blocks → IsPlace text at place → as_section block ≡ section_there text place → is_block (section_there text place) ≡ true
    → AreTaken text from place.to (blocks ++ block ∷ [])
taken_more text from at blocks block place taken is same good =
    let more : map as_section (blocks ++ block ∷ []) ≡ map as_section blocks ++ section_there text place ∷ [] =
    map-append as_section blocks (block ∷ []) ∙ ap (λ (section : Section). map as_section blocks ++ section ∷ []) same in
    record {
      reading = subst (IsReading text from place.to) (sym more) (reading_place text from at (map as_section blocks) place (section_there text place).bytes taken.reading is refl);
      good = ap (list_all is_block) more ∙ one_good (map as_section blocks) (section_there text place) taken.good good;
    }

pub taken_all : (text : List ℕ) (from at : ℕ) (blocks : List Verified) → AreTaken text from at blocks → length text ≤ at → AreBlocks text from blocks
taken_all text from at blocks taken all = record { found = reading_ends text from at (map as_section blocks) taken.reading all; sound = taken.good }

pub taken_fault : (text : List ℕ) (from at : ℕ) (blocks : List Verified) (fault : CarFault) → AreTaken text from at blocks → sections_at text at ≡ Err fault → sections_refusal (sections_at text from) ≡ Some (fault_number fault.kind)
taken_fault text from at blocks fault taken is = ap sections_refusal (reading_fault text from at (map as_section blocks) fault taken.reading is)

-- one section is no block: a fault behind it comes first
none_refusal : (sections : List Section) (section : Section) (rest : Result (List Section) CarFault) → list_all is_block sections ≡ true → is_block section ≡ false → sections_refusal (onto_all sections (onto_sections (Ok section) rest)) ≡ Some (number_of rest)
none_refusal sections section (Err fault) good none = refl
none_refusal sections section (Ok rest) good none =
    let test : list_all is_block (sections ++ section ∷ rest) ≡ false = list_all-append is_block sections (section ∷ rest) ∙ (rw (good, none) refl) in
    rw test refl

pub taken_none : (text : List ℕ) (from at : ℕ) (blocks : List Verified) (place : Place) (number : ℕ) → AreTaken text from at blocks → IsPlace text at place → is_block (section_there text place) ≡ false → number ≡ number_of (sections_at text place.to)
    → sections_refusal (sections_at text from) ≡ Some number
taken_none text from at blocks place number taken is none told =
    ap sections_refusal (taken.reading.whole ∙ ap (onto_all (map as_section blocks)) is.first)
    ∙ none_refusal (map as_section blocks) (section_there text place) (sections_at text place.to) taken.good none
    ∙ ap (λ (n : ℕ). Some n) (sym told)

-- what is wrong behind a section
number_more : (section : Section) (rest : Result (List Section) CarFault) → number_of (onto_sections (Ok section) rest) ≡ number_of rest
number_more section (Err fault) = refl
number_more section (Ok rest) = refl

pub number_next : (text : List ℕ) (at : ℕ) (place : Place) → IsPlace text at place → number_of (sections_at text at) ≡ number_of (sections_at text place.to)
number_next text at place is = ap number_of is.first ∙ number_more (section_there text place) (sections_at text place.to)

pub number_ends : (text : List ℕ) (from at : ℕ) → at ≤ length text → number_of (sections_at text from) ≡ number_of (sections_at text at) → length text ≤ at → 6 ≡ number_of (sections_at text from)
number_ends text from at inside same all = sym (same ∙ ap number_of (reading_ends text at at [] (reading_begins text at inside) all))

-- ---- a whole file

stored_back : (blocks : List Verified) → map as_stored blocks ≡ map stored_of (map as_section blocks)
stored_back [] = refl
stored_back (block ∷ blocks) = ap (λ l. as_stored block ∷ l) (stored_back blocks)

pub file_read : (text : List ℕ) (front : Front) (blocks : List Verified) → IsFront text front → AreBlocks text front.end blocks → IsFile text front.roots (map as_stored blocks)
file_read text front blocks is are =
    let found : car_of text ≡ Ok (record { roots = front.roots; sections = map as_section blocks }) = is.whole ∙ ap (car_with (Ok front.roots)) are.found in
    record {
      car = record { roots = front.roots; sections = map as_section blocks };
      found = found;
      sound = ap refusal_of found ∙ (rw are.sound refl);
      roots_are = refl;
      items_are = stored_back blocks;
    }

same_refusal : (roots : List Cid) (sections : Result (List Section) CarFault) → refusal_of (car_with (Ok roots) sections) ≡ sections_refusal sections
same_refusal roots (Err fault) = refl
same_refusal roots (Ok sections) = refl

pub file_wrong : (text : List ℕ) (front : Front) (error : FileError) → IsFront text front → AreWrong text front.end error → IsWrong text error
file_wrong text front file.Memory is wrong = tt
file_wrong text front (file.Wrong number) is wrong = ap refusal_of is.whole ∙ same_refusal front.roots (sections_at text front.end) ∙ wrong
