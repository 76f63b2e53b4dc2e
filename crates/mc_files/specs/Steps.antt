-- What the parts of an export and of an import say.
use Rattle.std.specs.Prelude.{◌≡◌, ℕ, Bool, false, true, if◌then◌else◌, List, map, Option, Some, None, Result, Ok, Err, ⊤}
use Rattle.std.specs.List.{list_all}
use Rattle.mc_base.specs.declared.cid.Cid.{Cid}
use Rattle.mc_block.specs.declared.fault.BlockError.{BlockError}
use Rattle.mc_block.specs.declared.fault.BlockError.TheVariants as block
use Rattle.mc_block.specs.declared.verified.Verified.{Verified}
use Rattle.mc_car.specs.CarRead.{car_of, fault_number, sections_at}
use Rattle.mc_car.specs.declared.car.Car.{Car}
use Rattle.mc_car.specs.declared.car.Section.{Section}
use Rattle.mc_car.specs.declared.fault.CarFault.{CarFault}
use Rattle.mc_cast.specs.Reads.{IsCast}
use Rattle.mc_cast.specs.Steps.{digests_of}
use Rattle.mc_model.specs.declared.block.Stored.{Stored}
use Rattle.mc_model.specs.Wanted.{Queue}
use Rattle.mc_plan.specs.declared.error.CoreError.{CoreError}
use Rattle.mc_files.specs.Files.{TakesRoots, blocks_of, car_refusal, is_block}
use Rattle.mc_files.specs.declared.reading.FileError.{FileError}
use Rattle.mc_files.specs.declared.reading.FileError.TheVariants as file
use Rattle.mc_files.specs.declared.taking.Imported.{Imported}

-- nothing is wrong with the file, and these are its roots and its blocks
pub record IsFile (text : List ℕ) (roots : List Cid) (items : List Stored) : Type 0 where
  pub car : Car
  pub found : car_of text ≡ Ok car
  pub sound : car_refusal text ≡ None
  pub roots_are : roots ≡ car.roots
  pub items_are : items ≡ blocks_of car

-- this number is wrong with the file, or memory was wanted
abbrev pub IsWrong : List ℕ → FileError → Type 0
IsWrong text file.Memory = ⊤
IsWrong text (file.Wrong number) = car_refusal text ≡ Some number

-- bytes are no block, or memory was wanted
abbrev pub IsNone : Bool → BlockError → Type 0
IsNone good block.Memory = ⊤
IsNone good (block.Damaged damage) = good ≡ false

-- a block as a section
abbrev pub as_section : Verified → Section
as_section block = record { cid = block.cid; bytes = block.bytes }

-- the sections from an offset on are these blocks
pub record AreBlocks (text : List ℕ) (from : ℕ) (blocks : List Verified) : Type 0 where
  pub found : sections_at text from ≡ Ok (map as_section blocks)
  pub sound : list_all is_block (map as_section blocks) ≡ true

-- the number of what is wrong with sections, or none
abbrev pub sections_refusal : Result (List Section) CarFault → Option ℕ
sections_refusal (Err fault) = Some (fault_number fault.kind)
sections_refusal (Ok sections) = if list_all is_block sections then None else Some 6

-- the same where one before them is no block
abbrev pub number_of : Result (List Section) CarFault → ℕ
number_of (Err fault) = fault_number fault.kind
number_of (Ok sections) = 6

-- this number is wrong with the sections from an offset on, or memory was wanted
abbrev pub AreWrong : List ℕ → ℕ → FileError → Type 0
AreWrong text from file.Memory = ⊤
AreWrong text from (file.Wrong number) = sections_refusal (sections_at text from) ≡ Some number

-- whatever is read from a message are these
abbrev pub NamesJust : List ℕ → List Cid → Type 0
NamesJust text roots = (cids : List Cid) → IsCast text (digests_of cids) → cids ≡ roots

-- what is wanted then: some of the roots besides, or the same as before
abbrev pub TakeSays : List Cid → ℕ → Result Imported CoreError → Queue → Queue → Type 0
TakeSays roots count (Ok imported) q left = TakesRoots roots count imported q left
TakeSays roots count (Err error) q left = left ≡ q
