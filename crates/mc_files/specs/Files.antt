-- A replica's blocks as a CARv1 file: what an export says, and what an import does.
use Rattle.std.specs.Prelude.{◌≡◌, ◌≤◌, ◌<◌, ◌⊎◌, ℕ, Bool, if◌then◌else◌, List, [], ◌∷◌, ◌++◌, length, map}
use Rattle.std.specs.Prelude.{Option, Some, None, Result, Ok, Err}
use Rattle.std.specs.List.{flat_map, list_all}
use Rattle.mc_base.specs.declared.cid.Cid.{Cid}
use Rattle.mc_car.specs.Car.{IsCarText}
use Rattle.mc_car.specs.CarRead.{car_of, fault_number}
use Rattle.mc_car.specs.declared.car.Car.{Car}
use Rattle.mc_car.specs.declared.car.Section.{Section}
use Rattle.mc_car.specs.declared.fault.CarFault.{CarFault}
use Rattle.mc_model.specs.declared.block.Stored.{Stored}
use Rattle.mc_model.specs.Draining.{queue_in}
use Rattle.mc_model.specs.Events.{Event, Hear}
use Rattle.mc_model.specs.Kept.{Kept, bytes_at, processed}
use Rattle.mc_model.specs.Made.{head_cids}
use Rattle.mc_model.specs.Offer.{is_good}
use Rattle.mc_model.specs.Wanted.{Queue, hear_all}
use Rattle.mc_inbox.specs.Groups.{store_events}
use Rattle.mc_group.specs.Storing.{KeepEvents, unstored}
use Rattle.mc_plan.specs.declared.error.CoreError.{CoreError}
use Rattle.mc_plan.specs.Events.{ReplicaState, Goes}
use Rattle.mc_plan.specs.Hears.{AreSome, IsQueued}
use Rattle.mc_files.specs.declared.taking.Imported.{Imported}

-- ---- what an export says

-- a block with its bytes as a section, where it has bytes
abbrev pub section_of : Cid → Option (List ℕ) → List Section
section_of cid None = []
section_of cid (Some bytes) = record { cid = cid; bytes = bytes } ∷ []

-- these blocks in their order, each with its stored bytes
abbrev pub sections_in : List Stored → List Cid → List Section
sections_in graph cids = flat_map (λ cid. section_of cid (bytes_at graph cid)) cids

-- the processed blocks, in the order of processing
abbrev pub sections_of : Kept → List Section
sections_of kept = sections_in kept.graph kept.order

-- the file has the heads as its roots, and the processed blocks as its sections; or there are too many heads for one,
-- and this is their number
abbrev pub IsExport : Kept → Result (List ℕ) ℕ → Type 0
IsExport kept (Ok text) = IsCarText text (head_cids (processed kept)) (sections_of kept)
IsExport kept (Err number) = (number ≡ length (head_cids (processed kept))) × (255 < number)

-- ---- what a file is refused for

-- whether a section is a block
abbrev pub is_block : Section → Bool
is_block section = is_good section.cid section.bytes

-- the number of what is wrong with a file that was read: that of its first fault, or 6 where a section is no block
abbrev pub refusal_of : Result Car CarFault → Option ℕ
refusal_of (Err fault) = Some (fault_number fault.kind)
refusal_of (Ok car) = if list_all is_block car.sections then None else Some 6

abbrev pub car_refusal : List ℕ → Option ℕ
car_refusal text = refusal_of (car_of text)

-- ---- what an import does

-- a section as a stored block
abbrev pub stored_of : Section → Stored
stored_of section = record { cid = section.cid; bytes = section.bytes }

-- those of a file's sections
abbrev pub blocks_of : Car → List Stored
blocks_of car = map stored_of car.sections

-- those of the blocks that are not stored are, in one commit, or there is none; and then the roots are heard
pub record TakeEvents (s : ReplicaState) (roots : List Cid) (items : List Stored) (events : List Event)
    (imported : Imported) : Type 0 where
  pub store : List Event
  pub keeps : KeepEvents s items store imported.stored
  pub are : events ≡ store ++ Hear roots ∷ []
  pub heard : IsQueued (queue_in s.state.run) (hear_all s.state.durable.order (queue_in s.state.run) roots)
      imported.queued

-- nothing is wrong with the file, and its blocks and roots are taken
pub record FileEvents (s : ReplicaState) (text : List ℕ) (events : List Event) (imported : Imported) : Type 0 where
  pub car : Car
  pub found : car_of text ≡ Ok car
  pub sound : car_refusal text ≡ None
  pub takes : TakeEvents s car.roots (blocks_of car) events imported

-- or this is wrong with it, and nothing happens
abbrev pub ImportEvents : ReplicaState → List ℕ → List Event → Result Imported ℕ → Type 0
ImportEvents s text events (Ok imported) = FileEvents s text events imported
ImportEvents s text events (Err number) = (events ≡ []) × (car_refusal text ≡ Some number)

-- what a want of memory leaves: the replica as it was, or the blocks that were not stored are
abbrev pub TakeShort : ReplicaState → List Stored → ReplicaState → Type 0
TakeShort s items left = (left ≡ s) ⊎ Goes (store_events (unstored s.state.durable.graph items)) s left

pub record FileShort (s : ReplicaState) (text : List ℕ) (left : ReplicaState) : Type 0 where
  pub car : Car
  pub found : car_of text ≡ Ok car
  pub sound : car_refusal text ≡ None
  pub stored : Goes (store_events (unstored s.state.durable.graph (blocks_of car))) s left

abbrev pub ImportShort : ReplicaState → List ℕ → ReplicaState → Type 0
ImportShort s text left = (left ≡ s) ⊎ FileShort s text left

-- ---- what an import says over every keeper

-- some of the roots came to waiting, and this is their number; no more blocks were stored than there are sections
pub record TakesRoots (roots : List Cid) (count : ℕ) (imported : Imported) (q left : Queue) : Type 0 where
  pub some : List Cid
  pub are_some : AreSome roots some
  pub heard : left ≡ hear_all [] q some
  pub queued : IsQueued q left imported.queued
  pub few : imported.stored ≤ count

-- of a file that nothing is wrong with
pub record TakesFile (text : List ℕ) (imported : Imported) (q left : Queue) : Type 0 where
  pub car : Car
  pub found : car_of text ≡ Ok car
  pub sound : car_refusal text ≡ None
  pub takes : TakesRoots car.roots (length car.sections) imported q left

-- what is wanted after an import: some of the roots besides, or the same as before
abbrev pub ImportSays : List ℕ → Result (Result Imported ℕ) CoreError → Queue → Queue → Type 0
ImportSays text (Ok (Ok imported)) q left = TakesFile text imported q left
ImportSays text (Ok (Err number)) q left = (car_refusal text ≡ Some number) × (left ≡ q)
ImportSays text (Err error) q left = left ≡ q
