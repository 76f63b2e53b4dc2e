-- The commits that take up a block.
use Rattle.std.specs.Prelude.{◌≡◌, IfSome, ⊤, ℕ, ◌+◌, Bool, true, false, not, List, [], ◌∷◌, ◌++◌, filter, fold, length}
use Rattle.std.specs.Prelude.{Option, Some, None, unwrap_or, Ok, if◌then◌else◌}
use Rattle.mc_base.specs.declared.cid.Cid.{Cid}
use Rattle.mc_model.specs.declared.block.Block.{Block}
use Rattle.mc_model.specs.declared.block.Stored.{Stored}
use Rattle.mc_model.specs.Events.{Event, Store, Process, processed_mark, processed_queue}
use Rattle.mc_model.specs.Graph.{has}
use Rattle.mc_model.specs.Front.{is_among, gaps}
use Rattle.mc_model.specs.Kept.{Kept, processed, bytes_at, is_stored}
use Rattle.mc_model.specs.Offer.{offer}
use Rattle.mc_model.specs.State.{durable_of, vertices}
use Rattle.mc_model.specs.Wanted.{Queue, want, without}
use Rattle.mc_keep.specs.declared.changes.Changes.{Changes}
use Rattle.mc_keep.specs.Changes.{no_changes, row_count, changed}
use Rattle.mc_keep.specs.Tables.{RowsFit, FrontFits, ChangesFit}
use Rattle.mc_front.specs.Front.{mark_over}
use Rattle.mc_plan.specs.declared.uptakes.After.{After}
use Rattle.mc_plan.specs.declared.uptakes.Uptake.{Uptake}

-- nothing, or just these bytes
abbrev pub IsNoOther : Option (List ℕ) → List ℕ → Type 0
IsNoOther None bytes = ⊤
IsNoOther (Some other) bytes = other ≡ bytes

-- the links of a block that are not processed once it is
abbrev pub open_links : Kept → Block → List Cid
open_links kept block = filter (λ c. not (has c (kept.order ++ block.cid ∷ []))) block.links

-- the block is good and not processed, no other bytes are stored under its identifier, and these of its links are not
-- processed
pub record IsNew (kept : Kept) (block : Block) (bytes : List ℕ) (links : List Cid) : Type 0 where
  pub good : offer block.cid bytes ≡ Ok block
  pub new : is_among kept.order block.cid ≡ false
  pub known : IsNoOther (bytes_at kept.graph block.cid) bytes
  pub linked : links ≡ open_links kept block

-- the changes that store these bytes, unless they are stored
abbrev pub store_change : List Stored → Cid → List ℕ → Option Changes
store_change graph cid bytes =
    if is_stored graph cid then None else Some (record no_changes { store = record { cid = cid; bytes = bytes } ∷ [] })

-- the changes process these blocks and nothing else, where `whole` says whether every gap is wanted
pub record Processes (kept : Kept) (whole : Bool) (blocks : List Block) (cids : List Cid) (changes : Changes)
    : Type 0 where
  pub only : changes.store ≡ []
  pub marks : changes.marks ≡ cids
  pub rows : RowsFit (processed kept) blocks changes
  pub ordinary : (changes.two ≡ false) × (changes.upto ≡ None)
  pub front : FrontFits (processed kept) blocks changes
  pub mark : unwrap_or changes.mark kept.mark ≡ mark_over whole kept.mark (processed kept ++ blocks)

-- the uptake stores the block, unless it is stored, and processes it
pub record IsUptake (kept : Kept) (whole : Bool) (block : Block) (bytes : List ℕ) (uptake : Uptake) : Type 0 where
  pub block_is_new : IsNew kept block bytes uptake.after.links
  pub store : uptake.store ≡ store_change kept.graph block.cid bytes
  pub process : Processes kept whole (block ∷ []) (block.cid ∷ []) uptake.process
  pub gaps_left : uptake.after.gaps ≡ length (gaps (processed kept ++ block ∷ []))

-- an uptake for some block
pub record IsSomeUptake (kept : Kept) (whole : Bool) (uptake : Uptake) : Type 0 where
  pub block : Block
  pub bytes : List ℕ
  pub plans : IsUptake kept whole block bytes uptake

-- what holds of an uptake over every keeper
pub record IsShaped (uptake : Uptake) : Type 0 where
  pub store : IfSome uptake.store (λ store. (store.marks ≡ []) × (store.mark ≡ None) × (row_count store ≡ 1))
  pub only : uptake.process.store ≡ []
  pub marks : uptake.process.marks ≡ uptake.after.cid ∷ []

-- these blocks are wanted, each unless it is
abbrev pub wants : Queue → List Cid → Queue
wants q cids = fold (want []) q cids

-- the changes may be committed, and leave the mark, the gaps and the wanted set that the definitions give
pub record IsReady (kept : Kept) (whole : Bool) (changes : Changes) (after : After) : Type 0 where
  pub fits : ChangesFit kept changes
  pub mark : unwrap_or changes.mark kept.mark ≡ processed_mark whole (durable_of kept) (kept.order ++ changes.marks)
  pub gaps_left : after.gaps ≡ length (gaps (processed (changed kept changes)))
  pub wanted : (q : Queue) →
      processed_queue (durable_of kept) q changes.marks ≡ wants (without q changes.marks) after.links

-- the rows of an uptake
abbrev pub uptake_rows : Uptake → ℕ
uptake_rows uptake = row_count uptake.process + 1

-- the events of an uptake
abbrev pub with_store : Option Changes → List Event → List Event
with_store None events = events
with_store (Some store) events = Store (vertices store.store) ∷ events

abbrev pub uptake_events : Uptake → List Event
uptake_events uptake = with_store uptake.store (Process uptake.process.marks ∷ [])
