-- What a delete does: when it is refused, and which blocks it makes.
use Rattle.std.specs.Prelude.{◌≡◌, ◌≤◌, ◌<◌, ⊤, ◌⊎◌, ℕ, ◌^◌, nat_lt, Bool, true, List, [], ◌∷◌, ◌++◌, length, take}
use Rattle.std.specs.Prelude.{fold, Option, Some, None, Result, Ok, Err, if◌then◌else◌}
use Rattle.std.specs.List.{list_any, list_all}
use Rattle.std.specs.Option.{option_or}
use Rattle.mc_base.specs.declared.cid.Cid.{Cid}
use Rattle.mc_model.specs.declared.block.Block.{Block}
use Rattle.mc_model.specs.declared.delta.Delta.{Delta}
use Rattle.mc_model.specs.Cuts.{IsCuts, IsTooLarge, IsPriorityFull, pairs}
use Rattle.mc_model.specs.Events.{Event, Process}
use Rattle.mc_model.specs.Front.{same_cid}
use Rattle.mc_model.specs.Kept.{Kept, processed, is_stored}
use Rattle.mc_model.specs.Live.{value}
use Rattle.mc_model.specs.Made.{made_bytes, made_cid, next_priority}
use Rattle.mc_model.specs.Offer.{offer, block_max}
use Rattle.mc_model.specs.State.{Running, kept_of}
use Rattle.mc_plan.specs.declared.deletes.Deleted.{Deleted}
use Rattle.mc_plan.specs.declared.deletes.MadeBlock.{MadeBlock}
use Rattle.mc_plan.specs.declared.error.CoreError.{CoreError}
use Rattle.mc_plan.specs.declared.error.CoreError.TheVariants.{BlockTooLarge, PriorityFull, Stopped}
use Rattle.mc_plan.specs.Events.{ReplicaState, Goes, Breaks}
use Rattle.mc_plan.specs.Uptakes.{IsNew, store_change, with_store}
use Rattle.mc_plan.specs.Puts.{Adds, made_block, made_events, next_links}
use Rattle.mc_plan.specs.Refusals.{ByKind, kind_of, key_refusal, clash_refusal}

-- what is kept once a made block is taken up
abbrev pub with_made : Kept → Cid → List ℕ → Kept
with_made kept cid bytes = record {
  graph = if is_stored kept.graph cid then kept.graph else kept.graph ++ record { cid = cid; bytes = bytes } ∷ [];
  order = kept.order ++ cid ∷ [];
  mark = kept.mark;
}

-- the events of blocks of which the first has these links, and each later one links to the one before
abbrev pub chain_events : Kept → List Cid → List Delta → List Event
chain_events kept links [] = []
chain_events kept links (delta ∷ deltas) =
    made_events kept links delta
    ++ chain_events (with_made kept (made_cid links delta) (made_bytes links delta))
    (made_cid links delta ∷ []) deltas

-- the first clash among them
abbrev pub chain_clash : Kept → List Cid → List Delta → Option CoreError
chain_clash kept links [] = None
chain_clash kept links (delta ∷ deltas) =
    option_or (clash_refusal kept (made_cid links delta) (made_bytes links delta))
    (chain_clash (with_made kept (made_cid links delta) (made_bytes links delta)) (made_cid links delta ∷ []) deltas)

-- a priority was left for it
abbrev pub is_left : Delta → Bool
is_left delta = nat_lt delta.priority (2 ^ 64)

-- the deltas of a delete over what is processed
pub record IsDeltas (kept : Kept) (key : List ℕ) (deltas : List Delta) : Type 0 where
  pub cuts : IsCuts (next_links kept) (next_priority (processed kept)) key (pairs (processed kept) key) deltas
  pub left : list_all is_left deltas ≡ true

-- why they are not made, or that they are
abbrev pub DeltasRefusal : Kept → List ℕ → Option CoreError → Type 0
DeltasRefusal kept key refusal =
    ((deltas : List Delta) × IsDeltas kept key deltas × (refusal ≡ chain_clash kept (next_links kept) deltas))
    ⊎ ((refusal ≡ Some PriorityFull)
    × IsPriorityFull (next_links kept) (next_priority (processed kept)) key (pairs (processed kept) key))
    ⊎ ((len : ℕ) × (refusal ≡ Some (BlockTooLarge len))
    × IsTooLarge (next_links kept) (next_priority (processed kept)) key (pairs (processed kept) key) len)

-- the key's refusal comes first, and that of a replica that doesn't run before it
abbrev pub DeleteKeptRefusal : Kept → List ℕ → Option CoreError → Option CoreError → Type 0
DeleteKeptRefusal kept key (Some error) refusal = refusal ≡ Some error
DeleteKeptRefusal kept key None refusal = DeltasRefusal kept key refusal

abbrev pub RunRefusal : Option Running → (Option CoreError → Type 0) → Option CoreError → Type 0
RunRefusal None Refusal refusal = refusal ≡ Some Stopped
RunRefusal (Some run) Refusal refusal = Refusal refusal

abbrev pub DeleteRefusal : ReplicaState → List ℕ → Option CoreError → Type 0
DeleteRefusal s key = RunRefusal s.state.run (DeleteKeptRefusal (kept_of s.state.durable) key (key_refusal key))

-- the blocks of a delete, one after another, and their number
abbrev pub DeleteEvents : ReplicaState → List ℕ → List Event → Deleted → Type 0
DeleteEvents s key events deleted =
    (deltas : List Delta) × IsDeltas (kept_of s.state.durable) key deltas
    × (events ≡ chain_events (kept_of s.state.durable) (next_links (kept_of s.state.durable)) deltas)
    × (deleted.blocks ≡ length deltas)

-- A want of memory leaves the replica as it was, or after some first blocks of the delete, but not all.
abbrev pub DeleteShort : ReplicaState → List ℕ → ReplicaState → Type 0
DeleteShort s key left =
    (left ≡ s) ⊎ ((deltas : List Delta) × (n : ℕ) × IsDeltas (kept_of s.state.durable) key deltas × (n < length deltas)
    × Goes (chain_events (kept_of s.state.durable) (next_links (kept_of s.state.durable)) (take n deltas)) s left)

-- the blocks of a delete
abbrev pub chain_blocks : List Cid → List Delta → List Block
chain_blocks links [] = []
chain_blocks links (delta ∷ deltas) = made_block links delta ∷ chain_blocks (made_cid links delta ∷ []) deltas

-- all blocks of a delete are added
abbrev pub AddsAll : List ℕ → ReplicaState → ReplicaState → Type 0
AddsAll key s new =
    (deltas : List Delta) × IsDeltas (kept_of s.state.durable) key deltas
    × Adds (chain_blocks (next_links (kept_of s.state.durable)) deltas) s new

-- none of them, or some first ones
abbrev pub AddsSome : List ℕ → ReplicaState → ReplicaState → Type 0
AddsSome key s new =
    Adds [] s new
    ⊎ ((deltas : List Delta) × (n : ℕ) × IsDeltas (kept_of s.state.durable) key deltas
    × Adds (chain_blocks (next_links (kept_of s.state.durable)) (take n deltas)) s new)

-- what a delete adds, also where it is cut short
abbrev pub AddsDeleted : List ℕ → Result Deleted CoreError → ReplicaState → ReplicaState → Type 0
AddsDeleted key (Ok deleted) s new = AddsAll key s new
AddsDeleted key (Err error) s new = ByKind (Adds [] s new) (AddsSome key s new) (AddsSome key s new) (kind_of error)

-- a want of memory leaves the value of the key
abbrev pub ShortKeeps : List ℕ → Result Deleted CoreError → ReplicaState → ReplicaState → Type 0
ShortKeeps key (Ok deleted) s left = ⊤
ShortKeeps key (Err error) s left =
    ByKind ⊤ ⊤ (value (processed (kept_of left.state.durable)) key ≡ value (processed (kept_of s.state.durable)) key)
    (kind_of error)

-- The blocks that the code makes, before they are taken up.

-- what is kept once some made blocks are taken up
abbrev pub with_block : Kept → MadeBlock → Kept
with_block kept made = with_made kept made.block.cid made.bytes

abbrev pub with_all : Kept → List MadeBlock → Kept
with_all kept blocks = fold with_block kept blocks

-- whether one of them has the identifier
abbrev pub has_made : List MadeBlock → Cid → Bool
has_made blocks cid = list_any (λ (made : MadeBlock). same_cid cid made.block.cid) blocks

-- the links of the block after them, where the first has these
abbrev pub links_after : List Cid → List MadeBlock → List Cid
links_after links [] = links
links_after links (made ∷ blocks) = links_after (made.block.cid ∷ []) blocks

-- the block is made of these links and this delta, and doesn't clash
pub record IsMade (kept : Kept) (links : List Cid) (delta : Delta) (made : MadeBlock) : Type 0 where
  pub is_block : made.block ≡ made_block links delta
  pub is_bytes : made.bytes ≡ made_bytes links delta
  pub good : length made.bytes ≤ block_max → offer made.block.cid made.bytes ≡ Ok made.block
  pub allowed : clash_refusal kept made.block.cid made.bytes ≡ None
  pub stored : made.known ≡ is_stored kept.graph made.block.cid

-- these are the blocks of these deltas
abbrev pub AreMade : Kept → List Cid → List Delta → List MadeBlock → Type 0
AreMade kept links [] [] = ⊤
AreMade kept links [] (made ∷ blocks) = ⊥
AreMade kept links (delta ∷ deltas) [] = ⊥
AreMade kept links (delta ∷ deltas) (made ∷ blocks) =
    IsMade kept links delta made × AreMade (with_block kept made) (made.block.cid ∷ []) deltas blocks

-- one more block was made, and these are the links of the next one
pub record IsNextMade (kept : Kept) (old : List MadeBlock) (links : List Cid) (delta : Delta) (new : List MadeBlock)
    (next : List Cid) : Type 0 where
  pub made : MadeBlock
  pub is_made : IsMade (with_all kept old) links delta made
  pub is_new : new ≡ old ++ made ∷ []
  pub is_next : next ≡ made.block.cid ∷ []

-- these are the blocks of a delete
pub record IsDelete (kept : Kept) (key : List ℕ) (blocks : List MadeBlock) : Type 0 where
  pub deltas : List Delta
  pub is : IsDeltas kept key deltas
  pub are : AreMade kept (next_links kept) deltas blocks

-- each may be taken up after those before it
abbrev pub AreNext : Kept → List MadeBlock → Type 0
AreNext kept [] = ⊤
AreNext kept (made ∷ blocks) =
    IsNew kept made.block made.bytes [] × (made.known ≡ is_stored kept.graph made.block.cid)
    × AreNext (with_block kept made) blocks

-- the events by which they are
abbrev pub block_events : Kept → MadeBlock → List Event
block_events kept made =
    with_store (store_change kept.graph made.block.cid made.bytes) (Process (made.block.cid ∷ []) ∷ [])

abbrev pub all_events : Kept → List MadeBlock → List Event
all_events kept [] = []
all_events kept (made ∷ blocks) = block_events kept made ++ all_events (with_block kept made) blocks

-- the keeper failed, or memory was wanted, and nothing else
abbrev pub OutsideIs : Type 0 → Type 0 → CoreError → Type 0
OutsideIs failed short error = ByKind ⊥ failed short (kind_of error)

abbrev pub IsOutside : CoreError → Type 0
IsOutside error = OutsideIs ⊤ ⊤ error

-- what happens where one made block is taken up, and where all are
abbrev pub EndsOne : MadeBlock → Type 0 → CoreError → ReplicaState → ReplicaState → Type 0
EndsOne made rose error s new =
    OutsideIs (Breaks (block_events (kept_of s.state.durable) made) rose s new) (new ≡ s) error

abbrev pub TakesOne : {T : Type 0} → MadeBlock → Type 0 → Result T CoreError → ReplicaState → ReplicaState → Type 0
TakesOne made rose (Ok done) s new = Goes (block_events (kept_of s.state.durable) made) s new
TakesOne made rose (Err error) s new = EndsOne made rose error s new

abbrev pub Takes : List MadeBlock → Type 0 → Result Deleted CoreError → ReplicaState → ReplicaState → Type 0
Takes blocks rose (Ok deleted) s new =
    Goes (all_events (kept_of s.state.durable) blocks) s new × (deleted.blocks ≡ length blocks)
Takes blocks rose (Err error) s new =
    OutsideIs (Breaks (all_events (kept_of s.state.durable) blocks) rose s new)
    ((n : ℕ) × (n < length blocks) × Goes (all_events (kept_of s.state.durable) (take n blocks)) s new) error
