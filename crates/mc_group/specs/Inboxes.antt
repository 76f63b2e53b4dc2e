-- What the calls on an inbox do. Its blocks are seen as bytes under their identifiers.
use Rattle.std.specs.Prelude.{◌≡◌, ⊤, ℕ, ◌+◌, List, drop, fold, length, Result, Ok, Err}
use Rattle.mc_base.specs.declared.cid.Cid.{Cid}
use Rattle.mc_model.specs.declared.block.Stored.{Stored}
use Rattle.mc_model.specs.Draining.{all_given_back, queue_in}
use Rattle.mc_model.specs.Events.{Event}
use Rattle.mc_model.specs.Kept.{cids_of}
use Rattle.mc_model.specs.Wanted.{Queue, give_back, without}
use Rattle.mc_inbox.specs.Groups.{group_events, group_of}
use Rattle.mc_plan.specs.declared.error.CoreError.{CoreError}
use Rattle.mc_plan.specs.Events.{ReplicaState}
use Rattle.mc_plan.specs.Refusals.{ByKind, kind_of}
use Rattle.mc_plan.specs.Uptakes.{wants}
use Rattle.mc_group.specs.declared.grouped.Grouped.{Grouped}

-- those that are taken up
abbrev pub taken_of : Queue → List Stored → List Stored
taken_of q items = group_of q.flight items

-- each block is counted once: as processed where it is taken up, and else as known
pub record CountsGroup (q : Queue) (items : List Stored) (grouped : Grouped) : Type 0 where
  pub many : grouped.processed ≡ length (taken_of q items)
  pub others : grouped.processed + grouped.known ≡ length items

-- these blocks come in together
pub record GroupEvents (s : ReplicaState) (items : List Stored) (events : List Event) (grouped : Grouped)
    : Type 0 where
  pub are : events ≡ group_events s.state.durable.graph (taken_of (queue_in s.state.run) items)
  pub counts : CountsGroup (queue_in s.state.run) items grouped

-- the blocks of the inbox after that: without those that were taken out, or as they were; where the keeper failed, some
-- first ones may be gone
abbrev pub InboxAfter : Result Grouped CoreError → ℕ → List Stored → List Stored → Type 0
InboxAfter (Ok grouped) limit old new = new ≡ drop limit old
InboxAfter (Err error) limit old new = ByKind (new ≡ old) ((n : ℕ) × (new ≡ drop n old)) (new ≡ old) (kind_of error)

-- what is wanted after that, over every keeper: of the blocks taken up some links
abbrev pub GroupWants : Result Grouped CoreError → List Stored → Queue → Queue → Type 0
GroupWants (Ok grouped) items q left =
    (links : List Cid) × (left ≡ wants (without q (cids_of (taken_of q items))) links)
GroupWants (Err error) items q left = ByKind (left ≡ q) ⊤ (left ≡ q) (kind_of error)

-- those of the inbox that are in flight are given back, one after another
abbrev pub given_back : Queue → List Stored → List Event
given_back q items = all_given_back (cids_of (taken_of q items))

abbrev pub given_back_queue : Queue → List Stored → Queue
given_back_queue q items = fold give_back q (cids_of (taken_of q items))
