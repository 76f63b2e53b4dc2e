-- Blocks of an inbox that are given back.
use Rattle.std.proofs.Common.{◌≡◌, Bool, true, false, cond, List, [], ◌∷◌, Option, Some, None, refl, sym, subst, ap}
use Rattle.std.specs.Prelude.{fold}
use Rattle.mc_base.specs.Told.{Told}
use Rattle.mc_model.specs.declared.block.Stored.{Stored}
use Rattle.mc_model.specs.Draining.{all_given_back}
use Rattle.mc_model.specs.Events.{Event, GiveBack}
use Rattle.mc_model.specs.Graph.{has}
use Rattle.mc_model.specs.Kept.{Kept, cids_of}
use Rattle.mc_model.specs.State.{Running, durable_of}
use Rattle.mc_model.specs.Wanted.{Queue, give_back, others}
use Rattle.mc_keep.specs.declared.fuse.Fuse.{Fuse}
use Rattle.mc_inbox.specs.Groups.{group_of}
use Rattle.mc_plan.specs.Counted.{run_of}
use Rattle.mc_plan.specs.Events.{ReplicaState, Goes, HappensIn, state_of}
use Rattle.mc_plan.proofs.EventFacts.{goes_nowhere, goes_then}
use Rattle.mc_plan.proofs.JobFacts.{back_goes, with_queue}
use Rattle.mc_group.specs.Inboxes.{given_back, given_back_queue}

abbrev at : Kept → Option Fuse → Running → ReplicaState
at kept fuse run = record { state = record { durable = durable_of kept; run = Some run }; fuse = fuse }

-- one more
pub one_back : (q : Queue) (item : Stored) (items : List Stored) → given_back_queue (cond (has item.cid q.flight) (give_back q item.cid) q) items ≡ given_back_queue q (item ∷ items)
one_back q item items =
    elim (has item.cid q.flight) as (λ b. given_back_queue (cond b (give_back q item.cid) q) items ≡ fold give_back q (cids_of (cond b (item ∷ group_of (others q.flight item.cid) items) (group_of q.flight items)))) [
      | true ↦ refl
      | false ↦ refl
    ]

given_goes : (items : List Stored) (kept : Kept) (fuse : Option Fuse) (run : Running) → Goes (given_back run.queue items) (at kept fuse run) (at kept fuse (with_queue run (given_back_queue run.queue items)))
given_goes [] kept fuse run = goes_nowhere (at kept fuse run)
given_goes (item ∷ items) kept fuse run = by_test (has item.cid run.queue.flight) refl (given_goes items kept fuse run) (given_goes items kept fuse (with_queue run (give_back run.queue item.cid)))
  where
    by_test : (b : Bool) → has item.cid run.queue.flight ≡ b
        → Goes (given_back run.queue items) (at kept fuse run) (at kept fuse (with_queue run (given_back_queue run.queue items)))
        → Goes (given_back (give_back run.queue item.cid) items) (at kept fuse (with_queue run (give_back run.queue item.cid))) (at kept fuse (with_queue run (given_back_queue (give_back run.queue item.cid) items)))
        → Goes (all_given_back (cids_of (cond b (item ∷ group_of (others run.queue.flight item.cid) items) (group_of run.queue.flight items)))) (at kept fuse run)
        (at kept fuse (with_queue run (fold give_back run.queue (cids_of (cond b (item ∷ group_of (others run.queue.flight item.cid) items) (group_of run.queue.flight items))))))
    by_test true there out in_ =
        goes_then (GiveBack item.cid ∷ []) (given_back (give_back run.queue item.cid) items) (at kept fuse run) (at kept fuse (with_queue run (give_back run.queue item.cid)))
        (at kept fuse (with_queue run (given_back_queue (give_back run.queue item.cid) items))) (back_goes kept fuse run item.cid there) in_
    by_test false there out in_ = out

pub given_told : (told : Option Kept) (fuse : Option Fuse) (stop : Bool) (run : Running) (items : List Stored) (q : Queue) → q ≡ given_back_queue run.queue items
    → Told (state_of told fuse (run_of stop run)) (state_of told fuse (run_of stop (with_queue run q))) (λ s new. HappensIn s.state.run (λ run. given_back run.queue items) s new)
given_told None fuse stop run items q is = tt
given_told (Some kept) fuse true run items q is = refl
given_told (Some kept) fuse false run items q is = subst (λ r. Goes (given_back run.queue items) (at kept fuse run) (at kept fuse (with_queue run r))) (sym is) (given_goes items kept fuse run)
