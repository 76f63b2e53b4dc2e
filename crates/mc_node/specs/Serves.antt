-- What a call of a worker does to the log of a sealed node.
use Rattle.std.specs.Prelude.{◌≡◌, ⊤, ◌⊎◌, ℕ, Bool, true, false, not, cond, List, length, Option, Result, Ok, Err}
use Rattle.std.specs.Prelude.{IfOk, IfSome}
use Rattle.mc_base.specs.Causes.{Rose}
use Rattle.mc_base.specs.Told.{Told}
use Rattle.mc_base.specs.declared.cid.Cid.{Cid}
use Rattle.mc_fetch.specs.declared.job.Delivered.{Delivered}
use Rattle.mc_fetch.specs.declared.job.Found.{Found}
use Rattle.mc_fetch.specs.declared.job.Job.{Job}
use Rattle.mc_model.specs.Events.{Event}
use Rattle.mc_model.specs.Graph.{has}
use Rattle.mc_model.specs.Wanted.{Queue, give_back}
use Rattle.mc_core.specs.AnswersTo.{IsAnswerTo}
use Rattle.mc_core.specs.Calls.{Does as Makes, Faults, Stays}
use Rattle.mc_core.specs.Counted.{capped}
use Rattle.mc_core.specs.Events.{ReplicaState}
use Rattle.mc_core.specs.Jobs.{DeliverEvents, NextEvents, NextShort, WantsAfter, found_in, is_known, tried_first}
use Rattle.mc_core.specs.Reads.{read_refusal}
use Rattle.mc_core.specs.Refusals.{Is}
use Rattle.mc_drain.specs.JobCalls.{GivesBack}
use Rattle.mc_drain.specs.Words.{Begins}
use Rattle.mc_worker.specs.declared.handover.Handover.{Handover}
use Rattle.mc_worker.specs.declared.ends.ShopError.{ShopError}
use Rattle.mc_worker.specs.declared.ends.ShopError.TheVariants.{KeeperFault, Stopped, Spent, Memory}
use Rattle.mc_node.specs.Items.{Item, Shown, has_halted, root, state_in}
use Rattle.mc_node.specs.Jobs.{KeepsLimit, StopsWhere, hand_over, has_processed, note_if}
use Rattle.mc_node.specs.Moves.{Adds, KeepsRun}
use Rattle.mc_node.specs.Ties.{Goes, IsGrowing, IsMoment}

-- whether the keeper failed in a call
abbrev pub keeper_fails : {T : Type 0} → Result T ShopError → Bool
keeper_fails (Ok value) = false
keeper_fails (Err KeeperFault) = true
keeper_fails (Err Stopped) = false
keeper_fails (Err Spent) = false
keeper_fails (Err Memory) = false

-- What a call does to a replica whose keeper tells, by its answer: the events of the replica's own call with this
-- answer have happened, or a fault of the keeper has cut them short; one that had stopped is as it was; and so much is
-- done at the limit, and for want of memory.
abbrev pub WorkerCall : {T : Type 0} → (ReplicaState → List Event → T → Type 0) → (ReplicaState → ReplicaState → Type 0)
    → (ReplicaState → ReplicaState → Type 0) → Result T ShopError → Type 0 → ReplicaState → ReplicaState → Type 0
WorkerCall Events Spends Short (Ok value) rose s new = Makes (Is (read_refusal s)) (Events s) value s new
WorkerCall Events Spends Short (Err KeeperFault) rose s new = Faults (Events s) rose s new
WorkerCall Events Spends Short (Err Stopped) rose s new = new ≡ s
WorkerCall Events Spends Short (Err Spent) rose s new = Spends s new
WorkerCall Events Spends Short (Err Memory) rose s new = Short s new

-- when an answer comes: `Stopped` exactly where the replica had stopped, and else `Spent` exactly where, as its keeper
-- tells, as many blocks are processed as the limit says
pub record AnswersAt {T : Type 0} (limit : ℕ) (result : Result T ShopError) (now : Shown) : Type 0 where
  pub stopped : StopsWhere now.stopped result
  pub spent : IfSome now.told (λ kept. KeepsLimit limit (capped (length kept.order)) result)

-- A worker's call between two moments, with the log that it took and the one that it gave back: it is a call of the
-- replica between a moment of the one and a moment of the other, no call of the keeper has failed from the root to the
-- first moment, unless the replica has stopped, and the log has got the entry of a halt exactly where the keeper failed
-- in this call, and else that of a fetched block where the call processed one.
pub record ServesAt (failed fetched : Bool) (At : Shown → Type 0) (Call : Type 0 → ReplicaState → ReplicaState → Type 0)
    (Wants : Bool → Queue → Queue → Type 0) (old : List Item) (before : Shown) (new : List Item) (after : Shown)
    : Type 0 where
  pub was : IsMoment old before
  pub is : IsMoment new after
  pub since : has_halted old ≡ false → Goes false (root old) before
  pub halted : before.stopped ≡ has_halted old
  pub at : At before
  pub call : Told (state_in before) (state_in after) (Call (Rose before.own after.own))
  pub goes : Goes failed before after
  pub keeps : KeepsRun before after
  -- what is wanted, over every keeper
  pub wants : Wants before.stopped before.run.queue after.run.queue
  pub notes : Adds (note_if failed fetched) after old new
  pub grows : IsGrowing old

-- such a call between some two moments
abbrev pub Serves : Bool → Bool → (Shown → Type 0) → (Type 0 → ReplicaState → ReplicaState → Type 0) → (Bool → Queue
    → Queue → Type 0) → List Item → List Item → Type 0
Serves failed fetched At Call Wants old new =
    (before : Shown) × (after : Shown) × ServesAt failed fetched At Call Wants old before new after

-- the block, where it is in flight, at the back of those that wait
abbrev pub backed : Cid → Queue → Queue
backed cid q = cond (has cid q.flight) (give_back q cid) q

-- what is wanted after a call that asks for a job, by its answer: after a want of memory no job began, or that of the
-- first block that waited came back
abbrev pub NextWants : Result (Option Job) ShopError → Bool → Queue → Queue → Type 0
NextWants (Ok job) stopped q left = Begins q left job
NextWants (Err KeeperFault) stopped q left = ⊤
NextWants (Err Stopped) stopped q left = left ≡ q
NextWants (Err Spent) stopped q left = left ≡ q
NextWants (Err Memory) stopped q left = (left ≡ q) ⊎ (left ≡ tried_first q q.waiting)

-- and after a delivery: after a want of memory the block is at the back of those that wait
abbrev pub DeliverWants : Cid → Result Delivered ShopError → Bool → Queue → Queue → Type 0
DeliverWants cid (Ok delivered) stopped q left =
    WantsAfter delivered q left cid × (is_known delivered ≡ not (has cid q.flight))
DeliverWants cid (Err KeeperFault) stopped q left = ⊤
DeliverWants cid (Err Stopped) stopped q left = left ≡ q
DeliverWants cid (Err Spent) stopped q left = left ≡ backed cid q
DeliverWants cid (Err Memory) stopped q left = (left ≡ backed cid q) ⊎ (left ≡ give_back q cid)

-- and after a job was given back
abbrev pub BackWants : Cid → Bool → Queue → Queue → Type 0
BackWants cid true q left = left ≡ q
BackWants cid false q left = left ≡ backed cid q

-- for want of memory no job began, or the first block that waited is at the back
abbrev pub NextStays : ReplicaState → ReplicaState → Type 0
NextStays s new = (new ≡ s) ⊎ NextShort s new

-- a call of the replica that asks for a job below this limit
abbrev pub NextAt : ℕ → Result (Option Job) ShopError → List Item → Shown → List Item → Shown → Type 0
NextAt limit result =
    ServesAt (keeper_fails result) false (AnswersAt limit result) (WorkerCall NextEvents Stays NextStays result)
    (NextWants result)

-- A delivery of this for a block below this limit, by what the replica answers. At the limit, and for want of memory,
-- the block is at the back of those that wait, where it was in flight.
abbrev pub DeliversAt : ℕ → Cid → Found → Result Delivered ShopError → List Item → Shown → List Item → Shown → Type 0
DeliversAt limit cid found result =
    ServesAt (keeper_fails result) (has_processed result) (AnswersAt limit result)
    (WorkerCall (λ s. DeliverEvents s cid (found_in found)) (GivesBack cid) (GivesBack cid) result)
    (DeliverWants cid result)

-- The same, by what is handed over; and over every keeper the answer says what was found.
pub record HandsAt (limit : ℕ) (cid : Cid) (found : Found) (result : Result Handover ShopError)
    (old : List Item) (before : Shown) (new : List Item) (after : Shown) : Type 0 where
  pub answer : Result Delivered ShopError
  pub is : result ≡ hand_over answer
  pub does : DeliversAt limit cid found answer old before new after
  pub says : IfOk answer (IsAnswerTo cid (found_in found))

abbrev pub DeliverDoes : ℕ → Cid → Found → Result Handover ShopError → List Item → List Item → Type 0
DeliverDoes limit cid found result old new =
    (before : Shown) × (after : Shown) × HandsAt limit cid found result old before new after

-- a job of this block that is given back, between two moments
abbrev pub BackAt : Cid → List Item → Shown → List Item → Shown → Type 0
BackAt cid = ServesAt false false (λ now. ⊤) (λ rose. GivesBack cid) (BackWants cid)

-- a job of this block that is given back
abbrev pub BackDoes : Cid → List Item → List Item → Type 0
BackDoes cid = Serves false false (λ now. ⊤) (λ rose. GivesBack cid) (BackWants cid)
