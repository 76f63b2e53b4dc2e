-- What the calls on wanted blocks do: jobs that begin, are given back, or are delivered.
use Rattle.std.specs.Prelude.{◌≡◌, ⊤, ℕ, Bool, true, false, List, [], ◌∷◌, length, Option, Some, None, Result, Ok, Err}
use Rattle.std.specs.Prelude.{IfSome}
use Rattle.mc_base.specs.declared.cid.Cid.{Cid}
use Rattle.mc_model.specs.declared.block.Block.{Block}
use Rattle.mc_model.specs.Draining.{delivery, queue_in}
use Rattle.mc_model.specs.Events.{Event, Want, GiveBack}
use Rattle.mc_model.specs.Found.{damage_number}
use Rattle.mc_model.specs.Graph.{has}
use Rattle.mc_model.specs.Kept.{bytes_at}
use Rattle.mc_model.specs.Offer.{Damage, offer}
use Rattle.mc_model.specs.State.{Durable, kept_of}
use Rattle.mc_model.specs.Wanted.{Queue, start_first, give_back, to_missing, to_bad, without}
use Rattle.mc_fetch.specs.declared.job.Job.{Job}
use Rattle.mc_fetch.specs.declared.job.Found.{Found}
use Rattle.mc_fetch.specs.declared.job.Found.TheVariants.{Bytes, Missing as NotFound}
use Rattle.mc_fetch.specs.declared.job.Delivered.{Delivered}
use Rattle.mc_fetch.specs.declared.job.Delivered.TheVariants.{Processed, Missing, Bad, Known}
use Rattle.mc_queue.specs.Parts.{first_of}
use Rattle.mc_plan.specs.declared.deliveries.Taken.{Taken}
use Rattle.mc_plan.specs.declared.error.CoreError.{CoreError}
use Rattle.mc_plan.specs.declared.uptakes.Uptake.{Uptake}
use Rattle.mc_plan.specs.Deletes.{OutsideIs}
use Rattle.mc_plan.specs.Events.{ReplicaState, Goes, Breaks}
use Rattle.mc_plan.specs.Uptakes.{uptake_events, wants}
use Rattle.mc_plan.specs.Refusals.{ByKind, kind_of}

-- what waits first in a replica
abbrev pub first_waiting : ReplicaState → Option Cid
first_waiting s = first_of (queue_in s.state.run).waiting

-- A job begins for the first block that waits, with the bytes that are stored under it; none does where nothing waits.
abbrev pub NextEvents : ReplicaState → List Event → Option Job → Type 0
NextEvents s events None = (first_waiting s ≡ None) × (events ≡ [])
NextEvents s events (Some job) =
    (first_waiting s ≡ Some job.cid) × (job.own ≡ bytes_at (kept_of s.state.durable).graph job.cid)
    × (events ≡ Want ∷ [])

-- a want of memory leaves that block at the back of those that wait
abbrev pub NextShort : ReplicaState → ReplicaState → Type 0
NextShort s left = (c : Cid) × (first_waiting s ≡ Some c) × Goes (Want ∷ GiveBack c ∷ []) s left

-- the wanted set once a job was begun and given back
abbrev pub tried_first : Queue → List Cid → Queue
tried_first q [] = q
tried_first q (c ∷ rest) = give_back (start_first q (c ∷ rest)) c

-- what is wanted after a call that begins a job, over every keeper
abbrev pub NextWants : {T : Type 0} → Result T CoreError → Queue → Queue → Type 0
NextWants (Ok job) q left = left ≡ start_first q q.waiting
NextWants (Err error) q left = ByKind (left ≡ q) ⊤ (left ≡ tried_first q q.waiting) (kind_of error)

-- the bytes that were found, or none
abbrev pub found_in : Found → Option (List ℕ)
found_in (Bytes bytes) = Some bytes
found_in NotFound = None

-- what is answered for a block in flight: no bytes were found, they are damaged, or they are a block, which is
-- processed
abbrev pub IsDelivered : Durable → Cid → Option (List ℕ) → Delivered → Type 0
IsDelivered durable cid found (Processed position) =
    (bytes : List ℕ) × (block : Block) × (found ≡ Some bytes) × (offer cid bytes ≡ Ok block)
    × (position ≡ length durable.order)
IsDelivered durable cid found Missing = found ≡ None
IsDelivered durable cid found (Bad damage) =
    (bytes : List ℕ) × (why : Damage) × (found ≡ Some bytes) × (offer cid bytes ≡ Err why)
    × (damage ≡ damage_number why)
IsDelivered durable cid found Known = ⊥

-- a delivery, by whether the block is in flight
abbrev pub DeliversIn : Bool → Durable → Cid → Option (List ℕ) → List Event → Delivered → Type 0
DeliversIn false durable cid found events answer = (answer ≡ Known) × (events ≡ [])
DeliversIn true durable cid found events answer =
    (events ≡ delivery durable.graph cid found) × IsDelivered durable cid found answer

abbrev pub DeliverEvents : ReplicaState → Cid → Option (List ℕ) → List Event → Delivered → Type 0
DeliverEvents s cid found = DeliversIn (has cid (queue_in s.state.run).flight) s.state.durable cid found

-- a want of memory leaves the block, which was in flight, at the back of those that wait
abbrev pub DeliverShort : ReplicaState → Cid → ReplicaState → Type 0
DeliverShort s cid left = (has cid (queue_in s.state.run).flight ≡ true) × Goes (GiveBack cid ∷ []) s left

-- whether it was no longer in flight
abbrev pub is_known : Delivered → Bool
is_known (Processed position) = false
is_known Missing = false
is_known (Bad damage) = false
is_known Known = true

-- what is wanted after a delivery, over every keeper: of a processed block some links
abbrev pub WantsAfter : Delivered → Queue → Queue → Cid → Type 0
WantsAfter (Processed position) q left cid = (links : List Cid) × (left ≡ wants (without q (cid ∷ [])) links)
WantsAfter Missing q left cid = left ≡ to_missing q cid
WantsAfter (Bad damage) q left cid = left ≡ to_bad q cid damage
WantsAfter Known q left cid = left ≡ q

abbrev pub DeliverWants : Result Delivered CoreError → Queue → Queue → Cid → Type 0
DeliverWants (Ok delivered) q left cid = WantsAfter delivered q left cid
DeliverWants (Err error) q left cid = ByKind (left ≡ q) ⊤ (left ≡ give_back q cid) (kind_of error)

-- the commits of a block that was found
abbrev pub TakesArrival : {T : Type 0} → Uptake → Type 0 → Result T CoreError → ReplicaState → ReplicaState → Type 0
TakesArrival uptake rose (Ok done) s new = Goes (uptake_events uptake) s new
TakesArrival uptake rose (Err error) s new =
    OutsideIs (Breaks (uptake_events uptake) rose s new) (Goes (GiveBack uptake.after.cid ∷ []) s new) error

-- the bytes are this block under the identifier
abbrev pub IsTaken : Cid → Taken → Type 0
IsTaken cid taken = (offer cid taken.bytes ≡ Ok taken.block) × (taken.block.cid ≡ cid)
