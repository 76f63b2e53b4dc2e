-- What a work and a repair of a replica lead to over its peers, and what is answered for them.
use Rattle.std.specs.Prelude.{◌≡◌, ℕ, Bool, true, false, List, Option, Some, None, Result, Ok, Err}
use Rattle.std.specs.Option.{option_map}
use Rattle.mc_base.specs.Told.{Told}
use Rattle.mc_fetch.specs.Fits.{Map}
use Rattle.mc_fetch.specs.Offers.{found_by}
use Rattle.mc_fetch.specs.Peers.{places_of}
use Rattle.mc_model.specs.Draining.{queue_in}
use Rattle.mc_model.specs.State.{Running}
use Rattle.mc_model.specs.Wanted.{Queue}
use Rattle.mc_core.specs.Events.{ReplicaState}
use Rattle.mc_drain.specs.Finds.{Finds}
use Rattle.mc_drain.specs.Repairs.{RepairLeads, RepairWants, has_walked}
use Rattle.mc_drain.specs.Works.{WorkLeads, WorkWants}
use Rattle.mc_drain.specs.declared.repairing.Repaired.{Repaired}
use Rattle.mc_drain.specs.declared.repairing.Repaired.TheVariants as repaired
use Rattle.mc_drain.specs.declared.working.WorkError.{WorkError}
use Rattle.mc_drain.specs.declared.working.WorkError.TheVariants.{KeeperFault, PeerFault, Stopped, Memory}
use Rattle.mc_drain.specs.declared.working.Worked.{Worked}
use Rattle.mc_drain.specs.declared.working.Worked.TheVariants as worked
use Rattle.mc_script.specs.declared.reply.Reply.{Reply}
use Rattle.mc_script.specs.declared.reply.Reply.TheVariants as reply
use Rattle.mc_seats.specs.declared.error.ActError.{ActError}
use Rattle.mc_seats.specs.declared.error.ActError.TheVariants as act
use Rattle.mc_seats.specs.Fetching.{first_in_front, offers_of}
use Rattle.mc_seats.specs.Worlds.{Place, state_at}

-- how many blocks a repair processes at most, and a work
abbrev pub repair_budget : ℕ
repair_budget = 1048576

abbrev pub budget_of : Option ℕ → ℕ
budget_of None = repair_budget
budget_of (Some budget) = budget

-- what is found for each block among these peers, where all of them tell
abbrev pub offered_by : List Place → Option Map
offered_by peers = found_by (option_map places_of (offers_of peers))

-- all that is found among them: where some are silent, what is found in front of the first of these, and is planted at it
abbrev pub finds_of : List Place → Finds
finds_of peers = record { all = offered_by peers; surely = first_in_front None peers }

-- what is answered for a work, and for a repair
abbrev pub worked_reply : Worked → Reply
worked_reply (worked.Done processed missing bad) = reply.Worked processed missing bad
worked_reply (worked.Again processed) = reply.Again processed

abbrev pub repaired_reply : Repaired → Reply
repaired_reply repaired.Clean = reply.Clean
repaired_reply (repaired.Open gaps) = reply.OpenGaps gaps
repaired_reply (repaired.Again processed) = reply.Again processed

-- what is answered where it gave no answer
abbrev pub broken_reply : WorkError → Result Reply ActError
broken_reply KeeperFault = Ok reply.FaultKeeper
broken_reply PeerFault = Ok reply.FaultPeer
broken_reply Stopped = Ok reply.Stopped
broken_reply Memory = Err act.Memory

-- P ties what ran and what runs
abbrev pub RunsTo : (Running → Running → Type 0) → Option Running → Option Running → Type 0
RunsTo P None new = ⊥
RunsTo P (Some old) None = ⊥
RunsTo P (Some old) (Some new) = P old new

-- what a work leaves of what runs, but for what is wanted
abbrev pub WorkOn : Running → Running → Type 0
WorkOn old new = (new.walk ≡ old.walk) × (new.whole ≡ old.whole) × (new.batch ≡ old.batch)

-- and a repair, by whether its walk has come to its end: then every gap is wanted
abbrev pub RepairOn : Bool → Running → Running → Type 0
RepairOn true old new = (new.whole ≡ true) × (new.batch ≡ old.batch)
RepairOn false old new = new.batch ≡ old.batch

-- What a work or a repair leaves of a replica that runs on: P ties what ran and what runs, W says what is wanted, and
-- where the content is told it has led to this.
pub record Pulled (P : Running → Running → Type 0) (W : Queue → Type 0) (Leads : ReplicaState → ReplicaState → Type 0)
    (p q : Place) : Type 0 where
  pub runs : RunsTo P p.run q.run
  pub wants : W (queue_in q.run)
  pub silent : p.content ≡ None → q.content ≡ None
  pub planted_same : q.planted ≡ p.planted
  pub told : Told (state_at p) (state_at q) Leads

-- a work over these peers came to this, and the replica runs on
abbrev pub WorksTo : List Place → ℕ → Result Worked WorkError → Place → Place → Type 0
WorksTo peers budget result p q =
    Pulled WorkOn (WorkWants result) (WorkLeads budget (finds_of peers) result) p q

-- the same of a repair
abbrev pub RepairsTo : List Place → Result Repaired WorkError → Place → Place → Type 0
RepairsTo peers result p q =
    Pulled (RepairOn (has_walked result)) (RepairWants result) (RepairLeads repair_budget (finds_of peers) result) p q

-- and this is answered for it
pub record WorkDone (peers : List Place) (budget : ℕ) (p q : Place) (reply : Reply) : Type 0 where
  pub value : Worked
  pub says : reply ≡ worked_reply value
  pub works : WorksTo peers budget (Ok value) p q

pub record RepairDone (peers : List Place) (p q : Place) (reply : Reply) : Type 0 where
  pub value : Repaired
  pub says : reply ≡ repaired_reply value
  pub repairs : RepairsTo peers (Ok value) p q
