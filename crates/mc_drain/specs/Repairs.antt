-- What the walk of a repair, and a repair, lead to.
use Rattle.std.specs.Prelude.{◌≡◌, ◌≢◌, ◌≤◌, ◌+◌, ◌-◌, ⊤, ℕ, Bool, true, false, List, [], Option, Some, Result, Ok, Err}
use Rattle.std.specs.Prelude.{IfSome}
use Rattle.mc_base.specs.declared.cid.Cid.{Cid}
use Rattle.mc_fetch.specs.Fits.{Map}
use Rattle.mc_model.specs.Drain.{IsDrained}
use Rattle.mc_model.specs.Draining.{offers_of, queue_in}
use Rattle.mc_model.specs.Events.{GoesOn}
use Rattle.mc_model.specs.Graph.{cids_in}
use Rattle.mc_model.specs.Repairing.{HasRepaired, with_gaps}
use Rattle.mc_model.specs.State.{Durable, IsSound, kept_of, wanted_in}
use Rattle.mc_model.specs.Wanted.{Queue}
use Rattle.mc_core.specs.Counted.{capped}
use Rattle.mc_core.specs.Events.{ReplicaState}
use Rattle.mc_core.specs.Walks.{gap_count, settled_with}
use Rattle.mc_core.specs.declared.Settled.{Settled}
use Rattle.mc_core.specs.declared.Settled.TheVariants as settled
use Rattle.mc_drain.specs.declared.end.DrainEnd.{DrainEnd}
use Rattle.mc_drain.specs.declared.end.DrainEnd.TheVariants as end
use Rattle.mc_drain.specs.declared.repairing.Repaired.{Repaired}
use Rattle.mc_drain.specs.declared.repairing.Repaired.TheVariants.{Clean, Open, Again}
use Rattle.mc_drain.specs.declared.working.WorkError.{WorkError}
use Rattle.mc_drain.specs.declared.working.WorkError.TheVariants.{KeeperFault, PeerFault, Stopped, Memory}
use Rattle.mc_drain.specs.Finds.{Finds, found_from, surely_from}
use Rattle.mc_drain.specs.Leads.{FuseGoes, HasBrokenOff, commits_between, count}
use Rattle.mc_drain.specs.Reached.{AreReached}
use Rattle.mc_drain.specs.Works.{IsAtEnd, IsBefore, IsPartOf, IsPartly, NoneLost, came_between, keeper_broke}
use Rattle.mc_drain.specs.Works.{limit_of, stored_bytes}

-- how many commits a step of a walk may make, by whether it was the last one
abbrev pub step_commits : Result Bool DrainEnd → ℕ
step_commits (Ok true) = 1
step_commits (Ok false) = 0
step_commits (Err end) = 1

-- What steps of a walk lead to, of which the last alone may have failed: nothing is processed, the fuse burns by so
-- many commits at most, and a repair that had come to the first state has come to the second, or has broken off there.
pub record Walks (failed : Bool) (most : ℕ) (s new : ReplicaState) : Type 0 where
  pub same : count new ≡ count s
  pub grows : GoesOn s.state.durable new.state.durable
  pub fuse : FuseGoes failed most s.fuse new.fuse
  pub goes : failed ≡ false → (map : Map) (kept : List Cid) (old : Durable) (start : List Cid)
      → HasRepaired map kept old start s.state → HasRepaired map kept old start new.state
  pub breaks : failed ≡ true → (map : Map) (kept : List Cid) (old : Durable) (start : List Cid)
      → HasRepaired map kept old start s.state → HasBrokenOff map old (with_gaps old start) new.state.durable

-- what a repair begins with: what is wanted, and the gaps
abbrev pub repair_start : ReplicaState → List Cid
repair_start s = with_gaps s.state.durable (wanted_in s.state.run)

-- what is settled, as an answer
abbrev pub repaired_of : Settled → Repaired
repaired_of settled.Clean = Clean
repaired_of (settled.Open gaps) = Open gaps

-- the answer is what is settled of the gaps that are left; where it is to come again the limit is reached
abbrev pub RepairCounts : ℕ → Result Repaired WorkError → ReplicaState → ReplicaState → Type 0
RepairCounts budget (Ok Clean) s new = settled_with (gap_count (kept_of new.state.durable)) ≡ settled.Clean
RepairCounts budget (Ok (Open gaps)) s new = settled_with (gap_count (kept_of new.state.durable)) ≡ settled.Open gaps
RepairCounts budget (Ok (Again processed)) s new = (processed ≡ came_between s new) × (limit_of budget s ≤ count new)
RepairCounts budget (Err error) s new = ⊤

-- the repair has come so far: each block that was wanted is processed or still wanted, as is what an added block links
-- to, and nothing else is but gaps
abbrev pub IsPartRepaired : Map → ReplicaState → ReplicaState → Type 0
IsPartRepaired map s new =
    HasRepaired map (cids_in s.state.durable.graph) s.state.durable (wanted_in s.state.run) new.state

-- what a repair leads to, by its answer, where it is known what is found
abbrev pub RepairIs : Map → Result Repaired WorkError → ReplicaState → ReplicaState → Type 0
RepairIs map (Ok Clean) s new = IsAtEnd map (repair_start s) s new
RepairIs map (Ok (Open gaps)) s new = IsAtEnd map (repair_start s) s new
RepairIs map (Ok (Again processed)) s new = IsBefore map (repair_start s) s new
RepairIs map (Err KeeperFault) s new = HasBrokenOff map s.state.durable (repair_start s) new.state.durable
RepairIs map (Err PeerFault) s new = IsPartOf map (repair_start s) s new × IsPartRepaired map s new
    × HasBrokenOff map s.state.durable (repair_start s) new.state.durable
RepairIs map (Err Stopped) s new = new ≡ s
RepairIs map (Err Memory) s new = IsPartRepaired map s new
    × HasBrokenOff map s.state.durable (repair_start s) new.state.durable

-- What a repair leads to, by its answer, where these bytes are surely found, whatever else is: as of a work, from what
-- was wanted and the gaps; where the walk may not have come to its end, from what was wanted.
abbrev pub RepairSurely : Map → Result Repaired WorkError → ReplicaState → ReplicaState → Type 0
RepairSurely surely (Ok Clean) s new = IsPartly (repair_start s) s new × IsDrained (offers_of surely) new.state
RepairSurely surely (Ok (Open gaps)) s new = IsPartly (repair_start s) s new × IsDrained (offers_of surely) new.state
RepairSurely surely (Ok (Again processed)) s new =
    IsPartly (repair_start s) s new × NoneLost (offers_of surely) (queue_in new.state.run)
RepairSurely surely (Err KeeperFault) s new = ⊤
RepairSurely surely (Err PeerFault) s new =
    IsPartly (repair_start s) s new × IsPartRepaired (stored_bytes new) s new
RepairSurely surely (Err Stopped) s new = new ≡ s
RepairSurely surely (Err Memory) s new = IsPartRepaired (stored_bytes new) s new

-- where the answer is that no gap is left, the processed blocks are those that the heads reach
abbrev pub RepairReaches : Result Repaired WorkError → ReplicaState → Type 0
RepairReaches (Ok Clean) new = AreReached new.state.durable
RepairReaches (Ok (Open gaps)) new = ⊤
RepairReaches (Ok (Again processed)) new = ⊤
RepairReaches (Err error) new = ⊤

-- how many commits a repair may make: those of a work, and one that clears the mark
abbrev pub repair_commits : Result Repaired WorkError → ReplicaState → ReplicaState → ℕ
repair_commits result s new = commits_between (keeper_broke result) s new + 1

-- What a repair with this budget leads to, where the keeper tells: no block is lost, no more come than the budget, the
-- fuse burns by its commits at most, the state is sound, a clean replica has what its heads reach, and where it is
-- known what is found, the answer is that of the closure of what was wanted and of the gaps, and what is surely found
-- is left nowhere.
pub record RepairLeads (budget : ℕ) (finds : Finds) (result : Result Repaired WorkError) (s new : ReplicaState)
    : Type 0 where
  pub grows : GoesOn s.state.durable new.state.durable
  pub within : count new ≤ count s + budget
  pub fuse : FuseGoes (keeper_broke result) (repair_commits result s new) s.fuse new.fuse
  pub counts : RepairCounts budget result s new
  pub reaches : RepairReaches result new
  pub sound : IsSound new.state
  pub is : (map : Map) → found_from s.state.durable.graph finds.all ≡ Some map → RepairIs map result s new
  pub surely : RepairSurely (surely_from s.state.durable.graph finds) result s new

-- whether the walk of a repair with this answer has come to its end
abbrev pub has_walked : Result Repaired WorkError → Bool
has_walked (Ok value) = true
has_walked (Err KeeperFault) = false
has_walked (Err PeerFault) = true
has_walked (Err Stopped) = false
has_walked (Err Memory) = false

-- the answer where the drain after the walk came to this end
abbrev pub RepairAnswer : DrainEnd → ℕ → Option ReplicaState → Result Repaired WorkError → Type 0
RepairAnswer end.Idle before state result =
    (is : Settled) × (result ≡ Ok (repaired_of is))
    × IfSome state (λ s. is ≡ settled_with (gap_count (kept_of s.state.durable)))
RepairAnswer end.Spent before state result =
    (processed : ℕ) × (result ≡ Ok (Again processed)) × IfSome state (λ s. processed ≡ capped (count s) - before)
RepairAnswer end.KeeperFault before state result = result ≡ Err KeeperFault
RepairAnswer end.PeerFault before state result = result ≡ Err PeerFault
RepairAnswer end.Memory before state result = result ≡ Err Memory

-- why a repair gives no answer whose walk came to no end
abbrev pub walk_error : DrainEnd → WorkError
walk_error end.Idle = Memory
walk_error end.Spent = Memory
walk_error end.KeeperFault = KeeperFault
walk_error end.PeerFault = Memory
walk_error end.Memory = Memory

-- what is wanted after a repair, over every keeper
abbrev pub RepairWants : Result Repaired WorkError → Queue → Type 0
RepairWants (Ok Clean) q = (q.waiting ≡ []) × (q.flight ≡ [])
RepairWants (Ok (Open gaps)) q = (q.waiting ≡ []) × (q.flight ≡ [])
RepairWants (Ok (Again processed)) q = (q.waiting ≢ []) × (q.flight ≡ [])
RepairWants (Err KeeperFault) q = ⊤
RepairWants (Err PeerFault) q = q.flight ≡ []
RepairWants (Err Stopped) q = ⊤
RepairWants (Err Memory) q = q.flight ≡ []
