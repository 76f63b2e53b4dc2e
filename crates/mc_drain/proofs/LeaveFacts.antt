-- A work or a repair that is left after workers.
use Rattle.std.proofs.Common.{◌≡◌, ℕ, Bool, true, false, Option, Some, None, Err, subst}
use Rattle.std.specs.Prelude.{IfSome}
use Rattle.mc_base.specs.Told.{Told}
use Rattle.mc_model.specs.State.{IsSound}
use Rattle.mc_core.specs.Events.{ReplicaState}
use Rattle.mc_drain.specs.declared.working.WorkError.TheVariants as error
use Rattle.mc_drain.specs.Finds.{Finds}
use Rattle.mc_drain.specs.Leads.{Always, Leads, count}
use Rattle.mc_drain.specs.Repairs.{RepairLeads}
use Rattle.mc_drain.specs.Rounds.{HasWalkedFrom, HasWorkedFrom}
use Rattle.mc_drain.specs.Works.{WorkLeads}
use Rattle.mc_drain.proofs.RepairFacts.{JoinsLaw, RepairBeginsLaw, WholeLaw, repair_broken, repair_recalled}
use Rattle.mc_drain.proofs.WorkFacts.{BeginsLaw, ClosedLaw, DrainedLaw, worked_broken, worked_recalled}

-- the keeper of the workers has failed
pub work_stopped : (begins : BeginsLaw) (closed : ClosedLaw) (drained : DrainedLaw) (down : Bool) (a : Option ReplicaState) → down ≡ true → IfSome a (λ s. IsSound s.state)
    → Told a a (λ s new. (before budget : ℕ) (finds : Finds) (root : ReplicaState) → HasWorkedFrom down before budget finds.all root s → WorkLeads budget finds (Err error.KeeperFault) root new)
work_stopped begins closed drained down None is sound = tt
work_stopped begins closed drained down (Some s) is sound = λ before budget finds root worked.
    worked_broken begins closed drained before budget finds root s sound (subst (λ (b : Bool). HasWorkedFrom b before budget finds.all root s) is worked)

-- a fetch of theirs failed
pub work_left : (begins : BeginsLaw) (closed : ClosedLaw) (drained : DrainedLaw) (down : Bool) (a b : Option ReplicaState) → down ≡ false → IfSome b (λ s. IsSound s.state) → Told a b (λ s new. Leads false (count s) Always s new)
    → Told a b (λ s new. (before budget : ℕ) (finds : Finds) (root : ReplicaState) → HasWorkedFrom down before budget finds.all root s → WorkLeads budget finds (Err error.PeerFault) root new)
work_left begins closed drained down None b is sound leads = tt
work_left begins closed drained down (Some s) None is sound leads = absurd leads
work_left begins closed drained down (Some s) (Some new) is sound leads = λ before budget finds root worked.
    worked_recalled begins closed drained before budget finds root s new sound (subst (λ (b : Bool). HasWorkedFrom b before budget finds.all root s) is worked) leads

-- the same of a repair

pub repair_stopped : (begins : BeginsLaw) (repair_begins : RepairBeginsLaw) (joins : JoinsLaw) (whole : WholeLaw) (closed : ClosedLaw) (drained : DrainedLaw) (down : Bool) (a : Option ReplicaState) → down ≡ true → IfSome a (λ s. IsSound s.state)
    → Told a a (λ s new. (before budget : ℕ) (finds : Finds) (root walked : ReplicaState) → HasWalkedFrom root walked → HasWorkedFrom down before budget finds.all walked s → RepairLeads budget finds (Err error.KeeperFault) root new)
repair_stopped begins repair_begins joins whole closed drained down None is sound = tt
repair_stopped begins repair_begins joins whole closed drained down (Some s) is sound = λ before budget finds root walked here worked.
    repair_broken begins repair_begins joins whole closed drained before budget finds root walked s sound here (subst (λ (b : Bool). HasWorkedFrom b before budget finds.all walked s) is worked)

pub repair_left : (begins : BeginsLaw) (repair_begins : RepairBeginsLaw) (joins : JoinsLaw) (whole : WholeLaw) (closed : ClosedLaw) (drained : DrainedLaw) (down : Bool) (a b : Option ReplicaState) → down ≡ false → IfSome b (λ s. IsSound s.state)
    → Told a b (λ s new. Leads false (count s) Always s new)
    → Told a b (λ s new. (before budget : ℕ) (finds : Finds) (root walked : ReplicaState) → HasWalkedFrom root walked → HasWorkedFrom down before budget finds.all walked s → RepairLeads budget finds (Err error.PeerFault) root new)
repair_left begins repair_begins joins whole closed drained down None b is sound leads = tt
repair_left begins repair_begins joins whole closed drained down (Some s) None is sound leads = absurd leads
repair_left begins repair_begins joins whole closed drained down (Some s) (Some new) is sound leads = λ before budget finds root walked here worked.
    repair_recalled begins repair_begins joins whole closed drained before budget finds root walked s new sound here (subst (λ (b : Bool). HasWorkedFrom b before budget finds.all walked s) is worked) leads
