-- The answer of a work and of a repair over peers, from what the drain came to.
use Rattle.std.proofs.Common.{◌≡◌, ◌↔◌, ℕ, Bool, true, false, Option, Some, None, Result, Ok, Err, refl, sym, ap, ◌∙◌, subst}
use Rattle.std.proofs.lemmas.Bool.{false≢true}
use Rattle.mc_base.specs.Told.{Told}
use Rattle.mc_model.specs.Wanted.{Queue}
use Rattle.mc_core.specs.Events.{ReplicaState}
use Rattle.mc_drain.specs.Finds.{Finds}
use Rattle.mc_drain.specs.Repairs.{RepairLeads, RepairWants, has_walked}
use Rattle.mc_drain.specs.Works.{GivesUp, WorkLeads, WorkWants, keeper_broke, peer_broke}
use Rattle.mc_drain.specs.declared.repairing.Repaired.{Repaired}
use Rattle.mc_drain.specs.declared.working.WorkError.{WorkError}
use Rattle.mc_drain.specs.declared.working.WorkError.TheVariants.{KeeperFault, PeerFault, Stopped, Memory}
use Rattle.mc_drain.specs.declared.working.Worked.{Worked}
use Rattle.mc_pull.specs.Answers.{answered}

-- ---- what the answer says

pub keeper_same : {T : Type 0} (shows : Bool) (drained : Result T WorkError) → keeper_broke (answered shows drained) ≡ keeper_broke drained
keeper_same shows (Ok value) = refl
keeper_same shows (Err KeeperFault) = refl
keeper_same true (Err PeerFault) = refl
keeper_same false (Err PeerFault) = refl
keeper_same shows (Err Stopped) = refl
keeper_same shows (Err Memory) = refl

pub peer_shows : {T : Type 0} (shows : Bool) (drained : Result T WorkError) → peer_broke (answered shows drained) ≡ true → (shows ≡ true) × (peer_broke drained ≡ true)
peer_shows shows (Ok value) e = absurd (false≢true e)
peer_shows shows (Err KeeperFault) e = absurd (false≢true e)
peer_shows true (Err PeerFault) e = (refl, refl)
peer_shows false (Err PeerFault) e = absurd (false≢true e)
peer_shows shows (Err Stopped) e = absurd (false≢true e)
peer_shows shows (Err Memory) e = absurd (false≢true e)

abbrev has_stopped : {T : Type 0} → Result T WorkError → Bool
has_stopped (Ok value) = false
has_stopped (Err KeeperFault) = false
has_stopped (Err PeerFault) = false
has_stopped (Err Stopped) = true
has_stopped (Err Memory) = false

stopped_same : {T : Type 0} (shows : Bool) (drained : Result T WorkError) → has_stopped (answered shows drained) ≡ has_stopped drained
stopped_same shows (Ok value) = refl
stopped_same shows (Err KeeperFault) = refl
stopped_same true (Err PeerFault) = refl
stopped_same false (Err PeerFault) = refl
stopped_same shows (Err Stopped) = refl
stopped_same shows (Err Memory) = refl

is_stop : {T : Type 0} (drained : Result T WorkError) → has_stopped drained ≡ true → drained ≡ Err Stopped
is_stop (Ok value) e = absurd (false≢true e)
is_stop (Err KeeperFault) e = absurd (false≢true e)
is_stop (Err PeerFault) e = absurd (false≢true e)
is_stop (Err Stopped) e = refl
is_stop (Err Memory) e = absurd (false≢true e)

-- it is that the replica had stopped exactly where the drain's is
pub stops_as : {T : Type 0} (shows : Bool) (drained result : Result T WorkError) (P : Type 0) → result ≡ answered shows drained → (drained ≡ Err Stopped ↔ P) → (result ≡ Err Stopped ↔ P)
stops_as shows drained result P is stops = (
  λ e. stops.0 (is_stop drained (sym (stopped_same shows drained) ∙ ap has_stopped (sym is ∙ e))),
  λ p. is ∙ is_stop (answered shows drained) (stopped_same shows drained ∙ ap has_stopped (stops.1 p)),
)

pub walked_shows : (shows : Bool) (drained : Result Repaired WorkError) → has_walked (answered shows drained) ≡ true → has_walked drained ≡ true
walked_shows shows (Ok value) e = refl
walked_shows shows (Err KeeperFault) e = e
walked_shows true (Err PeerFault) e = e
walked_shows false (Err PeerFault) e = absurd (false≢true e)
walked_shows shows (Err Stopped) e = e
walked_shows shows (Err Memory) e = e

-- ---- what it leads to

work_leads : (shows : Bool) (drained : Result Worked WorkError) (budget : ℕ) (finds : Finds) (s new : ReplicaState) → WorkLeads budget finds drained s new → WorkLeads budget finds (answered shows drained) s new
work_leads shows (Ok value) budget finds s new leads = leads
work_leads shows (Err KeeperFault) budget finds s new leads = leads
work_leads true (Err PeerFault) budget finds s new leads = leads
work_leads false (Err PeerFault) budget finds s new leads = record { grows = leads.grows; within = leads.within; fuse = leads.fuse; counts = tt; sound = leads.sound; is = λ map f. leads.is map f; surely = leads.surely }
work_leads shows (Err Stopped) budget finds s new leads = leads
work_leads shows (Err Memory) budget finds s new leads = leads

pub work_told : (shows : Bool) (drained result : Result Worked WorkError) (budget : ℕ) (found finds : Finds) (a b : Option ReplicaState) → result ≡ answered shows drained → found ≡ finds → Told a b (λ s new. WorkLeads budget found drained s new)
    → Told a b (λ s new. WorkLeads budget finds result s new)
work_told shows drained result budget found finds None b is same t = tt
work_told shows drained result budget found finds (Some s) None is same t = absurd t
work_told shows drained result budget found finds (Some s) (Some new) is same t =
    subst (λ (r : Result Worked WorkError). WorkLeads budget finds r s new) (sym is) (subst (λ (o : Finds). WorkLeads budget o (answered shows drained) s new) same (work_leads shows drained budget found s new t))

repair_leads : (shows : Bool) (drained : Result Repaired WorkError) (budget : ℕ) (finds : Finds) (s new : ReplicaState) → RepairLeads budget finds drained s new → RepairLeads budget finds (answered shows drained) s new
repair_leads shows (Ok value) budget finds s new leads = leads
repair_leads shows (Err KeeperFault) budget finds s new leads = leads
repair_leads true (Err PeerFault) budget finds s new leads = leads
repair_leads false (Err PeerFault) budget finds s new leads =
    record { grows = leads.grows; within = leads.within; fuse = leads.fuse; counts = tt; reaches = tt; sound = leads.sound; is = λ map f. let is = leads.is map f in (is.1, is.2); surely = leads.surely.1 }
repair_leads shows (Err Stopped) budget finds s new leads = leads
repair_leads shows (Err Memory) budget finds s new leads = leads

pub repair_told : (shows : Bool) (drained result : Result Repaired WorkError) (budget : ℕ) (found finds : Finds) (a b : Option ReplicaState) → result ≡ answered shows drained → found ≡ finds → Told a b (λ s new. RepairLeads budget found drained s new)
    → Told a b (λ s new. RepairLeads budget finds result s new)
repair_told shows drained result budget found finds None b is same t = tt
repair_told shows drained result budget found finds (Some s) None is same t = absurd t
repair_told shows drained result budget found finds (Some s) (Some new) is same t =
    subst (λ (r : Result Repaired WorkError). RepairLeads budget finds r s new) (sym is) (subst (λ (o : Finds). RepairLeads budget o (answered shows drained) s new) same (repair_leads shows drained budget found s new t))

-- ---- what is wanted then

work_wants_at : (shows : Bool) (drained : Result Worked WorkError) (q : Queue) → WorkWants drained q → WorkWants (answered shows drained) q
work_wants_at shows (Ok value) q wants = wants
work_wants_at shows (Err KeeperFault) q wants = wants
work_wants_at true (Err PeerFault) q wants = wants
work_wants_at false (Err PeerFault) q wants = wants
work_wants_at shows (Err Stopped) q wants = wants
work_wants_at shows (Err Memory) q wants = wants

pub work_wants : (shows : Bool) (drained result : Result Worked WorkError) (q : Queue) → result ≡ answered shows drained → WorkWants drained q → WorkWants result q
work_wants shows drained result q is wants = subst (λ (r : Result Worked WorkError). WorkWants r q) (sym is) (work_wants_at shows drained q wants)

repair_wants_at : (shows : Bool) (drained : Result Repaired WorkError) (q : Queue) → RepairWants drained q → RepairWants (answered shows drained) q
repair_wants_at shows (Ok value) q wants = wants
repair_wants_at shows (Err KeeperFault) q wants = wants
repair_wants_at true (Err PeerFault) q wants = wants
repair_wants_at false (Err PeerFault) q wants = wants
repair_wants_at shows (Err Stopped) q wants = wants
repair_wants_at shows (Err Memory) q wants = wants

pub repair_wants : (shows : Bool) (drained result : Result Repaired WorkError) (q : Queue) → result ≡ answered shows drained → RepairWants drained q → RepairWants result q
repair_wants shows drained result q is wants = subst (λ (r : Result Repaired WorkError). RepairWants r q) (sym is) (repair_wants_at shows drained q wants)

-- ---- where it couldn't begin

pub given_keeper : (T : Type 0) (error : WorkError) (q : Queue) → GivesUp error q → keeper_broke {T = T} (Err error) ≡ false
given_keeper T KeeperFault q up = absurd up
given_keeper T PeerFault q up = absurd up
given_keeper T Stopped q up = refl
given_keeper T Memory q up = refl

pub given_peer : (T : Type 0) (error : WorkError) (q : Queue) → GivesUp error q → peer_broke {T = T} (Err error) ≡ false
given_peer T KeeperFault q up = absurd up
given_peer T PeerFault q up = absurd up
given_peer T Stopped q up = refl
given_peer T Memory q up = refl

pub given_walked : (error : WorkError) (q : Queue) → GivesUp error q → has_walked (Err error) ≡ false
given_walked KeeperFault q up = absurd up
given_walked PeerFault q up = absurd up
given_walked Stopped q up = refl
given_walked Memory q up = refl

pub given_work : (error : WorkError) (q : Queue) → GivesUp error q → WorkWants (Err error) q
given_work KeeperFault q up = absurd up
given_work PeerFault q up = absurd up
given_work Stopped q up = tt
given_work Memory q up = up

pub given_repair : (error : WorkError) (q : Queue) → GivesUp error q → RepairWants (Err error) q
given_repair KeeperFault q up = absurd up
given_repair PeerFault q up = absurd up
given_repair Stopped q up = tt
given_repair Memory q up = up

pub given_stops : (T : Type 0) (error : WorkError) (P : Type 0) → (error ≡ Stopped ↔ P) → (◌≡◌ {A = Result T WorkError} (Err error) (Err Stopped) ↔ P)
given_stops T error P stops = (λ e. stops.0 (stop_of error (ap (has_stopped {T = T}) e)), λ p. ap over (stops.1 p))
  where
    over : WorkError → Result T WorkError
    over x = Err x

    stop_of : (error : WorkError) → has_stopped {T = T} (Err error) ≡ true → error ≡ Stopped
    stop_of KeeperFault e = absurd (false≢true e)
    stop_of PeerFault e = absurd (false≢true e)
    stop_of Stopped e = refl
    stop_of Memory e = absurd (false≢true e)
