-- A round, and what the caller did after it.
use Rattle.std.proofs.Common.{◌≡◌, ◌+◌, ◌||◌, ℕ, Bool, true, false, cond, [], Option, Some, None, Result, Ok, Err, refl, sym, ap, ◌∙◌, subst, length, arith}
use Rattle.std.proofs.lemmas.Bool.{false≢true}
use Rattle.std.specs.Prelude.{◌≢◌, IfSome}
use Rattle.mc_base.specs.Told.{Told}
use Rattle.mc_base.specs.declared.counted.Counted as counted
use Rattle.mc_fetch.specs.Fits.{Map}
use Rattle.mc_keep.specs.Plan.{Schedule}
use Rattle.mc_keep.specs.declared.fuse.Fuse.{Fuse}
use Rattle.mc_keep.specs.declared.keeper.Keeper as keeper
use Rattle.mc_model.specs.Kept.{Kept}
use Rattle.mc_model.specs.State.{Durable}
use Rattle.mc_model.specs.Wanted.{Queue}
use Rattle.mc_core.specs.Counted.{capped}
use Rattle.mc_core.specs.Events.{ReplicaState}
use Rattle.mc_core.specs.Words.{ContinuesAt}
use Rattle.mc_core.specs.declared.replica.Replica.{Replica}
use Rattle.mc_core.proofs.Keeps.{continues_more}
use Rattle.mc_drain.specs.declared.repairing.Repaired.{Repaired}
use Rattle.mc_drain.specs.declared.working.WorkError.{WorkError}
use Rattle.mc_drain.specs.declared.working.WorkError.TheVariants.{KeeperFault, Memory, PeerFault, Stopped}
use Rattle.mc_drain.specs.declared.working.Worked.{Worked}
use Rattle.mc_drain.specs.Finds.{Finds}
use Rattle.mc_drain.specs.Leads.{Always, Leads, LeadsBy, Never, count, up_to}
use Rattle.mc_drain.specs.Repairs.{RepairLeads, RepairWants}
use Rattle.mc_drain.specs.Rounds.{FindsFrom, HasWalkedFrom, HasWorkedFrom}
use Rattle.mc_drain.specs.Works.{WorkLeads, WorkWants, keeper_broke, none_broke, peer_broke}
use Rattle.mc_drain.proofs.GoOnFacts.{leads_go_on}

-- what the calls of a round lead to
abbrev pub Led : Bool → ℕ → Option Map → ReplicaState → ReplicaState → Type 0
Led failed limit offers s new = LeadsBy failed (up_to limit s) (FindsFrom offers s.state.durable.graph) Never s new

worked_from : (failed : Bool) (before budget limit : ℕ) (offers : Option Map) (s mid : ReplicaState) → limit ≡ capped (before + budget) → before ≡ capped (count s) → Led failed limit offers s mid → HasWorkedFrom failed before budget offers s mid
worked_from failed before budget limit offers s mid is at led = record { counted = at; leads = subst (λ (n : ℕ). Led failed n offers s mid) is led }

-- what was missing and bad was requeued before the round
pub requeued_led : (failed : Bool) (limit : ℕ) (offers : Option Map) (a r m : Option ReplicaState) → Told a r (λ s new. Leads false (count s) Always s new) → Told a r (λ s new. new.state.durable ≡ s.state.durable) → Told r m (λ s new. Leads failed (up_to limit s) (FindsFrom offers s.state.durable.graph) s new)
    → Told a m (λ s new. Led failed limit offers s new)
requeued_led failed limit offers None r m first same led = tt
requeued_led failed limit offers (Some s) None m first same led = absurd first
requeued_led failed limit offers (Some s) (Some mid) None first same led = absurd led
requeued_led failed limit offers (Some s) (Some mid) (Some new) first same led =
    leads_go_on failed (count s) (up_to limit mid) (up_to limit s) (FindsFrom offers s.state.durable.graph) (FindsFrom offers mid.state.durable.graph) (FindsFrom offers mid.state.durable.graph) s mid new begun led (let e = ap (λ (d : Durable). length d.order) same in omega (arith, e))
    (λ map kept old start p h. subst (λ (d : Durable). FindsFrom offers d.graph map kept) (sym same) p)
  where
    begun : LeadsBy false (count s) (FindsFrom offers s.state.durable.graph) Never s mid
    begun = record {
      grows = first.grows;
      few = first.few;
      fuse = first.fuse;
      goes = λ e map kept p. first.goes e map kept tt;
      parts = λ e map kept never. absurd never;
      breaks = λ e map kept p. first.breaks e map kept tt;
      whatever = first.whatever;
    }

-- the work was left after the round
pub work_left : (failed : Bool) (before budget limit : ℕ) (offers : Option Map) (finds : Finds) (why : WorkError) (a m b : Option ReplicaState) → offers ≡ finds.all → limit ≡ capped (before + budget) → IfSome a (λ s. before ≡ capped (count s)) → Told a m (λ s new. Led failed limit offers s new)
    → Told m b (λ s new. (before budget : ℕ) (finds : Finds) (root : ReplicaState) → HasWorkedFrom failed before budget finds.all root s → WorkLeads budget finds (Err why) root new) → Told a b (λ s new. WorkLeads budget finds (Err why) s new)
work_left failed before budget limit offers finds why None m b same is at led leaves = tt
work_left failed before budget limit offers finds why (Some s) None b same is at led leaves = absurd led
work_left failed before budget limit offers finds why (Some s) (Some mid) None same is at led leaves = absurd leaves
work_left failed before budget limit offers finds why (Some s) (Some mid) (Some new) same is at led leaves =
    leaves before budget finds s (subst (λ (o : Option Map). HasWorkedFrom failed before budget o s mid) same (worked_from failed before budget limit offers s mid is at led))

-- it went on
pub work_gone_on : (failed : Bool) (before budget limit : ℕ) (offers now : Option Map) (finds later : Finds) (result : Result Worked WorkError) (a m b : Option ReplicaState) → failed ≡ false → now ≡ offers → later ≡ finds → limit ≡ capped (before + budget) → IfSome a (λ s. before ≡ capped (count s))
    → Told a m (λ s new. Led failed limit offers s new) → Told m b (λ s new. (root : ReplicaState) → HasWorkedFrom false before budget now root s → WorkLeads budget later result root new) → Told a b (λ s new. WorkLeads budget finds result s new)
work_gone_on failed before budget limit offers now finds later result None m b up same alike is at led goes = tt
work_gone_on failed before budget limit offers now finds later result (Some s) None b up same alike is at led goes = absurd led
work_gone_on failed before budget limit offers now finds later result (Some s) (Some mid) None up same alike is at led goes = absurd goes
work_gone_on failed before budget limit offers now finds later result (Some s) (Some mid) (Some new) up same alike is at led goes =
    subst (λ (f : Finds). WorkLeads budget f result s new) alike (goes s (subst (λ (o : Option Map). HasWorkedFrom false before budget o s mid) (sym same)
    (worked_from false before budget limit offers s mid is at (subst (λ (f : Bool). Led f limit offers s mid) up led))))

-- the same of a repair, after its walk

pub repair_left : (failed : Bool) (before budget limit : ℕ) (offers : Option Map) (finds : Finds) (why : WorkError) (a w m b : Option ReplicaState) → offers ≡ finds.all → limit ≡ capped (before + budget) → Told a w (λ s new. (before ≡ capped (count new)) × HasWalkedFrom s new)
    → Told w m (λ s new. Led failed limit offers s new)
    → Told m b (λ s new. (before budget : ℕ) (finds : Finds) (root walked : ReplicaState) → HasWalkedFrom root walked → HasWorkedFrom failed before budget finds.all walked s → RepairLeads budget finds (Err why) root new) → Told a b (λ s new. RepairLeads budget finds (Err why) s new)
repair_left failed before budget limit offers finds why None w m b same is walked led leaves = tt
repair_left failed before budget limit offers finds why (Some s) None m b same is walked led leaves = absurd walked
repair_left failed before budget limit offers finds why (Some s) (Some x) None b same is walked led leaves = absurd led
repair_left failed before budget limit offers finds why (Some s) (Some x) (Some mid) None same is walked led leaves = absurd leaves
repair_left failed before budget limit offers finds why (Some s) (Some x) (Some mid) (Some new) same is walked led leaves =
    leaves before budget finds s x walked.1 (subst (λ (o : Option Map). HasWorkedFrom failed before budget o x mid) same (worked_from failed before budget limit offers x mid is walked.0 led))

pub repair_gone_on : (failed : Bool) (before budget limit : ℕ) (offers now : Option Map) (finds later : Finds) (result : Result Repaired WorkError) (a w m b : Option ReplicaState) → failed ≡ false → now ≡ offers → later ≡ finds → limit ≡ capped (before + budget)
    → Told a w (λ s new. (before ≡ capped (count new)) × HasWalkedFrom s new) → Told w m (λ s new. Led failed limit offers s new)
    → Told m b (λ s new. (root walked : ReplicaState) → HasWalkedFrom root walked → HasWorkedFrom false before budget now walked s → RepairLeads budget later result root new) → Told a b (λ s new. RepairLeads budget finds result s new)
repair_gone_on failed before budget limit offers now finds later result None w m b up same alike is walked led goes = tt
repair_gone_on failed before budget limit offers now finds later result (Some s) None m b up same alike is walked led goes = absurd walked
repair_gone_on failed before budget limit offers now finds later result (Some s) (Some x) None b up same alike is walked led goes = absurd led
repair_gone_on failed before budget limit offers now finds later result (Some s) (Some x) (Some mid) None up same alike is walked led goes = absurd goes
repair_gone_on failed before budget limit offers now finds later result (Some s) (Some x) (Some mid) (Some new) up same alike is walked led goes =
    subst (λ (f : Finds). RepairLeads budget f result s new) alike (goes s x walked.1 (subst (λ (o : Option Map). HasWorkedFrom false before budget o x mid) (sym same)
    (worked_from false before budget limit offers x mid is walked.0 (subst (λ (f : Bool). Led f limit offers x mid) up led))))

-- what the answer says where it was left

pub left_keeper : (T : Type 0) (stopped : Bool) (why : WorkError) → why ≡ cond stopped KeeperFault PeerFault → keeper_broke {T = T} (Err why) ≡ stopped
left_keeper T true why is = ap (λ (e : WorkError). keeper_broke {T = T} (Err e)) is
left_keeper T false why is = ap (λ (e : WorkError). keeper_broke {T = T} (Err e)) is

pub left_peer : (T : Type 0) (failed stopped : Bool) (why : WorkError) → why ≡ cond stopped KeeperFault PeerFault → (failed || stopped) ≡ true → peer_broke {T = T} (Err why) ≡ true → failed ≡ true
left_peer T true stopped why is over broke = refl
left_peer T false true why is over broke = absurd (false≢true (ap (λ (e : WorkError). peer_broke {T = T} (Err e)) (sym is) ∙ broke))
left_peer T false false why is over broke = over

-- one of the two failed
pub left_broke : (T : Type 0) (stopped : Bool) (why : WorkError) → why ≡ cond stopped KeeperFault PeerFault → none_broke {T = T} (Err why) ≡ true → ⊥
left_broke T true why is e = false≢true (ap (λ (x : WorkError). none_broke {T = T} (Err x)) (sym is) ∙ e)
left_broke T false why is e = false≢true (ap (λ (x : WorkError). none_broke {T = T} (Err x)) (sym is) ∙ e)

-- or neither
pub none_peer : {T : Type 0} (result : Result T WorkError) → none_broke result ≡ true → peer_broke result ≡ false
none_peer (Ok value) e = refl
none_peer (Err KeeperFault) e = refl
none_peer (Err PeerFault) e = absurd (false≢true e)
none_peer (Err Stopped) e = refl
none_peer (Err Memory) e = refl

abbrev is_stop : WorkError → Bool
is_stop Stopped = true
is_stop why = false

left_stop : (stopped : Bool) → is_stop (cond stopped KeeperFault PeerFault) ≡ false
left_stop true = refl
left_stop false = refl

abbrev is_stop_of : {T : Type 0} → Result T WorkError → Bool
is_stop_of (Ok value) = false
is_stop_of (Err why) = is_stop why

pub left_runs : (T : Type 0) (stopped : Bool) (why : WorkError) → why ≡ cond stopped KeeperFault PeerFault → ◌≢◌ {A = Result T WorkError} (Err why) (Err Stopped)
left_runs T stopped why is e = absurd (false≢true (sym (left_stop stopped) ∙ ap is_stop (sym is) ∙ ap is_stop_of e))

pub left_wants : (stopped : Bool) (why : WorkError) (q : Queue) → why ≡ cond stopped KeeperFault PeerFault → (stopped ≡ false → q.flight ≡ []) → WorkWants (Err why) q
left_wants true why q is none = subst (λ (e : WorkError). WorkWants (Err e) q) (sym is) tt
left_wants false why q is none = subst (λ (e : WorkError). WorkWants (Err e) q) (sym is) (none refl)

pub left_repair_wants : (stopped : Bool) (why : WorkError) (q : Queue) → why ≡ cond stopped KeeperFault PeerFault → (stopped ≡ false → q.flight ≡ []) → RepairWants (Err why) q
left_repair_wants true why q is none = subst (λ (e : WorkError). RepairWants (Err e) q) (sym is) tt
left_repair_wants false why q is none = subst (λ (e : WorkError). RepairWants (Err e) q) (sym is) (none refl)

-- a replica stays as it is where it has stopped, and goes on by calls that did not fail where it has not
module _ {K D : Type 0} {g : keeper.Ghosts K D} {h : counted.Ghosts K} {i : counted.Ghosts D} {told : K → Option Kept} {fuse : K → Option Fuse} {own faults : K → ℕ} {quiet : K → Bool} {schedule : K → Option Schedule} where
  pub left_keeps : (T : Type 0) (stopped : Bool) (why : WorkError) (old mid new : Replica K D g h i) → why ≡ cond stopped KeeperFault PeerFault → ContinuesAt told fuse own faults quiet schedule stopped old mid → ContinuesAt told fuse own faults quiet schedule false mid new
      → (stopped ≡ true → new ≡ mid) → ContinuesAt told fuse own faults quiet schedule (keeper_broke {T = T} (Err why)) old new
  left_keeps T true why old mid new is first next same =
      subst (λ (f : Bool). ContinuesAt told fuse own faults quiet schedule f old new) (sym (left_keeper T true why is)) (subst (λ (x : Replica K D g h i). ContinuesAt told fuse own faults quiet schedule true old x) (sym (same refl)) first)
  left_keeps T false why old mid new is first next same =
      subst (λ (f : Bool). ContinuesAt told fuse own faults quiet schedule f old new) (sym (left_keeper T false why is)) (continues_more first next)

  pub gone_on_keeps : (stopped failed : Bool) (old mid new : Replica K D g h i) → stopped ≡ false → ContinuesAt told fuse own faults quiet schedule stopped old mid → ContinuesAt told fuse own faults quiet schedule failed mid new → ContinuesAt told fuse own faults quiet schedule failed old new
  gone_on_keeps stopped failed old mid new up first next = continues_more (subst (λ (f : Bool). ContinuesAt told fuse own faults quiet schedule f old mid) up first) next

-- neither failed
pub over_none : (failed stopped : Bool) → (failed || stopped) ≡ false → (failed ≡ false) × (stopped ≡ false)
over_none true stopped e = absurd (false≢true (sym e))
over_none false stopped e = (refl, e)
