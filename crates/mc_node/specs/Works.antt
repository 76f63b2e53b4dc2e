-- What the calls of workers on a sealed node lead to.
use Rattle.std.specs.Prelude.{◌≡◌, ◌≤◌, ◌+◌, ◌&&◌, ◌||◌, ℕ, nat_eq, Bool, true, false, List, take, length, Option, Some}
use Rattle.std.specs.Prelude.{None}
use Rattle.std.specs.List.{list_any}
use Rattle.mc_base.specs.Causes.{Rose}
use Rattle.mc_base.specs.declared.cid.Cid.{Cid}
use Rattle.mc_keep.specs.Causes.{has_fired}
use Rattle.mc_keep.specs.Plan.{AreMade, Schedule, is_planned, is_planned_commit}
use Rattle.mc_keep.specs.declared.fuse.Fuse.{Fuse}
use Rattle.mc_fetch.specs.Fits.{Map}
use Rattle.mc_model.specs.Draining.{HasDrained, offers_of, queue_in}
use Rattle.mc_model.specs.Found.{Damaged, Nothing, Offers}
use Rattle.mc_model.specs.Front.{same_cid}
use Rattle.mc_model.specs.Graph.{has}
use Rattle.mc_model.specs.State.{Durable}
use Rattle.mc_model.specs.Wanted.{Queue}
use Rattle.mc_core.specs.Events.{ReplicaState}
use Rattle.mc_drain.specs.Leads.{DrainsOn, HasBrokenOff, Leads, commits_between, count}
use Rattle.mc_node.specs.Items.{Shown}

-- what a node is limited to: whether it may walk, how much it may process, which bytes are found, and what is stored
-- at first
pub record Bounds : Type 0 where
  pub walks : Bool
  pub most : Option ℕ
  pub found : Option Map
  pub kept : List Cid

-- how much may be processed, and what is known without a limit
abbrev pub bound_of : Option ℕ → ℕ → ℕ
bound_of None now = now
bound_of (Some most) now = most

-- a limit that is no more than this number, where there is one
abbrev pub IsUnder : Option ℕ → ℕ → Type 0
IsUnder most limit = (n : ℕ) → most ≡ Some n → limit ≤ n

-- this is what is found, and what was stored at first
abbrev pub IsKnown : Bounds → Map → List Cid → Type 0
IsKnown limit map kept = (limit.found ≡ Some map) × (kept ≡ limit.kept)

-- What workers lead to within these bounds, of whose calls the last alone may have failed: no block is lost, no more is
-- processed than the bounds say, the fuse burns by the commits at most, and where it is known what is found, a drain
-- goes on or has broken off, and missing and bad go on holding what their names say.
abbrev pub WorkersLead : Bounds → Bool → ReplicaState → ReplicaState → Type 0
WorkersLead limit failed s new = Leads failed (bound_of limit.most (count new)) (IsKnown limit) s new

-- a fuse that was not reached, where so many commits were made
pub record IsBurnt (most : ℕ) (old new : Fuse) : Type 0 where
  pub same : new.after ≡ old.after
  pub fewer : new.commit ≤ old.commit
  pub near : old.commit ≤ new.commit + most

-- one that a call fired
pub record IsFired (failed : Bool) (most : ℕ) (old : Fuse) : Type 0 where
  pub broke : failed ≡ true
  pub reached : old.commit ≤ most

-- whether a block is bad with this number
abbrev pub is_bad_as : Cid → ℕ → List (Cid × ℕ) → Bool
is_bad_as c number bad = list_any (λ (b : Cid × ℕ). same_cid c b.0 && nat_eq number b.1) bad

-- missing and bad hold what their names say, in a form that has one proof at most
pub record StuckFit (found : Offers) (q : Queue) : Type 0 where
  pub missing : (c : Cid) → has c q.missing ≡ true → found c ≡ Nothing
  pub bad : (c : Cid) (number : ℕ) → is_bad_as c number q.bad ≡ true → found c ≡ Damaged number

-- what workers lead to, in a form that has one proof at most
pub record HasLed (limit : Bounds) (failed : Bool) (s new : ReplicaState) : Type 0 where
  pub order : take (length s.state.durable.order) new.state.durable.order ≡ s.state.durable.order
  pub graph : take (length s.state.durable.graph) new.state.durable.graph ≡ s.state.durable.graph
  pub few : count new ≤ bound_of limit.most (count new)
  pub no_fuse : s.fuse ≡ None → new.fuse ≡ None
  pub fired : (old : Fuse) → s.fuse ≡ Some old → new.fuse ≡ None → IsFired failed (commits_between failed s new) old
  pub burnt : (old now : Fuse) → s.fuse ≡ Some old → new.fuse ≡ Some now →
      IsBurnt (commits_between failed s new) old now
  pub goes : failed ≡ false → (map : Map) (kept : List Cid) → IsKnown limit map kept →
      (old : Durable) (start : List Cid)
      → HasDrained map kept old start s.state → HasDrained map kept old start new.state
  pub parts : failed ≡ false → (map : Map) (kept : List Cid) → IsKnown limit map kept →
      (old : Durable) (start : List Cid) → HasDrained map kept old start s.state
      → StuckFit (offers_of map) (queue_in s.state.run) → StuckFit (offers_of map) (queue_in new.state.run)
  pub breaks : failed ≡ true → (map : Map) (kept : List Cid) → IsKnown limit map kept →
      (old : Durable) (start : List Cid)
      → HasDrained map kept old start s.state → HasBrokenOff map old start new.state.durable
  pub whatever : failed ≡ false → DrainsOn s new

-- so many reads and commits were made, where that is known
abbrev pub reads_in : Option Schedule → ℕ
reads_in None = 0
reads_in (Some schedule) = schedule.reads_made

abbrev pub commits_in : Option Schedule → ℕ
commits_in None = 0
commits_in (Some schedule) = schedule.commits_made

-- the last read or the last commit was planned to fail, and none before
pub record OnePlanned (old : Schedule) (new : Option Schedule) : Type 0 where
  pub counted : new ≡ Some (record old { reads_made = reads_in new; commits_made = commits_in new })
  pub one : (is_planned old.reads (reads_in new) || is_planned_commit old (commits_in new)) ≡ true
  pub reads : AreMade (is_planned old.reads) old.reads_made (reads_in new) (is_planned old.reads (reads_in new))
  pub commits : AreMade (is_planned_commit old) old.commits_made (commits_in new)
      (is_planned_commit old (commits_in new))

-- the frame of calls of which the last has failed, in a form that has one proof at most
pub record GoesBroken (before now : Shown) : Type 0 where
  pub silent : before.told ≡ None → now.told ≡ None
  pub no_fuse : before.fuse ≡ None → now.fuse ≡ None
  pub own_later : before.own ≤ now.own
  pub own_rose : has_fired before.fuse now.fuse ≡ false → Rose before.own now.own
  pub faults_later : before.faults ≤ now.faults
  pub faults_rose : Rose before.faults now.faults
  pub still_quiet : before.quiet ≡ true → now.quiet ≡ true
  pub quiet_own : before.quiet ≡ true → now.own ≡ before.own
  pub calm : has_fired before.fuse now.fuse ≡ false → before.quiet ≡ true → true ≡ false
  pub planned : has_fired before.fuse now.fuse ≡ false → (old : Schedule) → before.schedule ≡ Some old
      → OnePlanned old now.schedule
  pub stops : now.stopped ≡ true
