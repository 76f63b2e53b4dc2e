-- How the log of a node is tied to its replica.
use Rattle.std.specs.Prelude.{◌≡◌, ◌<◌, ◌≤◌, ℕ, Bool, true, false, ◌||◌, List, take, length, Option, Some, None}
use Rattle.std.specs.Prelude.{is_some}
use Rattle.mc_base.specs.Causes.{Rose}
use Rattle.mc_base.specs.declared.cid.Cid.{Cid}
use Rattle.mc_keep.specs.Causes.{has_fired}
use Rattle.mc_keep.specs.Frame.{GoesAt}
use Rattle.mc_keep.specs.Plan.{Schedule, is_planned, is_planned_commit}
use Rattle.mc_fetch.specs.Fits.{Map}
use Rattle.mc_model.specs.Draining.{HasDrained, bytes_in, queue_in}
use Rattle.mc_model.specs.Graph.{has}
use Rattle.mc_model.specs.Wanted.{wanted}
use Rattle.mc_core.specs.Events.{ReplicaState}
use Rattle.mc_drain.specs.Leads.{count}
use Rattle.mc_node.specs.Works.{Bounds, GoesBroken, HasLed, commits_in, reads_in}
use Rattle.mc_node.specs.Items.{Item, Shown, blocks, blocks_in, has_halted, has_note, has_walked, is_callers, is_rooted}
use Rattle.mc_node.specs.Items.{is_sealed, last, root, state_in, tells}

-- the frame of calls, of which the last may have failed: what every call of a replica leaves
pub record Goes (failed : Bool) (before now : Shown) : Type 0 where
  pub keeper : GoesAt {S = Shown} (λ s. s.told) (λ s. s.fuse) (λ s. s.own) (λ s. s.faults) (λ s. s.quiet)
      (λ s. s.schedule) failed before now
  pub stops : now.stopped ≡ (failed || before.stopped)

-- none of the calls that were made since was planned to fail
pub record NonePlanned (old : Schedule) (new : Option Schedule) : Type 0 where
  pub counted : new ≡ Some (record old { reads_made = reads_in new; commits_made = commits_in new })
  pub reads : (number : ℕ) → old.reads_made < number → number ≤ reads_in new → is_planned old.reads number ≡ false
  pub commits : (number : ℕ) → old.commits_made < number → number ≤ commits_in new
      → is_planned_commit old number ≡ false

-- the frame of calls of which none has failed, in a form that has one proof at most
pub record GoesCalm (before now : Shown) : Type 0 where
  pub silent : before.told ≡ None → now.told ≡ None
  pub no_fuse : before.fuse ≡ None → now.fuse ≡ None
  pub own_same : now.own ≡ before.own
  pub faults_same : now.faults ≡ before.faults
  pub still_quiet : before.quiet ≡ true → now.quiet ≡ true
  pub planned : has_fired before.fuse now.fuse ≡ false → (old : Schedule) → before.schedule ≡ Some old
      → NonePlanned old now.schedule
  pub runs : now.stopped ≡ before.stopped

-- The replica shows this after the last entry of the log: since then no call has failed and processed blocks stay
-- first, and on a log that isn't sealed only reads have come; on a sealed one calls of workers may have come too.
pub record IsMoment (log : List Item) (now : Shown) : Type 0 where
  pub own : now.own ≡ (last log).own
  pub faults : now.faults ≡ (last log).faults
  pub stopped : now.stopped ≡ (last log).stopped
  pub grows : take (length (blocks log)) (blocks_in (state_in now)) ≡ blocks log
  pub told : is_sealed log ≡ false → now.told ≡ (last log).told
  pub fuse : is_sealed log ≡ false → now.fuse ≡ (last log).fuse
  pub run : is_sealed log ≡ false → now.run ≡ (last log).run

-- the processed blocks that an earlier part of the log shows are the first ones
abbrev pub IsGrowing : List Item → Type 0
IsGrowing log = (n : ℕ) → take (length (blocks (take n log))) (blocks log) ≡ blocks (take n log)

-- no more is processed than this number, where there is one
abbrev pub IsWithin : Option ℕ → Option ReplicaState → Type 0
IsWithin most state = (n : ℕ) → most ≡ Some n → (s : ReplicaState) → state ≡ Some s → count s ≤ n

-- where it is known what is found, the keeper tells, each stored block is the one that is found, and these are stored
pub record Stores (map : Map) (kept : List Cid) (state : Option ReplicaState) : Type 0 where
  pub tells : is_some state ≡ true
  pub found : (s : ReplicaState) → state ≡ Some s
      → (c : Cid) (bytes : List ℕ) → bytes_in s.state.durable.graph c ≡ Some bytes → map c ≡ Some bytes
  pub own : (s : ReplicaState) → state ≡ Some s
      → (c : Cid) → has c kept ≡ true → is_some (bytes_in s.state.durable.graph c) ≡ true

abbrev pub StoresFound : Bounds → Option ReplicaState → Type 0
StoresFound limit state = (map : Map) → limit.found ≡ Some map → Stores map limit.kept state

-- The tie of a log to what the replica shows now, in a form that has one proof at most.
pub record IsTied (limit : Bounds) (now : Shown) (log : List Item) : Type 0 where
  -- the log begins with a root
  pub rooted : is_rooted log ≡ true
  pub moment : IsMoment log now
  -- the keeper tells where it told then
  pub telling : is_some now.told ≡ tells log
  pub grown : IsGrowing log
  -- a sealed log has no entry of a caller's, and one that may not walk none of a walk
  pub sealed : is_sealed log ≡ true → has_note is_callers log ≡ false
  pub unwalked : limit.walks ≡ false → has_walked log ≡ false
  -- the replica has stopped exactly where the log says so, and then the keeper's count has risen
  pub halted : now.stopped ≡ has_halted log
  pub risen : has_halted log ≡ true → Rose (root log).faults now.faults
  -- no call of the keeper has failed before that, and none comes after
  pub calm : has_halted log ≡ false → GoesCalm (root log) now
  -- where one has failed, none before it has
  pub broken : has_halted log ≡ true → GoesBroken (root log) now
  pub quiet_still : has_halted log ≡ true → now.quiet ≡ (last log).quiet
  pub schedule_still : has_halted log ≡ true → now.schedule ≡ (last log).schedule
  -- nothing else changes
  pub batch : now.run.batch ≡ (root log).run.batch
  pub walk : has_walked log ≡ false → now.run.walk ≡ (root log).run.walk
  pub whole : has_walked log ≡ false → now.run.whole ≡ (root log).run.whole
  -- a sealed log keeps to its bounds
  pub worked : is_sealed log ≡ true → (r s : ReplicaState) → state_in (root log) ≡ Some r → state_in now ≡ Some s
      → HasLed limit now.stopped r s
  -- its keeper tells where it is known what is found
  pub known : is_sealed log ≡ true → (map : Map) → limit.found ≡ Some map → tells log ≡ true
  -- and drains what was wanted at its root, where it is known what is found
  pub drains : is_sealed log ≡ true → now.stopped ≡ false → (map : Map) → limit.found ≡ Some map → (r s : ReplicaState)
      → state_in (root log) ≡ Some r → state_in now ≡ Some s
      → HasDrained map limit.kept r.state.durable (wanted (queue_in r.state.run)) s.state
