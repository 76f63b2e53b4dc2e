-- What is promised of every run.
use Rattle.std.specs.Prelude.{◌≡◌, ◌≤◌, ⊤, ℕ, ◌+◌, ◌==◌, ◌&&◌, ◌||◌, Bool, true, false, List, [], ◌∷◌, ◌++◌, length}
use Rattle.std.specs.Prelude.{cond, not, take, drop, suc, Option, Some, None, IfSome, is_some, slice_get}
use Rattle.std.specs.List.{list_any}
use Rattle.mc_base.specs.Told.{Told}
use Rattle.mc_base.specs.declared.cid.Cid.{Cid}
use Rattle.mc_keep.specs.Causes.{has_fired}
use Rattle.mc_keep.specs.declared.fuse.Fuse.{Fuse}
use Rattle.mc_model.specs.Events.{GoesOn}
use Rattle.mc_model.specs.Front.{gaps}
use Rattle.mc_model.specs.Kept.{Kept}
use Rattle.mc_model.specs.Made.{made_cid}
use Rattle.mc_model.specs.State.{OpenBatch, blocks_of, durable_of, kept_of}
use Rattle.mc_model.specs.declared.delta.Delta.{Delta}
use Rattle.mc_core.specs.Batches.{delta_of_batch}
use Rattle.mc_core.specs.Deletes.{IsDeltas}
use Rattle.mc_core.specs.Events.{ReplicaState}
use Rattle.mc_core.specs.Puts.{delta_of_put, next_links}
use Rattle.mc_drain.specs.Reached.{AreReached}
use Rattle.mc_storm.specs.Interleavings.{IsInterleaving, StormCall}
use Rattle.mc_storm.specs.Storms.{CallActs, storm_key, storm_value}
use Rattle.mc_script.specs.Line.{line_of}
use Rattle.mc_script.specs.declared.command.Command.{Command}
use Rattle.mc_script.specs.declared.reply.Reply.{Reply}
pub use Rattle.mc_seats.specs.Calls.{is_find}
use Rattle.mc_seats.specs.Asks.{is_named, may_fail}
use Rattle.mc_seats.specs.Doing.{At, Compares, Doing, Tends, doing}
use Rattle.mc_seats.specs.Effects.{batch_in, done_by}
use Rattle.mc_seats.specs.Tending.{is_runs}
use Rattle.mc_runs.specs.Runs.{Answer, Runs}
use Rattle.mc_seats.specs.Worlds.{Place, WorldState, is_down, state_at}

-- what a keeper tells: none of the processed or stored blocks is lost, and none changes its place or its bytes; and
-- where it tells nothing, it tells nothing later
abbrev pub ContentGrows : Option Kept → Option Kept → Type 0
ContentGrows None new = new ≡ None
ContentGrows (Some old) None = ⊥
ContentGrows (Some old) (Some new) = GoesOn (durable_of old) (durable_of new)

-- so does what the keeper of a replica tells, and the replica is there where it was
abbrev pub GrowsAt : Option Place → Option Place → Type 0
GrowsAt None None = ⊤
GrowsAt None (Some q) = ⊥
GrowsAt (Some p) None = ⊥
GrowsAt (Some p) (Some q) = ContentGrows p.content q.content

-- so do all replicas of a world, and they are as many
pub record OnlyGrows (w w2 : WorldState) : Type 0 where
  pub many_same : length w2.places ≡ length w.places
  pub each : (r : ℕ) → GrowsAt (slice_get w.places r) (slice_get w2.places r)

-- between two worlds the replica with this number has processed a block, where its content is told: the first one is
-- this over what was processed before
pub record HasProcessed (w : WorldState) (r : ℕ) (cid : Kept → Cid) (w2 : WorldState) : Type 0 where
  pub old : Place
  pub new : Place
  pub stood : slice_get w.places r ≡ Some old
  pub stands : slice_get w2.places r ≡ Some new
  pub processed : Told (state_at old) (state_at new) (λ s t.
      slice_get t.state.durable.order (length s.state.durable.order) ≡ Some (cid (kept_of s.state.durable)))

-- the identifiers of blocks of which the first has these links, and each later one links to the one before
abbrev pub chain_cids : List Cid → List Delta → List Cid
chain_cids links [] = []
chain_cids links (delta ∷ deltas) = made_cid links delta ∷ chain_cids (made_cid links delta ∷ []) deltas

-- the replica with this number has processed all blocks of a delete, and no other, where its content is told
pub record HasDeleted (w : WorldState) (r : ℕ) (key : List ℕ) (count : ℕ) (w2 : WorldState) : Type 0 where
  pub old : Place
  pub new : Place
  pub stood : slice_get w.places r ≡ Some old
  pub stands : slice_get w2.places r ≡ Some new
  pub processed : Told (state_at old) (state_at new) (λ s t. (deltas : List Delta)
      × IsDeltas (kept_of s.state.durable) key deltas × (count ≡ length deltas)
      × (t.state.durable.order ≡ s.state.durable.order ++ chain_cids (next_links (kept_of s.state.durable)) deltas))

-- in a later world the blocks of a delete stand there still, and others may stand behind them
abbrev pub StillDeleted : List ℕ → ℕ → ReplicaState → ReplicaState → Type 0
StillDeleted key count s t = (deltas : List Delta) × (behind : List Cid) × IsDeltas (kept_of s.state.durable) key deltas
    × (count ≡ length deltas)
    × (t.state.durable.order ≡ s.state.durable.order ++ chain_cids (next_links (kept_of s.state.durable)) deltas ++ behind)

pub record HasDeletedSince (w : WorldState) (r : ℕ) (key : List ℕ) (count : ℕ) (w2 : WorldState) : Type 0 where
  pub old : Place
  pub new : Place
  pub stood : slice_get w.places r ≡ Some old
  pub stands : slice_get w2.places r ≡ Some new
  pub processed : Told (state_at old) (state_at new) (StillDeleted key count)

-- the block of a batch
abbrev pub batch_cid : OpenBatch → Kept → Cid
batch_cid batch kept = made_cid (next_links kept) (delta_of_batch kept batch)

-- the batch that is open at a replica
abbrev pub batch_at : Option Place → Option OpenBatch
batch_at None = None
batch_at (Some p) = batch_in p.run

-- the replica with this number had a batch open, and has processed its block, where its content is told
pub record HasCommitted (w : WorldState) (r : ℕ) (w2 : WorldState) : Type 0 where
  pub batch : OpenBatch
  pub was_open : batch_at (slice_get w.places r) ≡ Some batch
  pub processed : HasProcessed w r (batch_cid batch) w2

-- the same at another replica
abbrev pub elsewhere : ℕ → Doing → Doing
elsewhere other (At r act) = At other act
elsewhere other d = d

-- what is done for a command at its replica, done at another one
abbrev pub DoneElsewhere : WorldState → ℕ → Command → Place → Place → Reply → Type 0
DoneElsewhere w other command = done_by w (elsewhere other (doing command))

-- between two worlds the replica with this number has processed at least so many blocks more, where its content is told
pub record HasMore (w : WorldState) (r : ℕ) (count : ℕ) (w2 : WorldState) : Type 0 where
  pub old : Place
  pub new : Place
  pub stood : slice_get w.places r ≡ Some old
  pub stands : slice_get w2.places r ≡ Some new
  pub processed : Told (state_at old) (state_at new) (λ s t.
      length s.state.durable.order + count ≤ length t.state.durable.order)

-- the block that a call of a storm makes over these blocks, where it is a put that makes one
abbrev pub block_by : StormCall → Kept → List Cid
block_by call kept = cond (not call.gets && call.write.made)
    (made_cid (next_links kept) (delta_of_put kept (storm_key call.writer) (storm_value call.write.number)) ∷ []) []

-- the calls of a storm, one after the other, and the blocks that they make, each over the blocks that are there then
abbrev pub CallsMake : List StormCall → ReplicaState → List Cid → ReplicaState → Type 0
CallsMake [] s cids new = (cids ≡ []) × (new ≡ s)
CallsMake (call ∷ calls) s cids new = (mid : ReplicaState) × (rest : List Cid) × CallActs call s mid
    × (cids ≡ block_by call (kept_of s.state.durable) ++ rest) × CallsMake calls mid rest new

-- the blocks of a storm's puts stand, in one interleaving of its writers' calls, behind what was processed before it;
-- they are so many, and others may stand behind them
pub record StandStormed (writers writes made : ℕ) (s t : ReplicaState) : Type 0 where
  pub calls : List StormCall
  pub interleaved : IsInterleaving writers writes calls
  pub cids : List Cid
  pub after : ReplicaState
  pub make : CallsMake calls s cids after
  pub many : length cids ≡ made
  pub behind : List Cid
  pub order : t.state.durable.order ≡ s.state.durable.order ++ cids ++ behind

-- so it is at the replica with this number, where its content is told
pub record HasStormed (w : WorldState) (r writers writes made : ℕ) (w2 : WorldState) : Type 0 where
  pub old : Place
  pub new : Place
  pub stood : slice_get w.places r ≡ Some old
  pub stands : slice_get w2.places r ≡ Some new
  pub processed : Told (state_at old) (state_at new) (StandStormed writers writes made)

-- the line at this place, counted from 0, asks for this and is answered so
pub record IsLineAt (lines : List (List ℕ)) (answers : List (Option Answer)) (k : ℕ) (command : Command) (reply : Reply)
    : Type 0 where
  pub line : List ℕ
  pub answer : Answer
  pub stands : slice_get lines k ≡ Some line
  pub asks : line_of line ≡ Some (Some command)
  pub answered : slice_get answers k ≡ Some (Some answer)
  pub says : answer.reply ≡ reply

-- P ties the world before the line at this place to the last one
abbrev pub SinceLine : WorldState → List (List ℕ) → List (Option Answer) → ℕ → WorldState
    → (WorldState → WorldState → Type 0) → Type 0
SinceLine first lines answers k last P =
    (before : WorldState) × Runs first (take k lines) (take k answers) before × P before last

-- P holds of the world after the line at this place, from which the lines behind it lead to the last world
pub record AfterLine (first : WorldState) (lines : List (List ℕ)) (answers : List (Option Answer)) (k : ℕ)
    (last : WorldState) (P : WorldState → Type 0) : Type 0 where
  pub after : WorldState
  pub before : Runs first (take (suc k) lines) (take (suc k) answers) after
  pub behind : Runs after (drop (suc k) lines) (drop (suc k) answers) last
  pub holds : P after

-- P holds of the worlds before and after the line at this place, between which the lines before and behind it lead from
-- the first world to the last one
pub record AroundLine (first : WorldState) (lines : List (List ℕ)) (answers : List (Option Answer)) (k : ℕ)
    (last : WorldState) (P : WorldState → WorldState → Type 0) : Type 0 where
  pub before : WorldState
  pub after : WorldState
  pub leads : Runs first (take k lines) (take k answers) before
  pub behind : Runs after (drop (suc k) lines) (drop (suc k) answers) last
  pub holds : P before after

-- no gap is left, the mark is clear, and the processed blocks are those that the heads reach
pub record IsSettled (s : ReplicaState) : Type 0 where
  pub no_gaps : gaps (blocks_of s.state.durable) ≡ []
  pub mark_clear : s.state.durable.mark ≡ false
  pub reached : AreReached s.state.durable

-- so it is at the replica with this number, where its content is told
pub record HasSettled (w : WorldState) (r : ℕ) : Type 0 where
  pub place : Place
  pub stands : slice_get w.places r ≡ Some place
  pub settled : IfSome (state_at place) IsSettled

-- a replica tells what it keeps
abbrev pub tells_at : Option Place → Bool
tells_at None = false
tells_at (Some p) = is_some p.content

-- the fuse of a replica's keeper
abbrev pub fuse_at : Option Place → Option Fuse
fuse_at None = None
fuse_at (Some p) = p.fuse

-- whether the fuse of the replica with this number made a commit fail between two worlds
abbrev pub fired_at : WorldState → WorldState → ℕ → Bool
fired_at w w2 r = has_fired (fuse_at (slice_get w.places r)) (fuse_at (slice_get w2.places r))

-- the replicas that a command is refused at with `stopped` where one of them doesn't run
abbrev pub running_by : Doing → List ℕ
running_by (At r (Tends tending)) = cond (is_runs tending.rule) (r ∷ []) []
running_by (At r act) = r ∷ []
running_by (Compares r other) = r ∷ other ∷ []
running_by d = []

abbrev pub asks_running : Command → List ℕ
asks_running command = running_by (doing command)

-- whether a replica is there and doesn't run
abbrev pub has_stopped : Option Place → Bool
has_stopped None = false
has_stopped (Some p) = is_down p.run

-- whether one of these replicas of a world doesn't run
abbrev pub some_stopped : WorldState → List ℕ → Bool
some_stopped w numbers = list_any (λ r. has_stopped (slice_get w.places r)) numbers

-- whether these two are those two, in either order
abbrev pub same_pair : ℕ → ℕ → ℕ → ℕ → Bool
same_pair r other a b = (r == a && other == b) || (r == b && other == a)

-- the fuse of a keeper that may fail in this command was armed in one world, and is no more in the other
abbrev pub FuseFired : Command → WorldState → WorldState → Type 0
FuseFired command w w2 = (r : ℕ) × (is_named (may_fail command) r ≡ true) × (fired_at w w2 r ≡ true)
