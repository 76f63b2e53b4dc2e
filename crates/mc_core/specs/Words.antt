-- The words that every call of a replica says, at a bound `K: Keeper`.
use Rattle.std.specs.Prelude.{◌≡◌, ℕ, Bool, false, ◌||◌, Option, List, Result}
use Rattle.mc_base.specs.Causes.{Rose}
use Rattle.mc_base.specs.Told.{Told}
use Rattle.mc_base.specs.declared.counted.Counted as counted
use Rattle.mc_model.specs.Events.{Event}
use Rattle.mc_model.specs.Kept.{Kept}
use Rattle.mc_model.specs.State.{Running}
use Rattle.mc_keep.specs.Calls.{Members}
use Rattle.mc_keep.specs.Frame.{GoesAt}
use Rattle.mc_keep.specs.Plan.{Schedule, without_desks}
use Rattle.mc_keep.specs.declared.fuse.Fuse.{Fuse}
use Rattle.mc_keep.specs.declared.keeper.Keeper as keeper
use Rattle.mc_plan.specs.declared.error.CoreError.{CoreError}
use Rattle.mc_core.specs.declared.replica.Replica.{Replica}
use Rattle.mc_plan.specs.Calls.{Call, Stays}
use Rattle.mc_plan.specs.Events.{ReplicaState, HappensIn}
use Rattle.mc_core.specs.Exact.{RestSame, StillTellsAt, TellsSameAt}
use Rattle.mc_plan.specs.Reads.{OnlyReads, read_refusal}
use Rattle.mc_plan.specs.Refusals.{Is}
use Rattle.mc_core.specs.Replica.{replica_state}
use Rattle.mc_core.specs.Steps.{StepsAt}
use Rattle.mc_plan.specs.declared.walks.WalkStep.{WalkStep}

-- What every call leaves of a replica: only the last call of its keeper may have failed, and then the replica has
-- stopped, as one has that had stopped before.
pub record ContinuesAt {K D : Type 0} {g : keeper.Ghosts K D} {h : counted.Ghosts K} {i : counted.Ghosts D}
    (told : K → Option Kept) (fuse : K → Option Fuse) (own faults : K → ℕ)
    (quiet : K → Bool) (schedule : K → Option Schedule) (failed : Bool) (old new : Replica K D g h i) : Type 0 where
  pub keeper_goes : GoesAt told fuse own faults quiet schedule failed old.keeper new.keeper
  pub stops : new.stopped ≡ (failed || old.stopped)

-- what commits leave besides: the walk, the batch, the inbox, and whether every gap is wanted
pub record CommitKeepsAt {K D : Type 0} {g : keeper.Ghosts K D} {h : counted.Ghosts K} {i : counted.Ghosts D}
    (told : K → Option Kept) (fuse : K → Option Fuse) (own faults : K → ℕ)
    (quiet : K → Bool) (schedule : K → Option Schedule) (failed : Bool) (old new : Replica K D g h i) : Type 0 where
  pub rest_same : RestSame old new
  pub continues : ContinuesAt told fuse own faults quiet schedule failed old new

module _ {K D : Type 0} {g : keeper.Ghosts K D} {h : counted.Ghosts K} {i : counted.Ghosts D} (k : Members K D) where
  abbrev pub Continues : Bool → Replica K D g h i → Replica K D g h i → Type 0
  Continues = ContinuesAt k.told k.fuse k.own k.faults k.quiet k.schedule

  -- the same of a call that makes a desk, apart from the plans of desks
  abbrev pub ContinuesApart : Bool → Replica K D g h i → Replica K D g h i → Type 0
  ContinuesApart = ContinuesAt k.told k.fuse k.own k.faults k.quiet (λ keeper. without_desks (k.schedule keeper))

  abbrev pub CommitKeeps : Bool → Replica K D g h i → Replica K D g h i → Type 0
  CommitKeeps = CommitKeepsAt k.told k.fuse k.own k.faults k.quiet k.schedule

  abbrev pub StillTells : Replica K D g h i → Replica K D g h i → Type 0
  StillTells = StillTellsAt k.told k.fuse

  abbrev pub TellsSame : Replica K D g h i → Replica K D g h i → Type 0
  TellsSame = TellsSameAt k.told k.fuse

  abbrev pub StepsOn : WalkStep → Replica K D g h i → Replica K D g h i → Type 0
  StepsOn = StepsAt k.told k.fuse

  -- what becomes of a replica, where its keeper tells, by whether the own count rose
  abbrev pub Becomes : (Type 0 → ReplicaState → ReplicaState → Type 0) → Replica K D g h i → Replica K D g h i → Type 0
  Becomes P old new = Told (replica_state k.told k.fuse old) (replica_state k.told k.fuse new) (λ s after.
      P (Rose (k.own old.keeper) (k.own new.keeper)) s after)

  -- these events happen to a replica that runs, and nothing to one that has stopped
  abbrev pub HappensTo : (Running → List Event) → Replica K D g h i → Replica K D g h i → Type 0
  HappensTo events old new = Becomes (λ rose s after. HappensIn s.state.run events s after) old new

  -- what a call does
  abbrev pub Acts : {T : Type 0} → (ReplicaState → Option CoreError → Type 0) → (ReplicaState → List Event → T → Type 0)
      → (ReplicaState → ReplicaState → Type 0) → Result T CoreError → Replica K D g h i → Replica K D g h i → Type 0
  Acts Refusal Makes Short result old new = Becomes (λ rose s after.
      Call (Refusal s) (Makes s) (Short s) rose result s after) old new

  -- what a call does that only reads: its answer is this over what is kept
  abbrev pub Answers : {T : Type 0} → (Kept → T → Type 0) → Result T CoreError → Replica K D g h i
      → Replica K D g h i → Type 0
  Answers P result old new = Acts (λ s. Is (read_refusal s)) (OnlyReads P) Stays result old new

-- The same of a loop over commits, in a proof file.
abbrev pub HasCommitted : {K D : Type 0} {i : counted.Ghosts D} (k : keeper.Ghosts K D) (c : counted.Ghosts K)
    → Replica K D k c i → Replica K D k c i → Type 0
HasCommitted k c = CommitKeepsAt k.told k.fuse k.own c.faults k.quiet k.schedule false
