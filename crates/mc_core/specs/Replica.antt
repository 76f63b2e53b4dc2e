-- What a replica stands for.
use Rattle.std.specs.Option.{option_map}
use Rattle.std.specs.Prelude.{Option, Some}
use Rattle.mc_queue.specs.Views.{shown}
use Rattle.mc_model.specs.Kept.{Kept}
use Rattle.mc_model.specs.Events.{opened}
use Rattle.mc_model.specs.State.{Running, durable_of}
use Rattle.mc_base.specs.declared.counted.Counted as counted
use Rattle.mc_keep.specs.declared.fuse.Fuse.{Fuse}
use Rattle.mc_keep.specs.declared.keeper.Keeper as keeper
use Rattle.mc_core.specs.declared.replica.Replica.{Replica}
use Rattle.mc_plan.specs.Counted.{run_of}
use Rattle.mc_plan.specs.Events.{ReplicaState, state_of}

-- what is lost at a stop: the wanted set, the walk, the batch, and whether every gap is wanted
abbrev pub running_of : {K D : Type 0} {g : keeper.Ghosts K D} {h : counted.Ghosts K} {i : counted.Ghosts D} →
    Replica K D g h i → Running
running_of replica =
    record { queue = shown replica.queue; walk = replica.walk; batch = replica.batch; whole = replica.whole }

-- a replica, where its keeper tells
abbrev pub replica_state : {K D : Type 0} {g : keeper.Ghosts K D} {h : counted.Ghosts K} {i : counted.Ghosts D}
    → (K → Option Kept) → (K → Option Fuse)
    → Replica K D g h i → Option ReplicaState
replica_state told fuse replica =
    state_of (told replica.keeper) (fuse replica.keeper) (run_of replica.stopped (running_of replica))

-- a replica that was opened over what a keeper tells
abbrev pub opened_state : Option Kept → Option Fuse → Option ReplicaState
opened_state told fuse =
    option_map
    (λ (kept : Kept). record {
      state = record {
        durable = durable_of kept;
        run = Some
            (opened (durable_of kept));
      };
      fuse = fuse;
    }) told
