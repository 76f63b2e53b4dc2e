-- What a call of a replica leaves over every keeper, by its command.
use Rattle.std.specs.Prelude.{◌≡◌, Bool, true, false, Option, Result, IfErr}
use Rattle.mc_base.specs.declared.counted.Counted as counted
use Rattle.mc_keep.specs.Calls.{Members}
use Rattle.mc_keep.specs.declared.keeper.Keeper as keeper
use Rattle.mc_model.specs.State.{OpenBatch}
use Rattle.mc_core.specs.declared.CoreError.{CoreError}
use Rattle.mc_core.specs.declared.replica.Replica.{Replica}
use Rattle.mc_core.specs.Exact.{DecidesAlone, IfRefused}
use Rattle.mc_core.specs.Words.{TellsSame}
use Rattle.mc_script.specs.declared.command.Command.{Command}
use Rattle.mc_script.specs.declared.reply.Reply.{Reply}
use Rattle.mc_seats.specs.Calling.{Finds, IsForm, Makes, Outcome, SameBatch, batch_of, is_calm_reach, is_nothing}
use Rattle.mc_seats.specs.Doing.{At, Calls, Doing, doing}

-- the commands that are one call of a replica which may have events
abbrev pub calls_by : Doing → Bool
calls_by (At r (Calls call)) = true
calls_by d = false

abbrev pub is_call : Command → Bool
is_call command = calls_by (doing command)

-- those of them that only read
abbrev pub reads_by : Doing → Bool
reads_by (At r (Calls call)) = is_nothing call.reach
reads_by d = false

abbrev pub is_read : Command → Bool
is_read command = reads_by (doing command)

-- and those whose answer is found in the processed blocks, whatever their order
abbrev pub is_found : Outcome → Bool
is_found (Finds find says) = true
is_found (Makes M) = false

abbrev pub finds_by : Doing → Bool
finds_by (At r (Calls call)) = is_found call.outcome
finds_by d = false

abbrev pub is_find : Command → Bool
is_find command = finds_by (doing command)

-- what such a call makes of the batch, over every keeper
abbrev pub batch_by : Doing → Option OpenBatch → Option OpenBatch → Type 0
batch_by (At r (Calls call)) old new = batch_of call.reach old new
batch_by d old new = SameBatch old new

abbrev pub BatchBy : Command → Option OpenBatch → Option OpenBatch → Type 0
BatchBy command old new = batch_by (doing command) old new

-- the form of its reply
abbrev pub form_by : Doing → Reply → Type 0
form_by (At r (Calls call)) reply = IsForm call.Fits call.says reply
form_by d reply = ⊥

abbrev pub FormBy : Command → Reply → Type 0
FormBy command reply = form_by (doing command) reply

-- whether a command leaves what its keeper tells, and its fuse
abbrev pub runs_by : Doing → Bool
runs_by (At r (Calls call)) = is_calm_reach call.reach
runs_by d = true

abbrev pub only_runs : Command → Bool
only_runs command = runs_by (doing command)

-- a call that makes no block is refused for none
abbrev pub RefusesAlone : Command → Result Reply CoreError → Type 0
RefusesAlone command result = only_runs command ≡ true → IfErr result DecidesAlone

module _ {K D : Type 0} {g : keeper.Ghosts K D} {h : counted.Ghosts K} {i : counted.Ghosts D} (k : Members K D) where
  -- What is as before, over every keeper: the walk and the whole; after every error the batch; after a refusal what is
  -- told, the fuse and what is wanted.
  pub record CallLeaves (command : Command) (result : Result Reply CoreError) (old new : Replica K D g h i)
      : Type 0 where
    pub walk_same : new.walk ≡ old.walk
    pub whole_same : new.whole ≡ old.whole
    pub batch_same : IfErr result (λ error. new.batch ≡ old.batch)
    pub refused : IfRefused result (TellsSame k old new)

  -- and after an Ok
  pub record CallMakes (command : Command) (old new : Replica K D g h i) (reply : Reply) : Type 0 where
    pub batch : BatchBy command old.batch new.batch
    pub form : FormBy command reply
    pub tells : only_runs command ≡ true → TellsSame k old new
