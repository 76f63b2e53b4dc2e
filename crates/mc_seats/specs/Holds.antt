-- What is held at a seat, and what its calls answer.
use Rattle.std.specs.Prelude.{◌≡◌, ◌⊎◌, true, false, Option, Some, None, Result, Ok, Err, unwrap_or}
use Rattle.mc_base.specs.declared.counted.Counted as counted
use Rattle.mc_keep.specs.Calls.{Members, Reads}
use Rattle.mc_keep.specs.declared.keeper.Keeper as keeper
use Rattle.mc_model.specs.Kept.{Kept}
use Rattle.mc_model.specs.State.{Running}
use Rattle.mc_core.specs.Counted.{run_of}
use Rattle.mc_core.specs.Replica.{running_of}
use Rattle.mc_script.specs.declared.reply.Reply.{Reply}
use Rattle.mc_script.specs.declared.reply.Reply.TheVariants.{Done, FaultKeeper, Stopped}
use Rattle.mc_seats.specs.declared.error.ActError.{ActError}
use Rattle.mc_seats.specs.declared.seat.Held.{Held}
use Rattle.mc_seats.specs.declared.seat.Held.TheVariants.{Up, Down}
use Rattle.mc_seats.specs.Keepers.{keeper_in}
use Rattle.mc_seats.specs.Effects.{HasNumbers, OpensAs, stop_reply}

-- what runs there, if it runs
abbrev pub run_in : {K D : Type 0} {g : keeper.Ghosts K D} {h : counted.Ghosts K} {i : counted.Ghosts D}
    → Held K D g h i → Option Running
run_in (Up replica) = run_of replica.stopped (running_of replica)
run_in (Down idle) = None

-- the numbers of one that runs, and `stopped` of one that doesn't
abbrev pub SaysState : Option Kept → Option Running → Reply → Type 0
SaysState content None reply = reply ≡ Stopped
SaysState content (Some run) reply = HasNumbers content run reply

-- what a stop is answered
abbrev pub stop_answer : Option Running → Reply
stop_answer run = unwrap_or (stop_reply run) Done

-- the answer in place of what was asked for
abbrev pub early_answer : {T : Type 0} → Result Reply ActError → Result (Result T Reply) ActError
early_answer (Ok reply) = Ok (Err reply)
early_answer (Err error) = Err error

module _ {K D : Type 0} {g : keeper.Ghosts K D} {h : counted.Ghosts K} {i : counted.Ghosts D} (k : Members K D) where
  -- a replica was opened over a keeper, which was only read
  pub record IsOpened (keeper : K) (held : Held K D g h i) : Type 0 where
    pub runs : OpensAs (k.told keeper) (run_in held)
    pub reads : Reads k false keeper (keeper_in held)

  -- or the keeper failed
  pub record IsNotOpened (keeper : K) (held : Held K D g h i) : Type 0 where
    pub down : run_in held ≡ None
    pub reads : Reads k true keeper (keeper_in held)

  abbrev pub Opening : K → Held K D g h i → Reply → Type 0
  Opening keeper held reply =
      (IsOpened keeper held × (reply ≡ Done)) ⊎ (IsNotOpened keeper held × (reply ≡ FaultKeeper))
