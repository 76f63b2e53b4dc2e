-- What a storm does at a replica in its seat.
use Rattle.std.proofs.Common.{◌≡◌, ℕ, Bool, true, false, true≢false, cond, List, [], Option, Some, None, Result, Ok, Err, refl, sym, ap, ◌∙◌, subst, inl, inr}
use Rattle.std.specs.Prelude.{◌↔◌, ⊤, IfOk}
use Rattle.std.specs.Result.{is_ok}
use Rattle.mc_base.specs.Told.{Told}
use Rattle.mc_base.specs.declared.counted.Counted as counted
use Rattle.mc_base.proofs.Telling.{told_weaker}
use Rattle.mc_fetch.specs.declared.plants.Planted.{Planted}
use Rattle.mc_keep.specs.Calls.{Members}
use Rattle.mc_keep.specs.Causes.{has_fired}
use Rattle.mc_keep.specs.declared.fuse.Fuse.{Fuse}
use Rattle.mc_keep.specs.declared.keeper.Keeper as keeper
use Rattle.mc_model.specs.Kept.{Kept}
use Rattle.mc_model.specs.State.{Running}
use Rattle.mc_core.specs.Counted.{run_of}
use Rattle.mc_core.specs.Events.{ReplicaState}
use Rattle.mc_core.specs.Exact.{RunSame, stop_front}
use Rattle.mc_core.specs.Replica.{running_of}
use Rattle.mc_core.specs.Words.{Becomes, Continues}
use Rattle.mc_core.specs.declared.CoreError.TheVariants as core
use Rattle.mc_core.specs.declared.replica.Replica.{Replica}
use Rattle.mc_storm.specs.Storms.{StormLeads, StormPauses, storm_broke}
use Rattle.mc_storm.specs.declared.outcome.StormError.{StormError}
use Rattle.mc_storm.specs.declared.outcome.StormError.TheVariants as storm
use Rattle.mc_storm.specs.declared.outcome.Stormed.{Stormed}
use Rattle.mc_script.specs.declared.command.Command.TheVariants.{Storm}
use Rattle.mc_script.specs.declared.reply.Reply.TheVariants.{FaultKeeper, Stopped}
use Rattle.mc_seats.specs.declared.error.ActError.{ActError}
use Rattle.mc_seats.specs.declared.seat.Held.{Held}
use Rattle.mc_seats.specs.declared.seat.Held.TheVariants.{Up, Down}
use Rattle.mc_seats.specs.declared.seat.Idle.{Idle}
use Rattle.mc_seats.specs.declared.seat.Seat.{Seat}
use Rattle.mc_seats.specs.Keepers.{keeper_of}
use Rattle.mc_seats.specs.Effects.{AsksAt, Leaves, RefusedAt}
use Rattle.mc_seats.specs.Step.{CutShort, ShortAt}
use Rattle.mc_seats.specs.Storming.{storm_answer, stormed_reply}
use Rattle.mc_seats.specs.Words.{KeeperGoes, SeatActsIn, SeatRow, place}
use Rattle.mc_seats.specs.Worlds.{Place, WorldState, is_down, state_at}
use Rattle.mc_seats.proofs.BeginFacts.{down_of, is_no_error, never, runs_same, runs_still, short_is_not_bad}
use Rattle.mc_seats.proofs.GoesFacts.{keeper_goes, keeper_still}
use Rattle.mc_seats.proofs.RowFacts.{of_seat, up, down, why_of}

-- a storm is refused exactly where its replica doesn't run

storm_allowed : (w : WorldState) (r writers writes : ℕ) (content : Option Kept) (fuse : Option Fuse) (run : Option Running) (planted : List Planted) → is_down run ≡ false
    → RefusedAt w (record { content = content; fuse = fuse; run = run; planted = planted }) (Storm r writers writes) None
storm_allowed w r writers writes None fuse run planted is = (ap (λ b. stop_front b None) is, tt)
storm_allowed w r writers writes (Some kept) fuse None planted is = never is
storm_allowed w r writers writes (Some kept) fuse (Some run) planted is = (refl, refl)

storm_refused : (w : WorldState) (r writers writes : ℕ) (content : Option Kept) (fuse : Option Fuse) (run : Option Running) (planted : List Planted) → is_down run ≡ true
    → RefusedAt w (record { content = content; fuse = fuse; run = run; planted = planted }) (Storm r writers writes) (Some Stopped)
storm_refused w r writers writes content fuse (Some run) planted is = never (sym is)
storm_refused w r writers writes None fuse None planted is = (core.Stopped, refl, tt, refl, λ is. refl)
storm_refused w r writers writes (Some kept) fuse None planted is = (core.Stopped, refl, refl, refl, λ is. refl)

-- a flag that is not true
not_true : (b : Bool) → (b ≡ true → ⊥) → b ≡ false
not_true true denies = absurd (denies refl)
not_true false denies = refl

abbrev is_stop : Result Stormed StormError → Bool
is_stop (Err storm.Stopped) = true
is_stop result = false

module _ {K D : Type 0} {g : keeper.Ghosts K D} {h : counted.Ghosts K} {i : counted.Ghosts D} (k : Members K D) (r writers writes : ℕ) where
  -- what the storm of a node has left of its replica
  pub record Storms (result : Result Stormed StormError) (old new : Replica K D g h i) : Type 0 where
    pub leads : Becomes k (λ rose s after. StormLeads writers writes result rose s after) old new
    pub keeps : Continues k (storm_broke result) old new
    pub rest : RunSame old new
    pub stopped : result ≡ Err storm.Stopped ↔ old.stopped ≡ true
    pub still : old.stopped ≡ true → new ≡ old

  module _ (old new : Replica K D g h i) (planted : List Planted) where
    abbrev Acts : Result Stormed StormError → Type 0
    Acts result = SeatActsIn k (λ w. ⊤) (Storm r writers writes) (storm_answer result) (up old planted) (up new planted)

    -- it ran where it was not answered that it had stopped
    ran : (result : Result Stormed StormError) → is_stop result ≡ false → Storms result old new → old.stopped ≡ false
    ran result is storms = not_true old.stopped (λ stop. true≢false (sym (ap is_stop (storms.stopped.1 stop)) ∙ is))

    runs_down : old.stopped ≡ false → is_down (run_of old.stopped (running_of old)) ≡ false
    runs_down runs = down_of old.stopped (running_of old) ∙ runs

    all_made : (stormed : Stormed) → Storms (Ok stormed) old new → Acts (Ok stormed)
    all_made stormed storms =
        let runs = ran (Ok stormed) refl storms in
        record {
          row = λ w here. inl (inr (
            storm_allowed w r writers writes (k.told old.keeper) (k.fuse old.keeper) (run_of old.stopped (running_of old)) planted (runs_down runs),
            record {
              value = stormed;
              says = refl;
              runs = record {
                run_on = runs_same old.stopped new.stopped (running_of old) (running_of new) runs storms.keeps.stops storms.rest.walk_same storms.rest.whole_same storms.rest.batch_same;
                silent = storms.keeps.keeper_goes.silent;
                planted_same = refl;
              };
              told = storms.leads;
            },
          ));
          short = λ e. is_no_error e;
          not_bad = λ e. is_no_error e;
          goes = keeper_goes storms.keeps.keeper_goes;
        }

    had_stopped : Storms (Err storm.Stopped) old new → Acts (Err storm.Stopped)
    had_stopped storms =
        let stop = storms.stopped.0 refl in
        record {
          row = λ w here. inl (inl (
            storm_refused w r writers writes (k.told old.keeper) (k.fuse old.keeper) (run_of old.stopped (running_of old)) planted (down_of old.stopped (running_of old) ∙ stop),
            ap (λ (x : Replica K D g h i). place k (up x planted)) (storms.still stop),
          ));
          short = λ e. is_no_error e;
          not_bad = λ e. is_no_error e;
          goes = keeper_goes storms.keeps.keeper_goes;
        }

    has_failed : Storms (Err storm.KeeperFault) old new → Acts (Err storm.KeeperFault)
    has_failed storms =
        let runs = ran (Err storm.KeeperFault) refl storms in
        record {
          row = λ w here. inr (
            refl,
            storms.keeps.keeper_goes.faults_go.rose refl,
            ap (λ b. stop_front b None) (runs_down runs),
            refl,
            record {
              down = ap (λ b. run_of b (running_of new)) storms.keeps.stops;
              silent = storms.keeps.keeper_goes.silent;
              planted_same = refl;
              why = why_of (has_fired (k.fuse old.keeper) (k.fuse new.keeper)) (λ none. storms.keeps.keeper_goes.own_rose none refl);
              told = storms.leads;
            },
          );
          short = λ e. is_no_error e;
          not_bad = λ e. is_no_error e;
          goes = keeper_goes storms.keeps.keeper_goes;
        }

    some_made : Storms (Err storm.Memory) old new → Acts (Err storm.Memory)
    some_made storms = record {
      row = λ w here. tt;
      short = λ is. record {
        runs = runs_still old.stopped new.stopped (running_of old) (running_of new) storms.keeps.stops storms.rest.walk_same storms.rest.whole_same storms.rest.batch_same;
        silent = storms.keeps.keeper_goes.silent;
        planted_same = refl;
        told = told_weaker (StormPauses writers writes) (Leaves (Storm r writers writes)) (λ s left pauses. inr pauses) (state_at (place k (up old planted))) (state_at (place k (up new planted))) storms.leads;
      };
      not_bad = λ e. short_is_not_bad e;
      goes = keeper_goes storms.keeps.keeper_goes;
    }

    by_result : (result : Result Stormed StormError) → Storms result old new → Acts result
    by_result (Ok stormed) storms = all_made stormed storms
    by_result (Err storm.Stopped) storms = had_stopped storms
    by_result (Err storm.KeeperFault) storms = has_failed storms
    by_result (Err storm.Memory) storms = some_made storms

  -- at a seat that holds a replica
  pub storm_up : (x : Seat K D g h i) (old new : Replica K D g h i) (result : Result Stormed StormError) (answer : Result _ ActError) → x.held ≡ Up old → answer ≡ storm_answer result → Storms result old new
      → SeatActsIn k (λ w. ⊤) (Storm r writers writes) answer x (up new x.planted)
  storm_up x old new result answer held answered storms =
      subst (λ (a : Result _ ActError). SeatActsIn k (λ w. ⊤) (Storm r writers writes) a x (up new x.planted)) (sym answered)
      (of_seat k (λ w. ⊤) (Storm r writers writes) (storm_answer result) x old new held (by_result old new x.planted result storms))

  -- and at one that holds a keeper alone
  down_still : (idle : Idle K D g h i) (planted : List Planted) → SeatActsIn k (λ w. ⊤) (Storm r writers writes) (Ok Stopped) (down idle planted) (down idle planted)
  down_still idle planted = record {
    row = λ w here. inl (inl (storm_refused w r writers writes (k.told idle.keeper) (k.fuse idle.keeper) None planted refl, refl));
    short = λ e. is_no_error e;
    not_bad = λ e. is_no_error e;
    goes = keeper_still idle.keeper;
  }

  pub storm_down : (x : Seat K D g h i) (idle : Idle K D g h i) → x.held ≡ Down idle → SeatActsIn k (λ w. ⊤) (Storm r writers writes) (Ok Stopped) x (down idle x.planted)
  storm_down x idle is = subst (λ (held : Held K D g h i). SeatActsIn k (λ w. ⊤) (Storm r writers writes) (Ok Stopped) (record { held = held; planted = x.planted }) (down idle x.planted)) (sym is) (down_still idle x.planted)
