-- A work or a repair of what is held at a seat.
use Rattle.std.proofs.Common.{◌≡◌, ◌↔◌, ◌∙◌, ℕ, Bool, true, false, List, [], ◌∷◌, Option, Some, None, Result, Ok, Err, refl, sym, ap, subst, inl, inr, ◌⊎◌}
use Rattle.std.proofs.lemmas.Bool.{false≢true, true≢false}
use Rattle.mc_base.specs.Causes.{Rose}
use Rattle.mc_base.specs.Told.{Told}
use Rattle.mc_base.specs.declared.counted.Counted as counted
use Rattle.mc_core.specs.Counted.{run_of}
use Rattle.mc_core.specs.Events.{ReplicaState}
use Rattle.mc_core.specs.Replica.{replica_state, running_of}
use Rattle.mc_core.specs.Words.{ContinuesAt}
use Rattle.mc_core.specs.declared.replica.Replica.{Replica}
use Rattle.mc_drain.specs.Works.{keeper_broke}
use Rattle.mc_drain.specs.declared.working.WorkError.{WorkError}
use Rattle.mc_drain.specs.declared.working.WorkError.TheVariants.{KeeperFault, PeerFault, Stopped, Memory}
use Rattle.mc_fetch.specs.declared.plants.Planted.{Planted}
use Rattle.mc_keep.specs.Calls.{Members}
use Rattle.mc_keep.specs.Causes.{has_fired}
use Rattle.mc_keep.specs.declared.fuse.Fuse.{Fuse}
use Rattle.mc_keep.specs.declared.keeper.Keeper as keeper
use Rattle.mc_model.specs.Draining.{queue_in}
use Rattle.mc_model.specs.State.{Running}
use Rattle.mc_model.specs.Wanted.{Queue}
use Rattle.mc_seats.specs.declared.seat.Held.{Held}
use Rattle.mc_seats.specs.declared.seat.Held.TheVariants.{Up}
use Rattle.mc_seats.specs.Keepers.{keeper_in}
use Rattle.mc_pull.specs.Pulls.{DeskListGoes}
use Rattle.mc_pull.proofs.DeskFacts.{same_list}
use Rattle.std.specs.List.{AllZip}
use Rattle.mc_world.specs.Pulling.{Broken, PullsBy, PullsKeeper}
use Rattle.mc_seats.specs.Works.{Pulled, RepairOn, RunsTo}
use Rattle.mc_seats.specs.Worlds.{Place, is_down, place_with}
use Rattle.mc_seats.proofs.GoesFacts.{keeper_goes}

no_true : {P : Type 0} → false ≡ true → P
no_true e = absurd (false≢true e)

runs_down : (stop : Bool) (run : Running) → is_down (run_of stop run) ≡ stop
runs_down true run = refl
runs_down false run = refl

runs_to : (P : Running → Running → Type 0) (stop stop2 : Bool) (run run2 : Running) → stop ≡ false → stop2 ≡ false → P run run2 → RunsTo P (run_of stop run) (run_of stop2 run2)
runs_to P true stop2 run run2 up up2 holds = absurd (true≢false up)
runs_to P false true run run2 up up2 holds = absurd (true≢false up2)
runs_to P false false run run2 up up2 holds = holds

none_runs : (stop : Bool) (run : Running) → stop ≡ true → run_of stop run ≡ None
none_runs true run is = refl
none_runs false run is = no_true is

queue_runs : (W : Queue → Type 0) (stop : Bool) (run : Running) → stop ≡ false → W run.queue → W (queue_in (run_of stop run))
queue_runs W true run up holds = absurd (true≢false up)
queue_runs W false run up holds = holds

-- the fuse fired, or the own count rose
fired_or : (fuse fuse2 : Option Fuse) (own : Type 0) → (has_fired fuse fuse2 ≡ false → own) → (has_fired fuse fuse2 ≡ true) ⊎ own
fired_or None fuse2 own rose = inr (rose refl)
fired_or (Some fuse) None own rose = inl refl
fired_or (Some fuse) (Some fuse2) own rose = inr (rose refl)

abbrev is_stop : {T : Type 0} → Result T WorkError → Bool
is_stop (Ok value) = false
is_stop (Err KeeperFault) = false
is_stop (Err PeerFault) = false
is_stop (Err Stopped) = true
is_stop (Err Memory) = false

up_of : {T : Type 0} (result : Result T WorkError) (stop : Bool) → is_stop result ≡ false → (result ≡ Err Stopped ↔ stop ≡ true) → stop ≡ false
up_of result true other stops = absurd (false≢true (sym other ∙ ap is_stop (stops.1 refl)))
up_of result false other stops = refl

module _ {K D : Type 0} {g : keeper.Ghosts K D} {h : counted.Ghosts K} {i : counted.Ghosts D} (k : Members K D) where
  abbrev At : List Planted → Replica K D g h i → Place
  At planted replica = place_with k.told k.fuse planted (Up replica)

  abbrev Own : Replica K D g h i → Replica K D g h i → Type 0
  Own old new = Rose (k.own old.keeper) (k.own new.keeper)

  pub pulls_keeper : (failed : Bool) (held : Held K D g h i) (old new : Replica K D g h i) → held ≡ Up old → ContinuesAt k.told k.fuse k.own k.faults k.quiet k.schedule failed old new → PullsKeeper k failed (keeper_in held) new.keeper
  pulls_keeper failed held old new is keeps =
      subst (λ (x : Held K D g h i). PullsKeeper k failed (keeper_in x) new.keeper) (sym is) (record { goes = keeper_goes keeps.keeper_goes; named = λ e. keeps.keeper_goes.faults_go.rose e })

  module _ (P : Running → Running → Type 0) (W : Queue → Type 0) (Leads : ReplicaState → ReplicaState → Type 0) where
    runs_on : (old new : Replica K D g h i) (planted : List Planted) → Told (replica_state k.told k.fuse old) (replica_state k.told k.fuse new) Leads → ContinuesAt k.told k.fuse k.own k.faults k.quiet k.schedule false old new → old.stopped ≡ false
        → P (running_of old) (running_of new) → W (running_of new).queue → (is_down (At planted old).run ≡ false) × Pulled P W Leads (At planted old) (At planted new)
    runs_on old new planted told keeps up on wants = (
      runs_down old.stopped (running_of old) ∙ up,
      record {
        runs = runs_to P old.stopped new.stopped (running_of old) (running_of new) up (keeps.stops ∙ up) on;
        wants = queue_runs W new.stopped (running_of new) (keeps.stops ∙ up) wants;
        silent = keeps.keeper_goes.silent;
        planted_same = refl;
        told = told;
      },
    )

    breaks : (old new : Replica K D g h i) (planted : List Planted) → Told (replica_state k.told k.fuse old) (replica_state k.told k.fuse new) Leads → ContinuesAt k.told k.fuse k.own k.faults k.quiet k.schedule true old new → old.stopped ≡ false
        → (is_down (At planted old).run ≡ false) × Broken (Own old new) Leads (At planted old) (At planted new)
    breaks old new planted told keeps up = (
      runs_down old.stopped (running_of old) ∙ up,
      record {
        down = none_runs new.stopped (running_of new) keeps.stops;
        silent = keeps.keeper_goes.silent;
        planted_same = refl;
        why = fired_or (k.fuse old.keeper) (k.fuse new.keeper) (Own old new) (λ e. keeps.keeper_goes.own_rose e refl);
        told = told;
      },
    )

    pulls : {T : Type 0} (result : Result T WorkError) (old new : Replica K D g h i) (planted : List Planted) → Told (replica_state k.told k.fuse old) (replica_state k.told k.fuse new) Leads
        → ContinuesAt k.told k.fuse k.own k.faults k.quiet k.schedule (keeper_broke result) old new → (result ≡ Err Stopped ↔ old.stopped ≡ true) → (old.stopped ≡ true → new ≡ old) → P (running_of old) (running_of new) → W (running_of new).queue
        → PullsBy P W Leads result (Own old new) (At planted old) (At planted new)
    pulls (Ok value) old new planted told keeps stops still on wants = runs_on old new planted told keeps (up_of (Ok value) old.stopped refl stops) on wants
    pulls (Err KeeperFault) old new planted told keeps stops still on wants = breaks old new planted told keeps (up_of (Err KeeperFault) old.stopped refl stops)
    pulls (Err PeerFault) old new planted told keeps stops still on wants = runs_on old new planted told keeps (up_of (Err PeerFault) old.stopped refl stops) on wants
    pulls (Err Stopped) old new planted told keeps stops still on wants = (runs_down old.stopped (running_of old) ∙ stops.0 refl, ap (At planted) (still (stops.0 refl)))
    pulls (Err Memory) old new planted told keeps stops still on wants = runs_on old new planted told keeps (up_of (Err Memory) old.stopped refl stops) on wants

    -- what the calls of a replica say of a place
    pub pulls_held : {T : Type 0} (result : Result T WorkError) (held : Held K D g h i) (old new : Replica K D g h i) (planted : List Planted) → held ≡ Up old → Told (replica_state k.told k.fuse old) (replica_state k.told k.fuse new) Leads
        → ContinuesAt k.told k.fuse k.own k.faults k.quiet k.schedule (keeper_broke result) old new → (result ≡ Err Stopped ↔ old.stopped ≡ true) → (old.stopped ≡ true → new ≡ old) → P (running_of old) (running_of new) → W (running_of new).queue
        → PullsBy P W Leads result (Rose (k.own (keeper_in held)) (k.own new.keeper)) (place_with k.told k.fuse planted held) (At planted new)
    pulls_held result held old new planted is told keeps stops still on wants =
        subst (λ (x : Held K D g h i). PullsBy P W Leads result (Rose (k.own (keeper_in x)) (k.own new.keeper)) (place_with k.told k.fuse planted x) (At planted new)) (sym is) (pulls result old new planted told keeps stops still on wants)

-- what is said of a repair's run
pub repair_on : (walked : Bool) (old new : Running) → (walked ≡ true → new.whole ≡ true) → new.batch ≡ old.batch → RepairOn walked old new
repair_on true old new whole batch = (whole refl, batch)
repair_on false old new whole batch = batch

-- desks that no call came to
pub desks_still : {K D : Type 0} (k : Members K D) (desk_faults : D → ℕ) (quiet : Bool) (lists : List (List D)) → AllZip (DeskListGoes k desk_faults quiet) lists lists
desks_still k desk_faults quiet [] = tt
desks_still k desk_faults quiet (list ∷ lists) = (same_list k desk_faults quiet list, desks_still k desk_faults quiet lists)
