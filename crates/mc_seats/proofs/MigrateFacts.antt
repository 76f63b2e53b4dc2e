-- The replica of a part that was opened after its keeper had migrated, and a part that was not.
use Rattle.std.proofs.Common.{◌≡◌, ℕ, Bool, true, false, List, [], Option, Some, None, refl, sym, ap, subst, ◌∙◌, arith}
use Rattle.std.specs.Prelude.{IfErr, IfOk, nat_eq, Result, Ok, Err}
use Rattle.mc_base.specs.Causes.{Rose}
use Rattle.mc_base.specs.declared.counted.Counted as counted
use Rattle.mc_keep.specs.Calls.{Goes, Members}
use Rattle.mc_keep.specs.Causes.{has_fired}
use Rattle.mc_keep.specs.declared.fuse.Fuse.{Fuse}
use Rattle.mc_keep.specs.declared.keeper.Keeper as keeper
use Rattle.mc_model.specs.Kept.{Kept}
use Rattle.mc_model.specs.State.{Running}
use Rattle.mc_model.specs.Wanted.{no_queue}
use Rattle.mc_core.specs.Counted.{run_of}
use Rattle.mc_core.specs.Events.{ReplicaState, state_of}
use Rattle.mc_core.specs.Openings.{is_fault_cause}
use Rattle.mc_core.specs.Replica.{opened_state, replica_state, running_of}
use Rattle.mc_core.specs.declared.replica.OpenCause.{OpenCause}
use Rattle.mc_core.specs.declared.replica.OpenCause.TheVariants.{KeeperFault}
use Rattle.mc_core.specs.declared.replica.Replica.{Replica}
use Rattle.mc_seats.specs.Desked.{AreDesksOf}
use Rattle.mc_seats.specs.Keepers.{is_calm_keeper}
use Rattle.mc_seats.specs.Openings.{IsBack, IsOpened, IsSeated}
use Rattle.mc_seats.specs.Starts.{IsStart}
use Rattle.mc_seats.specs.Tending.{OpensAs}
use Rattle.mc_seats.specs.Words.{place}
use Rattle.mc_seats.specs.Worlds.{place_with}
use Rattle.mc_seats.specs.declared.parting.NoPart.{NoPart}
use Rattle.mc_seats.specs.declared.parting.Opened.{Opened}
use Rattle.mc_seats.specs.declared.seat.Held.TheVariants.{Up}
use Rattle.mc_seats.specs.declared.seat.Seat.{Seat}
use Rattle.mc_seats.specs.declared.world.Part.{Part}
use Rattle.mc_seats.proofs.OpeningFacts.{both_true, first_true, second_true}
use Rattle.mc_seats.proofs.StayFacts.{have_before}

-- where there is no fuse none has fired
unfired : (fuse new : Option Fuse) → fuse ≡ None → has_fired fuse new ≡ false
unfired fuse new none = ap (λ (f : Option Fuse). has_fired f new) none

module _ {K D : Type 0} (k : Members K D) where
  -- nothing was opened
  pub not_migrated : (cause : OpenCause) (old new : K) → k.fuse old ≡ None → k.told new ≡ k.told old → Goes k (is_fault_cause cause) old new → IsBack k cause old new
  not_migrated cause old new none same goes = record {
    told_same = same;
    no_fuse = goes.no_fuse none;
    own_later = goes.own_later;
    rose = λ e. goes.own_rose (unfired (k.fuse old) (k.fuse new) none) (ap is_fault_cause e);
    calm = λ calm e. not_both (sym (ap is_fault_cause e) ∙ goes.calm (unfired (k.fuse old) (k.fuse new) none) (first_true (k.quiet old) (nat_eq (k.own old) 0) calm));
  }
    where
      not_both : true ≡ false → ⊥
      not_both e = cc

  -- a migration came before
  pub back_migrated : (cause : OpenCause) (old mid new : K) → k.told mid ≡ k.told old → Goes k false old mid → IsBack k cause mid new → IsBack k cause old new
  back_migrated cause old mid new same goes back = record {
    told_same = back.told_same ∙ same;
    no_fuse = back.no_fuse;
    own_later = omega (arith, goes.own_later, back.own_later);
    rose = λ e. subst (λ (n : ℕ). Rose n (k.own new)) (goes.own_still refl) (back.rose e);
    calm = λ calm e. back.calm (still calm) e;
  }
    where
      still : is_calm_keeper k old ≡ true → is_calm_keeper k mid ≡ true
      still calm = both_true (goes.still_quiet (first_true (k.quiet old) (nat_eq (k.own old) 0) calm)).0
          (ap (λ (n : ℕ). nat_eq n 0) (goes.own_still refl) ∙ second_true (k.quiet old) (nat_eq (k.own old) 0) calm)

  -- the desks of a keeper that migrated before it made them
  pub of_migrated : (old new : K) (desks : List D) → k.fuse old ≡ None → Goes k false old new → AreDesksOf k.desk_schedule (k.schedule new) desks → AreDesksOf k.desk_schedule (k.schedule old) desks
  of_migrated old new desks none goes of =
      record { planned = have_before k.desk_schedule (k.schedule old) (k.schedule new) false desks (goes.planned (unfired (k.fuse old) (k.fuse new) none)) of.planned }

module _ {K D : Type 0} (k : Members K D) (part : Part K D) (mid : K) (none : k.fuse part.keeper ≡ None) (same : k.told mid ≡ k.told part.keeper) (goes : Goes k false part.keeper mid) where
  -- no desks were made of it
  pub refused_migrated : {O : Type 0} (result : Result O (NoPart K D)) → IfErr result (λ refused. IsBack k refused.cause mid refused.part.keeper) → IfErr result (λ refused. IsBack k refused.cause part.keeper refused.part.keeper)
  refused_migrated (Ok seated) back = tt
  refused_migrated (Err refused) back = back_migrated k refused.cause part.keeper mid refused.part.keeper same goes back

  pub own_migrated : {O : Type 0} (result : Result O (NoPart K D)) → IfErr result (λ refused. AreDesksOf k.desk_schedule (k.schedule mid) refused.part.desks) → IfErr result (λ refused. AreDesksOf k.desk_schedule (k.schedule part.keeper) refused.part.desks)
  own_migrated (Ok seated) of = tt
  own_migrated (Err refused) of = of_migrated k part.keeper mid refused.part.desks none goes of

-- what runs after an opening, over what was told before it
abbrev run_in : Option ReplicaState → Option Running
run_in None = None
run_in (Some s) = s.state.run

opens_as : (told now : Option Kept) (fuse : Option Fuse) (stop : Bool) (run : Running) → now ≡ told → state_of now fuse (run_of stop run) ≡ opened_state told fuse → stop ≡ false → run.batch ≡ None → run.queue ≡ no_queue → run.walk ≡ None
    → OpensAs told (run_of stop run)
opens_as None now fuse stop run same is runs no_batch no_queue_is no_walk =
    (run.whole, ap (λ (b : Bool). run_of b run) runs ∙ (λ i. Some (record { queue = no_queue_is i; walk = no_walk i; batch = no_batch i; whole = run.whole })))
opens_as (Some kept) now fuse stop run same is runs no_batch no_queue_is no_walk =
    ap run_in (sym (ap (λ (t : Option Kept). state_of t fuse (run_of stop run)) same) ∙ is)

module _ {K D : Type 0} {g : keeper.Ghosts K D} {h : counted.Ghosts K} {i : counted.Ghosts D} (k : Members K D) (desk_faults : D → ℕ) (part : Part K D) (replica : Replica K D g h i)
    (none : k.fuse part.keeper ≡ None) (same : k.told replica.keeper ≡ k.told part.keeper) (goes : Goes k false part.keeper replica.keeper) where
  -- a replica in its seat
  start_of : (seat : Seat K D g h i) → OpensAs (k.told part.keeper) (run_of replica.stopped (running_of replica)) → place k seat ≡ place_with k.told k.fuse [] (Up replica) → IsStart (k.told part.keeper) (place k seat)
  start_of seat opens is = subst (IsStart (k.told part.keeper)) (sym is) (record { content = same; no_fuse = goes.no_fuse none; nothing_planted = refl; opened = opens })

  is_opened : (seat : Seat K D g h i) (desks : List D) → OpensAs (k.told part.keeper) (run_of replica.stopped (running_of replica)) → IsSeated k desk_faults replica seat desks → IsOpened k desk_faults part seat desks
  is_opened seat desks opens seated = record {
    start = start_of seat opens seated.place_same;
    told_same = seated.told_same ∙ same;
    no_fuse = seated.fuse_same ∙ goes.no_fuse none;
    own_same = seated.own_same ∙ goes.own_still refl;
    still_quiet = λ e. seated.still_quiet (goes.still_quiet e).0;
    new_desks = record { no_faults = seated.new_desks.no_faults; calm = λ e. seated.new_desks.calm (goes.still_quiet e).0 };
    of_keeper = of_migrated k part.keeper replica.keeper desks none goes seated.of_keeper;
    many = seated.many;
  }

  pub opened_migrated : {E : Type 0} (result : Result (Opened K D g h i) E) → replica_state k.told k.fuse replica ≡ opened_state (k.told part.keeper) (k.fuse replica.keeper) → (replica.stopped ≡ false) × (replica.batch ≡ None)
      → ((running_of replica).queue ≡ no_queue) × (replica.walk ≡ None) → IfOk result (λ opened. IsSeated k desk_faults replica opened.seat opened.desks) → IfOk result (λ opened. IsOpened k desk_faults part opened.seat opened.desks)
  opened_migrated (Ok seated) opens runs fresh is =
      is_opened seated.seat seated.desks (opens_as (k.told part.keeper) (k.told replica.keeper) (k.fuse replica.keeper) replica.stopped (running_of replica) same opens runs.0 runs.1 fresh.0 fresh.1) is
  opened_migrated (Err refused) opens runs fresh is = tt
