-- Reads of a replica, one after another, and what a call is that makes them.
use Rattle.std.proofs.Common.{◌≡◌, ℕ, Bool, true, false, ◌||◌, Option, Some, None, Result, Ok, Err, refl, sym, ap, ◌∙◌, subst}
use Rattle.std.specs.Prelude.{IfErr, IfSome, ⊤, is_some}
use Rattle.mc_base.specs.Causes.{Rose}
use Rattle.mc_base.specs.Told.{Told}
use Rattle.mc_base.specs.declared.counted.Counted as counted
use Rattle.mc_model.specs.Kept.{Kept}
use Rattle.mc_queue.specs.Views.{shown}
use Rattle.mc_model.specs.State.{Running, durable_of, kept_of}
use Rattle.mc_keep.specs.Causes.{IfTold, Kind, Refusal, Fault, Shortage, has_fired, is_fault_kind}
use Rattle.mc_keep.specs.Plan.{Schedule}
use Rattle.mc_keep.specs.declared.fuse.Fuse.{Fuse}
use Rattle.mc_keep.specs.declared.keeper.Keeper as keeper
use Rattle.mc_plan.specs.Calls.{Call, Stays}
use Rattle.mc_plan.specs.Counted.{run_of}
use Rattle.mc_plan.specs.Events.{ReplicaState, state_of}
use Rattle.mc_plan.specs.Exact.{IfRefused, front_of, seen_of, stop_front}
use Rattle.mc_plan.specs.Reads.{OnlyReads, read_refusal}
use Rattle.mc_plan.specs.Refusals.{ByKind, Is, IsDue, is_fault, kind_of}
use Rattle.mc_plan.specs.declared.error.CoreError.{CoreError}
use Rattle.mc_plan.specs.declared.error.CoreError.TheVariants.{BadKey, ValueTooLong, BlockTooLarge, PriorityFull, Clash}
use Rattle.mc_plan.specs.declared.error.CoreError.TheVariants.{KeeperFault, Stopped, BadCast, NoBatch, BatchOpen, Memory}
use Rattle.mc_plan.proofs.CallFacts.{answers_call, at, early_call}
use Rattle.mc_core.specs.Exact.{DecidesAlone, RestSame, TellsSameAt, is_block_refusal}
use Rattle.mc_core.specs.Replica.{replica_state, running_of}
use Rattle.mc_core.specs.declared.replica.Replica.{Replica}
use Rattle.mc_core.proofs.Keeps.{continues_more, rest_more, still_on}
use Rattle.mc_past.specs.Looks.{LooksAt}

-- a running replica refuses no read

none_seen : (error : CoreError) → seen_of error ≡ None → is_block_refusal error ≡ false → ByKind ⊥ ⊤ ⊤ (kind_of error)
none_seen (BadKey fault) seen alone = absurd (let f : true ≡ false = ap is_some seen in cc)
none_seen ValueTooLong seen alone = absurd (let f : true ≡ false = ap is_some seen in cc)
none_seen (BlockTooLarge len) seen alone = absurd (let f : true ≡ false = alone in cc)
none_seen PriorityFull seen alone = absurd (let f : true ≡ false = alone in cc)
none_seen (Clash cid) seen alone = absurd (let f : true ≡ false = alone in cc)
none_seen KeeperFault seen alone = tt
none_seen Stopped seen alone = absurd (let f : true ≡ false = ap is_some seen in cc)
none_seen (BadCast fault) seen alone = absurd (let f : true ≡ false = ap is_some seen in cc)
none_seen NoBatch seen alone = absurd (let f : true ≡ false = ap is_some seen in cc)
none_seen BatchOpen seen alone = absurd (let f : true ≡ false = ap is_some seen in cc)
none_seen Memory seen alone = tt

pub no_refusal : {T : Type 0} (result : Result T CoreError) (stopped : Bool) → stopped ≡ false → front_of result ≡ stop_front stopped None → IfErr result DecidesAlone → IfRefused result ⊥
no_refusal (Ok value) stopped up front alone = tt
no_refusal (Err error) stopped up front alone = none_seen error (front ∙ ap (λ b. stop_front b None) up) alone

pub only_fault : (error : CoreError) → error ≡ KeeperFault → ByKind ⊥ ⊤ ⊤ (kind_of error)
only_fault error is = subst (λ (e : CoreError). ByKind ⊥ ⊤ ⊤ (kind_of e)) (sym is) tt

seen_none : (error : CoreError) → ByKind ⊥ ⊤ ⊤ (kind_of error) → (seen_of error ≡ None) × (is_block_refusal error ≡ false)
seen_none (BadKey fault) may = absurd may
seen_none ValueTooLong may = absurd may
seen_none (BlockTooLarge len) may = absurd may
seen_none PriorityFull may = absurd may
seen_none (Clash cid) may = absurd may
seen_none KeeperFault may = (refl, refl)
seen_none Stopped may = absurd may
seen_none (BadCast fault) may = absurd may
seen_none NoBatch may = absurd may
seen_none BatchOpen may = absurd may
seen_none Memory may = (refl, refl)

pub front_none : {T : Type 0} (result : Result T CoreError) (stopped : Bool) → stopped ≡ false → IfRefused result ⊥ → front_of result ≡ stop_front stopped None
front_none (Ok value) stopped up may = ap (λ b. stop_front b None) (sym up)
front_none (Err error) stopped up may = (seen_none error may).0 ∙ ap (λ b. stop_front b None) (sym up)

pub decides_alone : {T : Type 0} (result : Result T CoreError) → IfRefused result ⊥ → IfErr result DecidesAlone
decides_alone (Ok value) may = tt
decides_alone (Err error) may = (seen_none error may).1

-- whether a replica has stopped, by its report
pub not_stopped : {T : Type 0} (stopped : Bool) (value : T) → (stopped ≡ true → ⊥) → false ≡ stopped
not_stopped true value runs = absurd (runs refl)
not_stopped false value runs = refl

-- a call that only reads

any_due : (Q : Type 0) (kind : Kind) → ByKind ⊥ ⊤ ⊤ kind → ByKind Q ⊤ ⊤ kind
any_due Q Refusal may = absurd may
any_due Q Fault may = tt
any_due Q Shortage may = tt

ended : {T : Type 0} (back : (kept : Kept) → kept_of (durable_of kept) ≡ kept) (P : Kept → T → Type 0) (told told_new : Option Kept) (fuse fuse_new : Option Fuse) (stop stop_new : Bool) (run : Running) (rose : Type 0) (result : Result T CoreError)
    → stop ≡ false → told_new ≡ told → fuse_new ≡ fuse → stop_new ≡ (is_fault result || stop) → (is_fault result ≡ true → rose) → IfRefused result ⊥ → IfTold told result P
    → Told (state_of told fuse (run_of stop run)) (state_of told_new fuse_new (run_of stop_new run)) (λ s after. Call (Is (read_refusal s)) (OnlyReads P s) (Stays s) rose result s after)
ended back P told told_new fuse fuse_new stop stop_new run rose (Ok value) up e f stays r may is =
    subst (λ b. Told (state_of told fuse (run_of stop run)) (state_of told_new fuse_new (run_of b run)) (λ s after. Call (Is (read_refusal s)) (OnlyReads P s) (Stays s) rose (Ok value) s after)) (sym stays)
    (answers_call back P told told_new fuse fuse_new stop run rose value up e f is)
ended back P told told_new fuse fuse_new stop stop_new run rose (Err error) up e f stays r may is =
    early_call (λ s. Is (read_refusal s)) (OnlyReads P) told told_new fuse fuse_new stop stop_new run rose error up e f (stays ∙ ap (λ b. is_fault_kind (kind_of error) || b) up) r (due told)
  where
    due : (told : Option Kept) → IfSome told (λ kept. IsDue (Is (read_refusal (at kept fuse (run_of false run)))) error)
    due None = tt
    due (Some kept) = any_due (Is (read_refusal (at kept fuse (run_of false run))) (Some error)) (kind_of error) may

-- what such a call answers
told_in : {T : Type 0} (back : (kept : Kept) → kept_of (durable_of kept) ≡ kept) (P : Kept → T → Type 0) (told : Option Kept) (fuse : Option Fuse) (stop : Bool) (run : Running) (after : Option ReplicaState) (rose : Type 0) (result : Result T CoreError)
    → Told (state_of told fuse (run_of stop run)) after (λ s new. Call (Is (read_refusal s)) (OnlyReads P s) (Stays s) rose result s new) → IfTold told result P
told_in back P None fuse stop run after rose result call = tt
told_in back P (Some kept) fuse stop run None rose result call = absurd call
told_in back P (Some kept) fuse stop run (Some new) rose (Ok value) call = subst (λ k. P k value) (back kept) call.makes.1
told_in back P (Some kept) fuse stop run (Some new) rose (Err error) call = tt

not_fired : (fuse : Option Fuse) → has_fired fuse fuse ≡ false
not_fired None = refl
not_fired (Some fuse) = refl

module _ {K D : Type 0} {g : keeper.Ghosts K D} {h : counted.Ghosts K} {i : counted.Ghosts D} (told : K → Option Kept) (fuse : K → Option Fuse) where
  pub call_told : {T : Type 0} (back : (kept : Kept) → kept_of (durable_of kept) ≡ kept) (P : Kept → T → Type 0) (old new : Replica K D g h i) (rose : Type 0) (result : Result T CoreError)
      → Told (replica_state told fuse old) (replica_state told fuse new) (λ s after. Call (Is (read_refusal s)) (OnlyReads P s) (Stays s) rose result s after) → IfTold (told old.keeper) result P
  call_told back P old new rose result call = told_in back P (told old.keeper) (fuse old.keeper) old.stopped (running_of old) (replica_state told fuse new) rose result call

  run_same : (old new : Replica K D g h i) → RestSame old new → TellsSameAt told fuse old new → running_of new ≡ running_of old
  run_same old new rest same =
      ap (λ q. record { queue = shown q; walk = new.walk; batch = new.batch; whole = new.whole }) same.queue_same
      ∙ ap (λ w. record { queue = shown old.queue; walk = w; batch = new.batch; whole = new.whole }) rest.walk_same
      ∙ ap (λ b. record { queue = shown old.queue; walk = old.walk; batch = b; whole = new.whole }) rest.batch_same
      ∙ ap (λ w. record { queue = shown old.queue; walk = old.walk; batch = old.batch; whole = w }) rest.whole_same

  pub looked_call : {own faults : K → ℕ} {quiet : K → Bool} {schedule : K → Option Schedule} {T : Type 0} (back : (kept : Kept) → kept_of (durable_of kept) ≡ kept) (P : Kept → T → Type 0) (old new : Replica K D g h i) (result : Result T CoreError)
      → old.stopped ≡ false → LooksAt told fuse own faults quiet schedule (is_fault result) old new → IfRefused result ⊥ → IfTold (told old.keeper) result P
      → Told (replica_state told fuse old) (replica_state told fuse new) (λ s after. Call (Is (read_refusal s)) (OnlyReads P s) (Stays s) (Rose (own old.keeper) (own new.keeper)) result s after)
  looked_call {own = own} back P old new result up looks may is =
      subst (λ (run : Running). Told (replica_state told fuse old) (state_of (told new.keeper) (fuse new.keeper) (run_of new.stopped run)) (λ s after. Call (Is (read_refusal s)) (OnlyReads P s) (Stays s) (Rose (own old.keeper) (own new.keeper)) result s after)) (sym (run_same old new looks.rest looks.same))
      (ended back P (told old.keeper) (told new.keeper) (fuse old.keeper) (fuse new.keeper) old.stopped new.stopped (running_of old) (Rose (own old.keeper) (own new.keeper)) result up looks.same.told_same looks.same.fuse_same looks.keeps.stops
      (λ failed. looks.keeps.keeper_goes.own_rose (ap (has_fired (fuse old.keeper)) looks.same.fuse_same ∙ not_fired (fuse old.keeper)) failed) may is)

module _ {K D : Type 0} {g : keeper.Ghosts K D} {h : counted.Ghosts K} {i : counted.Ghosts D} {told : K → Option Kept} {fuse : K → Option Fuse} {own faults : K → ℕ} {quiet : K → Bool} {schedule : K → Option Schedule} where
  pub looks_more : {failed : Bool} {old mid new : Replica K D g h i} → LooksAt told fuse own faults quiet schedule false old mid → LooksAt told fuse own faults quiet schedule failed mid new → LooksAt told fuse own faults quiet schedule failed old new
  looks_more first next = record {
    keeps = continues_more first.keeps next.keeps;
    rest = rest_more first.rest next.rest;
    same = record { told_same = next.same.told_same ∙ first.same.told_same; fuse_same = next.same.fuse_same ∙ first.same.fuse_same; queue_same = next.same.queue_same ∙ first.same.queue_same };
  }

  pub looks_itself : (now : Replica K D g h i) → LooksAt told fuse own faults quiet schedule false now now
  looks_itself now = record {
    keeps = still_on refl refl refl;
    rest = record { walk_same = refl; batch_same = refl; whole_same = refl; inbox_same = refl };
    same = record { told_same = refl; fuse_same = refl; queue_same = refl };
  }

  -- it runs on
  pub looks_runs : {old new : Replica K D g h i} → LooksAt told fuse own faults quiet schedule false old new → old.stopped ≡ false → new.stopped ≡ false
  looks_runs looks up = looks.keeps.stops ∙ up

-- what is told later is told now
pub told_first : {T : Type 0} (P : Kept → T → Type 0) (told told_mid : Option Kept) (result : Result T CoreError) → told_mid ≡ told → IfTold told_mid result P → IfTold told result P
told_first P told told_mid result same is = subst (λ (t : Option Kept). IfTold t result P) same is
