-- The calls on a batch.
use Rattle.std.proofs.Common.{◌≡◌, ℕ, Bool, true, false, cond, List, [], ◌∷◌, ◌++◌, Option, Some, None, Ok, Err, refl, sym, ◌∙◌, ap, subst}
use Rattle.std.specs.Prelude.{IfSome, ⊤}
use Rattle.std.specs.Option.{option_or}
use Rattle.mc_base.specs.Told.{Told}
use Rattle.mc_model.specs.Batch.{is_empty_batch, batch_put, batch_delete}
use Rattle.mc_model.specs.Cuts.{pairs}
use Rattle.mc_model.specs.Events.{Event, Batch}
use Rattle.mc_model.specs.Kept.{Kept, processed}
use Rattle.mc_model.specs.State.{OpenBatch, Running, durable_of, kept_of}
use Rattle.mc_keep.specs.declared.fuse.Fuse.{Fuse}
use Rattle.mc_plan.specs.declared.error.CoreError.{CoreError}
use Rattle.mc_plan.specs.declared.made.Planned.{Planned}
use Rattle.mc_plan.specs.declared.made.Written.{Written}
use Rattle.mc_plan.specs.Batches.{batch_put_refusal, BatchPutEvents, batch_delete_refusal, BatchDeleteEvents, commit_refusal, CommitEvents, commit_kept_refusal, batch_made_refusal, delta_of_batch, BatchBecomes, OfBatch}
use Rattle.mc_plan.specs.Events.{ReplicaState, state_of, Goes}
use Rattle.mc_plan.specs.Uptakes.{uptake_events}
use Rattle.mc_plan.specs.Puts.{IsPlanned, next_links}
use Rattle.mc_keep.specs.Causes.{is_fault_kind}
use Rattle.mc_keep.specs.Plan.{is_fault}
use Rattle.mc_keep.specs.declared.error.KeepError.{KeepError}
use Rattle.mc_keep.specs.declared.error.KeepError.TheVariants.{Failed, Memory}
use Rattle.mc_plan.specs.Refusals.{Is, IsDue, OfKeeper, kind_of, stops, key_refusal, value_refusal, no_batch_refusal}
use Rattle.mc_plan.specs.Counted.{run_of}
use Rattle.mc_plan.proofs.CallFacts.{at, Calls, early_call}
use Rattle.mc_plan.proofs.PutFacts.{BackLaw, plan_is_made}
use Rattle.mc_plan.proofs.RefusalFacts.{told_always}

-- the batch changes, and nothing else

abbrev with_batch : Running → Option OpenBatch → Running
with_batch run after = record run { batch = after }

pub batch_goes : (kept : Kept) (fuse : Option Fuse) (run : Running) (after : Option OpenBatch) → Goes (Batch after ∷ []) (at kept fuse (run_of false run)) (at kept fuse (run_of false (with_batch run after)))
batch_goes kept fuse run after = record { may = (tt, refl, tt); ends = refl }

pub told_batch : (told : Option Kept) (fuse : Option Fuse) (stop : Bool) (run : Running) (after : Option OpenBatch) → stop ≡ false
    → Told (state_of told fuse (run_of stop run)) (state_of told fuse (run_of stop (with_batch run after))) (λ s new. Goes (Batch after ∷ []) s new)
told_batch None fuse stop run after up = tt
told_batch (Some kept) fuse stop run after up =
    subst (λ b. Goes (Batch after ∷ []) (at kept fuse (run_of b run)) (at kept fuse (run_of b (with_batch run after)))) (sym up) (batch_goes kept fuse run after)

-- a call that changes the batch, after reads
pub batch_call : {T : Type 0} (Refusal : ReplicaState → Option CoreError → Type 0) (Makes : ReplicaState → List Event → T → Type 0) (told told_new : Option Kept) (fuse fuse_new : Option Fuse) (stop : Bool) (run : Running) (after : Option OpenBatch) (rose : Type 0) (value : T)
    → stop ≡ false → told_new ≡ told → fuse_new ≡ fuse
    → IfSome told (λ kept. Refusal (at kept fuse (run_of false run)) None × Makes (at kept fuse (run_of false run)) (Batch after ∷ []) value)
    → Told (state_of told fuse (run_of stop run)) (state_of told_new fuse_new (run_of stop (with_batch run after))) (Calls Refusal Makes rose (Ok value))
batch_call Refusal Makes None told_new fuse fuse_new stop run after rose value up e f uptake = tt
batch_call Refusal Makes (Some kept) told_new fuse fuse_new stop run after rose value up e f uptake =
    subst (λ t. Told (state_of (Some kept) fuse (run_of stop run)) (state_of t fuse_new (run_of stop (with_batch run after))) (Calls Refusal Makes rose (Ok value))) (sym e)
    (subst (λ x. Calls Refusal Makes rose (Ok value) (at kept fuse (run_of stop run)) (at kept x (run_of stop (with_batch run after)))) (sym f)
    (subst (λ b. Calls Refusal Makes rose (Ok value) (at kept fuse (run_of b run)) (at kept fuse (run_of b (with_batch run after)))) (sym up)
    (record { allowed = uptake.0; events = Batch after ∷ []; makes = uptake.1; goes = batch_goes kept fuse run after })))

-- a call that ended early, with the batch as it was
pub early_batch : {T : Type 0} (Refusal : ReplicaState → Option CoreError → Type 0) (Makes : ReplicaState → List Event → T → Type 0) (told told_new : Option Kept) (fuse fuse_new : Option Fuse) (stop stop_new : Bool) (run : Running) (after : Option OpenBatch) (rose : Type 0) (error : CoreError)
    → after ≡ run.batch → stop ≡ false → told_new ≡ told → fuse_new ≡ fuse → stop_new ≡ stops error false → (is_fault_kind (kind_of error) ≡ true → rose)
    → IfSome told (λ kept. IsDue (Refusal (at kept fuse (run_of false run))) error)
    → Told (state_of told fuse (run_of stop run)) (state_of told_new fuse_new (run_of stop_new (with_batch run after))) (Calls Refusal Makes rose (Err error))
early_batch Refusal Makes told told_new fuse fuse_new stop stop_new run after rose error same up e f g r due =
    subst (λ b. Told (state_of told fuse (run_of stop run)) (state_of told_new fuse_new (run_of stop_new (with_batch run b))) (Calls Refusal Makes rose (Err error))) (sym same)
    (early_call Refusal Makes told told_new fuse fuse_new stop stop_new run rose error up e f g r due)

none_after : (first second : Option CoreError) → first ≡ None → second ≡ None → None ≡ option_or first second
none_after first second e f = sym (ap (λ x. option_or x second) e ∙ f)

-- a put into the batch
abbrev PutsInto : Option OpenBatch → OpenBatch → List ℕ → List ℕ → Type 0
PutsInto held after key value =
    Is (no_batch_refusal held (λ batch. option_or (key_refusal key) (value_refusal value))) None × OfBatch held (λ batch. Batch (Some after) ∷ [] ≡ Batch (Some (batch_put key value batch)) ∷ [])

pub put_into : {T : Type 0} (told : Option Kept) (fuse : Option Fuse) (run : Running) (batch after : OpenBatch) (key value : List ℕ) (answer : T) → run.batch ≡ Some batch → key_refusal key ≡ None → value_refusal value ≡ None
    → after ≡ batch_put key value batch
    → IfSome told (λ kept. Is (batch_put_refusal (at kept fuse (run_of false run)) key value) None × BatchPutEvents (at kept fuse (run_of false run)) key value (Batch (Some after) ∷ []) answer)
put_into told fuse run batch after key value answer e f g is =
    told_always told _ (λ kept. subst (λ held. PutsInto held after key value) (sym e) (none_after (key_refusal key) (value_refusal value) f g, ap (λ b. Batch (Some b) ∷ []) is))

-- a delete into the batch
abbrev DeletesInto : Kept → Option OpenBatch → OpenBatch → List ℕ → Type 0
DeletesInto kept held after key =
    Is (no_batch_refusal held (λ batch. key_refusal key)) None × OfBatch held (λ batch. Batch (Some after) ∷ [] ≡ Batch (Some (batch_delete key (pairs (processed kept) key) batch)) ∷ [])

pub delete_into : {T : Type 0} (back : BackLaw) (told : Option Kept) (fuse : Option Fuse) (run : Running) (batch after : OpenBatch) (key : List ℕ) (answer : T) → run.batch ≡ Some batch → key_refusal key ≡ None
    → IfSome told (λ kept. after ≡ batch_delete key (pairs (processed kept) key) batch)
    → IfSome told (λ kept. Is (batch_delete_refusal (at kept fuse (run_of false run)) key) None × BatchDeleteEvents (at kept fuse (run_of false run)) key (Batch (Some after) ∷ []) answer)
delete_into back None fuse run batch after key answer e f is = tt
delete_into back (Some kept) fuse run batch after key answer e f is =
    subst (λ k. DeletesInto k run.batch after key) (sym (back kept)) (subst (λ held. DeletesInto kept held after key) (sym e) (sym f, ap (λ b. Batch (Some b) ∷ []) is))

pub delete_due : (told : Option Kept) (fuse : Option Fuse) (run : Running) (key : List ℕ) (keep : KeepError) (error : CoreError) → OfKeeper keep error
    → IfSome told (λ kept. IsDue (Is (batch_delete_refusal (at kept fuse (run_of false run)) key)) error)
delete_due told fuse run key Failed error of = told_always told _ (λ kept. subst (λ e. IsDue (Is (batch_delete_refusal (at kept fuse (run_of false run)) key)) e) (sym of) tt)
delete_due told fuse run key Memory error of = told_always told _ (λ kept. subst (λ e. IsDue (Is (batch_delete_refusal (at kept fuse (run_of false run)) key)) e) (sym of) tt)

pub keeper_rose : (keep : KeepError) (error : CoreError) (rose : Type 0) → OfKeeper keep error → (is_fault {T = ⊤} (Err keep) ≡ true → rose) → is_fault_kind (kind_of error) ≡ true → rose
keeper_rose Failed error rose of r e = r refl
keeper_rose Memory error rose of r e = absurd (let f : false ≡ true = subst (λ x. is_fault_kind (kind_of x) ≡ true) of e in cc)

-- a batch that becomes a block

abbrev Due : Kept → Option OpenBatch → CoreError → Type 0
Due kept held error = IsDue (Is (no_batch_refusal held (commit_kept_refusal kept))) error

pub commit_due : (back : BackLaw) (told : Option Kept) (fuse : Option Fuse) (run : Running) (batch : OpenBatch) (error : CoreError) → run.batch ≡ Some batch → false ≡ is_empty_batch batch
    → IfSome told (λ kept. IsDue (Is (batch_made_refusal kept batch)) error) → IfSome told (λ kept. IsDue (Is (commit_refusal (at kept fuse (run_of false run)))) error)
commit_due back None fuse run batch error e full due = tt
commit_due back (Some kept) fuse run batch error e full due =
    subst (λ k. Due k run.batch error) (sym (back kept))
    (subst (λ held. Due kept held error) (sym e) (subst (λ b. IsDue (Is (cond b None (batch_made_refusal kept batch))) error) full due))

abbrev CommitsAs : Kept → Option OpenBatch → List Event → Option Written → Type 0
CommitsAs kept held events answer =
    Is (no_batch_refusal held (commit_kept_refusal kept)) None × OfBatch held (λ batch. BatchBecomes kept batch (is_empty_batch batch) events answer)

abbrev Both : Kept → OpenBatch → Bool → List Event → Option Written → Type 0
Both kept batch empty events answer = Is (cond empty None (batch_made_refusal kept batch)) None × BatchBecomes kept batch empty events answer

abbrev PlannedAt : Option Kept → Option Fuse → Running → List Event → Option Written → Type 0
PlannedAt told fuse run events answer = IfSome told (λ kept. Is (commit_refusal (at kept fuse (run_of false run))) None × CommitEvents (at kept fuse (run_of false run)) events answer)

pub commit_plan : (back : BackLaw) (told : Option Kept) (fuse : Option Fuse) (run : Running) (batch : OpenBatch) (planned : Planned) → run.batch ≡ Some batch → false ≡ is_empty_batch batch
    → IfSome told (λ kept. batch_made_refusal kept batch ≡ None) → IfSome told (λ kept. IsPlanned kept run.whole (next_links kept) (delta_of_batch kept batch) planned)
    → PlannedAt told fuse run (uptake_events planned.uptake ++ Batch None ∷ []) (Some planned.written)
commit_plan back None fuse run batch planned e full allowed uptake = tt
commit_plan back (Some kept) fuse run batch planned e full allowed uptake =
    subst (λ k. CommitsAs k run.batch (uptake_events planned.uptake ++ Batch None ∷ []) (Some planned.written)) (sym (back kept))
    (subst (λ held. CommitsAs kept held (uptake_events planned.uptake ++ Batch None ∷ []) (Some planned.written)) (sym e)
    (subst (λ b. Both kept batch b (uptake_events planned.uptake ++ Batch None ∷ []) (Some planned.written)) full
    (sym allowed, (ap (λ (events : List Event). events ++ Batch None ∷ []) (plan_is_made kept run.whole (next_links kept) (delta_of_batch kept batch) planned uptake), ap Some uptake.written))))

pub commit_empty : (told : Option Kept) (fuse : Option Fuse) (run : Running) (batch : OpenBatch) → run.batch ≡ Some batch → true ≡ is_empty_batch batch → PlannedAt told fuse run (Batch None ∷ []) None
commit_empty told fuse run batch e empty =
    told_always told _ (λ kept. subst (λ held. CommitsAs (kept_of (durable_of kept)) held (Batch None ∷ []) None) (sym e)
    (subst (λ b. Both (kept_of (durable_of kept)) batch b (Batch None ∷ []) None) empty (refl, (refl, refl))))
