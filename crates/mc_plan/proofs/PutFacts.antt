-- Puts over what a keeper tells.
use Rattle.std.proofs.Common.{◌≡◌, ℕ, Bool, false, List, [], ◌∷◌, Option, Some, None, sym, ◌∙◌, ap, subst}
use Rattle.std.specs.Prelude.{IfSome}
use Rattle.mc_base.specs.declared.cid.Cid.{Cid}
use Rattle.mc_model.specs.declared.delta.Delta.{Delta}
use Rattle.mc_model.specs.Events.{Process}
use Rattle.mc_model.specs.Kept.{Kept}
use Rattle.mc_model.specs.Made.{made_bytes, made_cid}
use Rattle.mc_model.specs.State.{Running, durable_of, kept_of}
use Rattle.mc_keep.specs.declared.fuse.Fuse.{Fuse}
use Rattle.mc_plan.specs.declared.error.CoreError.{CoreError}
use Rattle.mc_plan.specs.declared.made.Planned.{Planned}
use Rattle.mc_plan.specs.Uptakes.{IsSomeUptake, uptake_events, with_store, store_change}
use Rattle.mc_plan.specs.Puts.{IsPlanned, MadeEvents, PutEvents, made_events, next_links, delta_of_put, put_kept_refusal, put_refusal}
use Rattle.mc_plan.specs.Refusals.{Is, IsDue}
use Rattle.mc_plan.specs.Counted.{run_of}
use Rattle.mc_plan.proofs.CallFacts.{at}

-- what is told, as a state and back
abbrev pub BackLaw : Type 0
BackLaw = (kept : Kept) → kept_of (durable_of kept) ≡ kept

-- the events of an uptake are those of its block
pub plan_is_made : (kept : Kept) (whole : Bool) (links : List Cid) (delta : Delta) (planned : Planned) → IsPlanned kept whole links delta planned → uptake_events planned.uptake ≡ made_events kept links delta
plan_is_made kept whole links delta planned p =
    ap (λ store. with_store store (Process planned.uptake.process.marks ∷ [])) p.uptake.store
    ∙ ap (λ marks. with_store (store_change kept.graph (made_cid links delta) (made_bytes links delta)) (Process marks ∷ [])) p.uptake.process.marks

pub some_plan : (told : Option Kept) (whole : Bool) (links : Kept → List Cid) (delta : Kept → Delta) (planned : Planned) → IfSome told (λ kept. IsPlanned kept whole (links kept) (delta kept) planned)
    → IfSome told (λ kept. IsSomeUptake kept whole planned.uptake)
some_plan None whole links delta planned p = tt
some_plan (Some kept) whole links delta planned p = record { block = _; bytes = _; plans = p.uptake }

made_plan : (kept : Kept) (whole : Bool) (delta : Delta) (planned : Planned) → IsPlanned kept whole (next_links kept) delta planned → MadeEvents kept delta (uptake_events planned.uptake) planned.written
made_plan kept whole delta planned p = (plan_is_made kept whole (next_links kept) delta planned p, p.written)

module _ (back : BackLaw) (told : Option Kept) (fuse : Option Fuse) (run : Running) (key value : List ℕ) where
  pub put_due : (error : CoreError) → IfSome told (λ kept. IsDue (Is (put_kept_refusal kept key value)) error)
      → IfSome told (λ kept. IsDue (Is (put_refusal (at kept fuse (run_of false run)) key value)) error)
  put_due error due = over told due
    where
      over : (told : Option Kept) → IfSome told (λ kept. IsDue (Is (put_kept_refusal kept key value)) error)
          → IfSome told (λ kept. IsDue (Is (put_refusal (at kept fuse (run_of false run)) key value)) error)
      over None due = tt
      over (Some kept) due = subst (λ k. IsDue (Is (put_kept_refusal k key value)) error) (sym (back kept)) due

  pub put_plan : (planned : Planned) → IfSome told (λ kept. put_kept_refusal kept key value ≡ None) → IfSome told (λ kept. IsPlanned kept run.whole (next_links kept) (delta_of_put kept key value) planned)
      → IfSome told (λ kept. Is (put_refusal (at kept fuse (run_of false run)) key value) None × PutEvents (at kept fuse (run_of false run)) key value (uptake_events planned.uptake) planned.written)
  put_plan planned allowed uptake = over told allowed uptake
    where
      over : (told : Option Kept) → IfSome told (λ kept. put_kept_refusal kept key value ≡ None) → IfSome told (λ kept. IsPlanned kept run.whole (next_links kept) (delta_of_put kept key value) planned)
          → IfSome told (λ kept. Is (put_refusal (at kept fuse (run_of false run)) key value) None × PutEvents (at kept fuse (run_of false run)) key value (uptake_events planned.uptake) planned.written)
      over None allowed uptake = tt
      over (Some kept) allowed uptake =
          subst (λ k. Is (put_kept_refusal k key value) None × MadeEvents k (delta_of_put k key value) (uptake_events planned.uptake) planned.written) (sym (back kept))
          (sym allowed, made_plan kept run.whole (delta_of_put kept key value) planned uptake)
