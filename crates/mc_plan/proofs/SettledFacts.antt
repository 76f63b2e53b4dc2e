-- What is settled clean.
use Rattle.std.proofs.Common.{◌≡◌, ℕ, ◌==◌, Bool, true, false, cond, length, Some, refl, ◌∙◌, ap}
use Rattle.std.proofs.lemmas.Bool.{eqb-true}
use Rattle.mc_model.specs.Front.{gaps}
use Rattle.mc_model.specs.Graph.{no_gaps}
use Rattle.mc_model.specs.Kept.{Kept, IsKept, processed}
use Rattle.mc_model.specs.State.{DurableHolds, IsSound, IsWhole, Running, State, durable_of}
use Rattle.mc_plan.specs.declared.walks.Settled.{Settled}
use Rattle.mc_plan.specs.declared.walks.Settled.TheVariants.{Clean, Open}
use Rattle.mc_plan.specs.Walks.{IsClean, gap_count, settled_with}
use Rattle.mc_plan.proofs.WalkFacts.{NoGapsLaw}

abbrev is_clean : Settled → Bool
is_clean Clean = true
is_clean (Open left) = false

none_left : (left : ℕ) → settled_with left ≡ Clean → left == 0 ≡ true
none_left left e = elim (left == 0) as (λ t. cond t Clean (Open left) ≡ Clean → t ≡ true) [ true ↦ λ h. refl | false ↦ λ h. ap is_clean h ] e

pub clean_gaps : (kept : Kept) → IsClean kept → length (gaps (processed kept)) ≡ 0
clean_gaps kept clean = eqb-true (gap_count kept) 0 (none_left (gap_count kept) clean)

abbrev pub KeptLaw : Type 0
KeptLaw = (kept : Kept) → DurableHolds (durable_of kept) → IsKept kept

abbrev pub CleanLaw : Type 0
CleanLaw = (state : State) → IsSound state → IsWhole state.run → no_gaps state.durable.graph state.durable.order ≡ true → state.durable.mark ≡ false

pub clean_mark : (law : CleanLaw) (kept_law : KeptLaw) (gaps_law : NoGapsLaw) (kept : Kept) (run : Running) → IsSound (record { durable = durable_of kept; run = Some run }) → run.whole ≡ true → IsClean kept → kept.mark ≡ false
clean_mark law kept_law gaps_law kept run sound whole clean =
    law (record { durable = durable_of kept; run = Some run }) sound whole (gaps_law kept (kept_law kept sound.durable) ∙ none_left (gap_count kept) clean)
