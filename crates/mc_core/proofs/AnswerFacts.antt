-- What is answered for a delivery and for a batch, over every keeper.
use Rattle.std.proofs.Common.{◌≡◌, ℕ, Bool, true, false, not, List, Option, Some, None, Result, Ok, Err, refl, sym, ap, ◌∙◌, subst}
use Rattle.std.specs.Prelude.{IfOk, IfSome, is_some}
use Rattle.mc_base.specs.declared.cid.Cid.{Cid}
use Rattle.mc_fetch.specs.declared.job.Delivered.{Delivered}
use Rattle.mc_fetch.specs.declared.job.Delivered.TheVariants.{Processed, Bad}
use Rattle.mc_model.specs.Batch.{is_empty_batch}
use Rattle.mc_model.specs.Found.{damage_number}
use Rattle.mc_model.specs.Offer.{Damage, offer}
use Rattle.mc_model.specs.State.{OpenBatch}
use Rattle.mc_model.specs.declared.block.Block.{Block}
use Rattle.mc_plan.specs.declared.made.Written.{Written}
use Rattle.mc_core.specs.AnswersTo.{IsAnswerTo}

pub bad_answers : (cid : Cid) (bytes : List ℕ) (why : Damage) (damage : ℕ) → offer cid bytes ≡ Err why → damage ≡ damage_number why → IsAnswerTo cid (Some bytes) (Bad damage)
bad_answers cid bytes why damage damaged number = (bytes, why, refl, damaged, number)

pub good_answers : {E : Type 0} (cid : Cid) (bytes : List ℕ) (block : Block) (position : ℕ) (result : Result Delivered E) → offer cid bytes ≡ Ok block → IfOk result (λ delivered. delivered ≡ Processed position) → IfOk result (IsAnswerTo cid (Some bytes))
good_answers cid bytes block position (Ok delivered) good is = subst (IsAnswerTo cid (Some bytes)) (sym is) (bytes, block, refl, good)
good_answers cid bytes block position (Err error) good is = tt

-- whether a batch made a block
abbrev MadeOf : Option OpenBatch → Bool → Type 0
MadeOf batch made = IfSome batch (λ batch. made ≡ not (is_empty_batch batch))

pub none_made : (batch : Option OpenBatch) (one : OpenBatch) → batch ≡ Some one → is_empty_batch one ≡ true → MadeOf batch false
none_made batch one is empty = subst (λ (batch : Option OpenBatch). MadeOf batch false) (sym is) (sym (ap not empty))

pub one_made : {E : Type 0} (batch : Option OpenBatch) (one : OpenBatch) (result : Result (Option Written) E) (written : Written) → batch ≡ Some one → is_empty_batch one ≡ false → IfOk result (λ made. made ≡ Some written)
    → IfOk result (λ made. MadeOf batch (is_some made))
one_made batch one (Ok made) written is empty answer = subst (λ (batch : Option OpenBatch). MadeOf batch (is_some made)) (sym is) (ap is_some answer ∙ sym (ap not empty))
one_made batch one (Err error) written is empty answer = tt
