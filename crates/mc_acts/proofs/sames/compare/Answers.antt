use Rattle.std.proofs.Common.{Bool, Err}
use Rattle.mc_acts.proofs.SameFacts.{both_any, compares_then, compares_turned, content_stays, same_by, stay_then}
use Rattle.mc_acts.proofs.SameRows.{compares_length}
use Rattle.mc_acts.proofs.sames.compare.Goals as goal

pub returns-in-Ok-clause-acts : goal.returns-in-Ok-clause-acts
returns-in-Ok-clause-acts g c = stay_then _ _ _ _ c.in-Ok-true.ensures.acts c.in-Ok.ensures.acts

pub returns-in-Ok-clause-same : goal.returns-in-Ok-clause-same
returns-in-Ok-clause-same g c = same_by _ _ _ _ c.in-Ok.all (content_stays _ _ _ c.args.r c.in-Ok-true.ensures.acts) (content_stays _ _ _ c.args.other c.in-Ok-true.ensures.acts) (rw (c.in-Ok-true.field-0-test) at c.in-Ok-true.ensures.all) c.in-Ok.ensures.all

pub returns-in-Err-has_all-clause-acts : goal.returns-in-Err-has_all-clause-acts
returns-in-Err-has_all-clause-acts g c = compares_then _ Bool c.args.r c.args.other c.in-Err-has_all.error _ _ _ c.in-Ok-true.ensures.acts (compares_turned _ Bool c.args.r c.args.other c.in-Err-has_all.error _ _ c.in-Err-has_all.ensures.acts)

pub returns-in-Err-has_all-clause-same : goal.returns-in-Err-has_all-clause-same
returns-in-Err-has_all-clause-same g c = both_any _ _ _ (λ s t. tt)

pub returns-in-Err-has_all-clause-len : goal.returns-in-Err-has_all-clause-len
returns-in-Err-has_all-clause-len g c = compares_length {T = Bool} _ c.args.r c.args.other (Err c.in-Err-has_all.error) _ _ (compares_then _ Bool c.args.r c.args.other c.in-Err-has_all.error _ _ _ c.in-Ok-true.ensures.acts (compares_turned _ Bool c.args.r c.args.other c.in-Err-has_all.error _ _ c.in-Err-has_all.ensures.acts))
