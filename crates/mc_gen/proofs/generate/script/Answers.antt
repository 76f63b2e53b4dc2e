use Rattle.std.proofs.Common.{arith, refl}
use Rattle.mc_gen.proofs.StepFacts.{few_go_on, number_goes_on, sent_goes_on, text_goes_on}
use Rattle.mc_gen.proofs.generate.script.Goals as goal

pub loop-init : goal.loop-init
loop-init c = record { number = refl; sent = refl; text = c.in_ok-text.ensures; few = omega arith }

pub loop-preserved : goal.loop-preserved
loop-preserved c = let inv = c.loop.invariant in record {
  number = number_goes_on _ _ _ _ inv.number inv.sent _ c.push_step.ensures.number;
  sent = sent_goes_on _ _ _ _ inv.number inv.sent _ c.in_ok-push_step.ensures.sent;
  text = text_goes_on _ _ _ _ inv.number inv.sent _ _ inv.text c.in_ok-push_step.ensures.text;
  few = few_go_on _ _ _ _ c.in_ok-push_step.ensures.sent inv.few;
}
