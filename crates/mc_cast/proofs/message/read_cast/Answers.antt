use Rattle.mc_cast.proofs.MessageFacts.{read_next}
use Rattle.mc_cast.proofs.message.read_cast.Goals as goal

pub loop-heads-preserved : goal.loop-heads-preserved
loop-heads-preserved c = read_next _ _ _ _ c.in-Some.field c.loop-heads.invariant (rw c.in-Some.is at c.in_ok-field.ensures.field) c.in_ok-take.ensures.took
