use Rattle.mc_cidtext.proofs.Laws.{no_prefix}
use Rattle.mc_cidtext.proofs.text.from_text.Goals as goal

pub returns-in_default-clause-err : goal.returns-in_default-clause-err
returns-in_default-clause-err c = rw c.into.ensures (no_prefix c.args.text.now c.in_default.ensures.cases)
