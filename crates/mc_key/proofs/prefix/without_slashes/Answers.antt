use Rattle.std.proofs.Common.{arith, sym, ◌∙◌, inr}
use Rattle.mc_key.proofs.PrefixFacts.{all_kept, slash_dropped}
use Rattle.mc_key.proofs.prefix.without_slashes.Goals as goal

pub loop-rest-preserved : goal.loop-rest-preserved
loop-rest-preserved c = slash_dropped c.loop-rest.rest.now (omega arith) c.if-last-ne47.false ∙ c.loop-rest.invariant

pub returns-then-last-ne47 : goal.returns-then-last-ne47
returns-then-last-ne47 c = sym (all_kept c.loop-rest.rest.now (inr c.if-last-ne47.true)) ∙ c.loop-rest.invariant
