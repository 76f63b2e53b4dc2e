use Rattle.std.proofs.Common.{◌∙◌}
use Rattle.mc_tables.proofs.ListedFacts.{past_from, past_after}
use Rattle.mc_tables.proofs.range.range_past.Goals as goal

pub returns-then-inclusive-clause-keys : goal.returns-then-inclusive-clause-keys
returns-then-inclusive-clause-keys c =
    c.range.ensures.between tt ∙ past_from c.args.ordered.now c.in_ok-from.from c.args.bound.now c.args.inclusive c.in_ok-from.ensures.ok c.if-inclusive.true

pub returns-clause-keys : goal.returns-clause-keys
returns-clause-keys c =
    c.range-2.ensures.between tt ∙ past_after c.args.ordered.now c.in_ok-from.from c.args.bound.now c.args.inclusive c.in_ok-from.ensures.ok c.if-inclusive.false
