use Rattle.std.proofs.Common.{◌∙◌}
use Rattle.mc_model.specs.Kept.{Kept, processed}
use Rattle.mc_query.proofs.AheadFacts.{more_rows}
use Rattle.mc_query.proofs.NextFacts.{told_so}
use Rattle.mc_query.proofs.ahead.Ahead.refill.Goals as goal

pub returns-clause-rows : goal.returns-clause-rows
returns-clause-rows g c = told_so (g.K.Keeper.told c.args.keeper.now) c.in_ok-rows.ensures.rows
    (λ (kept : Kept). λ next. more_rows (processed kept) c.args.bound.now c.args.inclusive c.take_part-most.result c.in_ok-rows.rows c.from_vec.result.items (c.from_vec.ensures.items ∙ c.into_vec.ensures) c.take_part-most.ensures.some next)
