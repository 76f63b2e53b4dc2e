use Rattle.std.proofs.Common.{Err, ap, ◌∙◌}
use Rattle.mc_past.proofs.PassingFacts.{breaks_some, passes_none, passes_some}
use Rattle.mc_past.proofs.passing.pass_one.Goals as goal

pub returns-in-Ok-clause-passes : goal.returns-in-Ok-clause-passes
returns-in-Ok-clause-passes g c =
    passes_some g.H.Hook.taken (g.K.Keeper.told c.args.replica.now.keeper) c.args.position c.in-Ok-Some.field-0 c.in-Ok-Some.block c.args.feed.now c.pass.new.self c.in-Ok-Some.field-0-is c.in-Ok-Some.ensures.block c.in-Ok.ensures.ok

pub returns-in-Ok-None-clause-passes : goal.returns-in-Ok-None-clause-passes
returns-in-Ok-None-clause-passes g c =
    passes_none g.H.Hook.taken (g.K.Keeper.told c.args.replica.now.keeper) c.args.position c.in-Ok-None.field-0 c.args.feed.now c.in-Ok-None.field-0-is c.in-Ok-None.ensures.block

pub returns-in-Err-Memory-clause-part : goal.returns-in-Err-Memory-clause-part
returns-in-Err-Memory-clause-part g c =
    breaks_some g.H.Hook.taken (g.K.Keeper.told c.args.replica.now.keeper) c.args.position c.in-Ok-Some.field-0 c.in-Ok-Some.block c.args.feed.now c.pass.new.self c.in-Ok-Some.field-0-is c.in-Ok-Some.ensures.block c.requires.unspent (c.pass.ensures.part (c.in-Err-Memory.is ∙ ap Err c.in-Err-Memory.field-0-is))
