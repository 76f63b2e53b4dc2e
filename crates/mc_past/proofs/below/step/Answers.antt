use Rattle.std.proofs.Common.{sym, ◌∙◌}
use Rattle.mc_past.proofs.LookFacts.{looks_itself}
use Rattle.mc_past.proofs.WalkFacts.{walk_ends, walk_skips, walk_visits}
use Rattle.mc_past.proofs.below.step.Goals as goal

pub returns-in_default-clause-walks : goal.returns-in_default-clause-walks
returns-in_default-clause-walks g c = walk_ends c.views_are_reach.ensures.reach (g.K.Keeper.told c.args.replica.now.keeper) c.args.view.now c.next.result c.in_default.is c.next.ensures.looks

pub returns-in_default-clause-looks : goal.returns-in_default-clause-looks
returns-in_default-clause-looks g c = looks_itself c.args.replica.now

pub returns-in-Ok-clause-walks : goal.returns-in-Ok-clause-walks
returns-in-Ok-clause-walks g c =
    walk_visits (g.K.Keeper.told c.args.replica.now.keeper) c.in-Some.cid c.in-Ok-Some.field-0 c.in-Ok-Some.block c.args.view.now c.visit.new.self c.in-Ok-Some.field-0-is c.in-Ok-Some.ensures.block c.in-Ok.ensures.ok

pub returns-in-Ok-None-clause-walks : goal.returns-in-Ok-None-clause-walks
returns-in-Ok-None-clause-walks g c =
    walk_skips (g.K.Keeper.told c.args.replica.now.keeper) c.in-Some.cid c.in-Ok-None.field-0 c.args.view.now c.skip.new.self c.in-Ok-None.field-0-is c.in-Ok-None.ensures.block (sym c.next.ensures.next ∙ c.in-Some.is) c.skip.ensures
