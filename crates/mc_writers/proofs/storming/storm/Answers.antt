use Rattle.std.proofs.Common.{◌∙◌, sym, ap, refl, arith}
use Rattle.mc_turn.specs.Lists.{places}
use Rattle.mc_node.specs.Seats.{knows}
use Rattle.mc_writers.proofs.StormFacts.{continues_itself, pauses_none, storm_gathered, storm_stays}
use Rattle.mc_writers.proofs.storming.storm.Goals as goal

pub returns-in-Err-clause-keeps : goal.returns-in-Err-clause-keeps
returns-in-Err-clause-keeps g c = continues_itself g.K.Keeper.told g.K.Keeper.fuse g.K.Keeper.own g.K.Counted.faults g.K.Keeper.quiet g.K.Keeper.schedule c.args.replica

pub returns-in_default-clause-leads : goal.returns-in_default-clause-leads
returns-in_default-clause-leads g c = pauses_none _ _ _

pub returns-in_default-clause-keeps : goal.returns-in_default-clause-keeps
returns-in_default-clause-keeps g c = continues_itself g.K.Keeper.told g.K.Keeper.fuse g.K.Keeper.own g.K.Counted.faults g.K.Keeper.quiet g.K.Keeper.schedule c.args.replica

pub gather-wrote-requires-clause-numbered : goal.gather-wrote-requires-clause-numbered
gather-wrote-requires-clause-numbered g c = c.write_beside.ensures.numbered ∙ c.hire.ensures.numbered ∙ ap (places 1) (sym (c.write_beside.ensures.size ∙ c.hire.ensures.size))

pub gather-wrote-requires-clause-few : goal.gather-wrote-requires-clause-few
gather-wrote-requires-clause-few g c = let e = c.write_beside.ensures.size ∙ c.hire.ensures.size in let f = c.requires.few in omega (arith, e, f)

pub returns-in-Ok-new-clause-leads : goal.returns-in-Ok-new-clause-leads
returns-in-Ok-new-clause-leads g c =
    (storm_gathered g.K.Keeper.told g.K.Keeper.fuse g.K.Keeper.own g.K.Counted.faults g.K.Keeper.quiet g.K.Keeper.schedule _ c.args.replica c.close.result c.end.result.0 _ _ _ (knows c.hire.new.seat) (knows c.gather-wrote.new.seat) c.args.writers _ c.args.writes _ _ c.gather-wrote.result c.end.result.1
    refl c.in-Ok-new.ensures.root.1 c.in-Ok-new.ensures.root.2 c.hire.ensures.seen c.hire.ensures.base c.hire.ensures.shares c.gather-wrote.ensures.seen c.gather-wrote.ensures.base c.gather-wrote.ensures.parts c.write_beside.ensures.parts
    c.close.ensures.log.1 c.close.ensures.log.2 (c.write_beside.ensures.size ∙ c.hire.ensures.size) c.gather-wrote.ensures.joined c.end.ensures.same c.end.ensures.answer).leads

pub returns-in-Ok-new-clause-keeps : goal.returns-in-Ok-new-clause-keeps
returns-in-Ok-new-clause-keeps g c =
    (storm_gathered g.K.Keeper.told g.K.Keeper.fuse g.K.Keeper.own g.K.Counted.faults g.K.Keeper.quiet g.K.Keeper.schedule _ c.args.replica c.close.result c.end.result.0 _ _ _ (knows c.hire.new.seat) (knows c.gather-wrote.new.seat) c.args.writers _ c.args.writes _ _ c.gather-wrote.result c.end.result.1
    refl c.in-Ok-new.ensures.root.1 c.in-Ok-new.ensures.root.2 c.hire.ensures.seen c.hire.ensures.base c.hire.ensures.shares c.gather-wrote.ensures.seen c.gather-wrote.ensures.base c.gather-wrote.ensures.parts c.write_beside.ensures.parts
    c.close.ensures.log.1 c.close.ensures.log.2 (c.write_beside.ensures.size ∙ c.hire.ensures.size) c.gather-wrote.ensures.joined c.end.ensures.same c.end.ensures.answer).keeps

pub returns-in-Ok-new-clause-rest : goal.returns-in-Ok-new-clause-rest
returns-in-Ok-new-clause-rest g c =
    (storm_gathered g.K.Keeper.told g.K.Keeper.fuse g.K.Keeper.own g.K.Counted.faults g.K.Keeper.quiet g.K.Keeper.schedule _ c.args.replica c.close.result c.end.result.0 _ _ _ (knows c.hire.new.seat) (knows c.gather-wrote.new.seat) c.args.writers _ c.args.writes _ _ c.gather-wrote.result c.end.result.1
    refl c.in-Ok-new.ensures.root.1 c.in-Ok-new.ensures.root.2 c.hire.ensures.seen c.hire.ensures.base c.hire.ensures.shares c.gather-wrote.ensures.seen c.gather-wrote.ensures.base c.gather-wrote.ensures.parts c.write_beside.ensures.parts
    c.close.ensures.log.1 c.close.ensures.log.2 (c.write_beside.ensures.size ∙ c.hire.ensures.size) c.gather-wrote.ensures.joined c.end.ensures.same c.end.ensures.answer).rest

pub returns-in-Err-new-clause-leads : goal.returns-in-Err-new-clause-leads
returns-in-Err-new-clause-leads g c = (storm_stays g.K.Keeper.told g.K.Keeper.fuse g.K.Keeper.own g.K.Counted.faults g.K.Keeper.quiet g.K.Keeper.schedule c.args.writers c.args.writes c.args.replica _ c.in-Err-new.ensures.err).leads

pub returns-in-Err-new-clause-keeps : goal.returns-in-Err-new-clause-keeps
returns-in-Err-new-clause-keeps g c = (storm_stays g.K.Keeper.told g.K.Keeper.fuse g.K.Keeper.own g.K.Counted.faults g.K.Keeper.quiet g.K.Keeper.schedule c.args.writers c.args.writes c.args.replica _ c.in-Err-new.ensures.err).keeps
