use Rattle.mc_drain.specs.Works.{WorkLeads, WorkWants, keeper_broke}
use Rattle.mc_pull.specs.Pulls.{finds_at}
use Rattle.mc_seats.specs.Works.{WorkOn}
use Rattle.mc_seats.proofs.BeginFacts.{members}
use Rattle.mc_world.proofs.PullFacts.{desks_still, pulls_held, pulls_keeper}
use Rattle.mc_world.proofs.pulling.work_held.Goals as goal

pub returns-in-Up-clause-pulls : goal.returns-in-Up-clause-pulls
returns-in-Up-clause-pulls g c = λ planted.
    pulls_held (members g.K.Keeper g.K.Counted) WorkOn (WorkWants c.work-replica.result.1) (WorkLeads c.args.budget (finds_at g.K.Keeper.told c.args.sites.now) c.work-replica.result.1) c.work-replica.result.1 c.args.held c.in-Up.replica _ planted c.in-Up.is
    c.work-replica.ensures.leads c.work-replica.ensures.keeps c.work-replica.ensures.stopped c.work-replica.ensures.still (c.work-replica.ensures.rest.walk_same, c.work-replica.ensures.rest.whole_same, c.work-replica.ensures.rest.batch_same) c.work-replica.ensures.wants

pub returns-in-Up-clause-of_keeper : goal.returns-in-Up-clause-of_keeper
returns-in-Up-clause-of_keeper g c = pulls_keeper (members g.K.Keeper g.K.Counted) (keeper_broke c.work-replica.result.1) c.args.held c.in-Up.replica _ c.in-Up.is c.work-replica.ensures.keeps

pub returns-in-Down-clause-desks : goal.returns-in-Down-clause-desks
returns-in-Down-clause-desks g c = desks_still (members g.K.Keeper g.K.Counted) g.K.Desk.Counted.faults _ c.args.desks.now
