use Rattle.mc_drain.specs.Repairs.{RepairLeads, RepairWants, has_walked}
use Rattle.mc_drain.specs.Works.{keeper_broke}
use Rattle.mc_pull.specs.Pulls.{finds_at}
use Rattle.mc_seats.specs.Works.{RepairOn, repair_budget}
use Rattle.mc_seats.proofs.BeginFacts.{members}
use Rattle.mc_world.proofs.PullFacts.{desks_still, pulls_held, pulls_keeper, repair_on}
use Rattle.mc_world.proofs.pulling.repair_held.Goals as goal

pub returns-in-Up-clause-pulls : goal.returns-in-Up-clause-pulls
returns-in-Up-clause-pulls g c = λ planted.
    pulls_held (members g.K.Keeper g.K.Counted) (RepairOn (has_walked c.repair-replica.result.1)) (RepairWants c.repair-replica.result.1) (RepairLeads repair_budget (finds_at g.K.Keeper.told c.args.sites.now) c.repair-replica.result.1) c.repair-replica.result.1 c.args.held c.in-Up.replica _ planted c.in-Up.is
    c.repair-replica.ensures.leads c.repair-replica.ensures.keeps c.repair-replica.ensures.stopped c.repair-replica.ensures.still (repair_on (has_walked c.repair-replica.result.1) _ _ c.repair-replica.ensures.whole c.repair-replica.ensures.batch) c.repair-replica.ensures.wants

pub returns-in-Up-clause-of_keeper : goal.returns-in-Up-clause-of_keeper
returns-in-Up-clause-of_keeper g c = pulls_keeper (members g.K.Keeper g.K.Counted) (keeper_broke c.repair-replica.result.1) c.args.held c.in-Up.replica _ c.in-Up.is c.repair-replica.ensures.keeps

pub returns-in-Down-clause-desks : goal.returns-in-Down-clause-desks
returns-in-Down-clause-desks g c = desks_still (members g.K.Keeper g.K.Counted) g.K.Desk.Counted.faults _ c.args.desks.now
