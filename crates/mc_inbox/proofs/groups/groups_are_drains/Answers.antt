use Rattle.mc_inbox.proofs.GroupFacts.{group_few, group_may, group_says, group_takes}
use Rattle.mc_inbox.proofs.groups.groups_are_drains.Goals as goal

pub returns-clause-may : goal.returns-clause-may
returns-clause-may c durable run items sound good = group_may durable run sound items good

pub returns-clause-takes : goal.returns-clause-takes
returns-clause-takes c bytes_of durable run items offered = group_takes bytes_of durable run items offered

pub returns-clause-says : goal.returns-clause-says
returns-clause-says c found durable group = group_says found durable group

pub returns-clause-few : goal.returns-clause-few
returns-clause-few c = group_few
