use Rattle.mc_base.specs.Causes.{Rose}
use Rattle.mc_group.proofs.DrainFacts.{given_drains, group_drains}
use Rattle.mc_group.proofs.drains.calls_on_an_inbox_drain.Goals as goal

pub returns-clause-grouped : goal.returns-clause-grouped
returns-clause-grouped c = λ bytes_of items before now. group_drains c.found_drains_go_on.ensures.goes c.groups_are_drains.ensures.takes bytes_of items (Rose before now)

pub returns-clause-given_back : goal.returns-clause-given_back
returns-clause-given_back c = given_drains c.found_drains_go_on.ensures.goes c.recall_gives_back.ensures.takes
