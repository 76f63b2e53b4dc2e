use Rattle.mc_base.specs.Causes.{Rose}
use Rattle.mc_plan.proofs.DrainFacts.{next_drains, deliver_drains, back_told, requeue_drains, recall_drains}
use Rattle.mc_plan.proofs.drains.calls_on_jobs_drain.Goals as goal

pub returns-clause-next : goal.returns-clause-next
returns-clause-next c = λ bytes_of before now. next_drains c.found_drains_go_on.ensures.goes bytes_of (Rose before now)

pub returns-clause-delivered : goal.returns-clause-delivered
returns-clause-delivered c = λ bytes_of cid found before now. deliver_drains c.found_drains_go_on.ensures.goes c.deliveries_are_drains.ensures.takes bytes_of cid found (Rose before now)

pub returns-clause-given_back : goal.returns-clause-given_back
returns-clause-given_back c = back_told c.found_drains_go_on.ensures.goes

pub returns-clause-requeued : goal.returns-clause-requeued
returns-clause-requeued c = requeue_drains c.found_drains_go_on.ensures.goes

pub returns-clause-recalled : goal.returns-clause-recalled
returns-clause-recalled c = recall_drains c.found_drains_go_on.ensures.goes c.recall_gives_back.ensures.takes
