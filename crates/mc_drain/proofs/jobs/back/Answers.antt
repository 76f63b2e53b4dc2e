use Rattle.mc_model.specs.Graph.{has}
use Rattle.mc_queue.specs.Views.{shown}
use Rattle.mc_drain.proofs.LostFacts.{back_sticks}
use Rattle.mc_drain.proofs.jobs.back.Goals as goal

pub returns-clause-sticks : goal.returns-clause-sticks
returns-clause-sticks g c = back_sticks (shown c.args.replica.now.queue) (shown c.give_job_back.new.replica.queue) c.args.job.cid (has c.args.job.cid (shown c.args.replica.now.queue).flight) c.give_job_back.ensures.wants
