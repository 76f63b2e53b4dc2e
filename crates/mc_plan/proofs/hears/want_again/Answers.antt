use Rattle.std.proofs.Common.{take}
use Rattle.mc_queue.specs.Views.{shown}
use Rattle.mc_plan.proofs.HearFacts.{waits_on}
use Rattle.mc_plan.proofs.hears.want_again.Goals as goal

pub returns-clause-more : goal.returns-clause-more
returns-clause-more c = waits_on (shown c.args.queue.now) (shown c.loop-cid.queue) (take c.loop-cid.cid-index c.args.cids.now) c.loop-cid.invariant.queue
