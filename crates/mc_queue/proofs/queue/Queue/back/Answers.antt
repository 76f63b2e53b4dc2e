use Rattle.std.proofs.Common.{◌∙◌}
use Rattle.mc_queue.specs.Views.{shown}
use Rattle.mc_queue.proofs.MoveFacts.{back_is}
use Rattle.mc_queue.proofs.queue.Queue.back.Goals as goal

pub returns-clause-queue : goal.returns-clause-queue
returns-clause-queue c = c.shift_from.ensures.queue ∙ back_is (shown c.args.self.now) c.args.cid.now c.shift_from.ensures.once
