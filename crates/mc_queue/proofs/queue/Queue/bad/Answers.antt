use Rattle.std.proofs.Common.{◌∙◌, ap, sym}
use Rattle.std.specs.Prelude.{is_some}
use Rattle.mc_queue.specs.Views.{shown}
use Rattle.mc_queue.proofs.MoveFacts.{bad_is}
use Rattle.mc_queue.proofs.queue.Queue.bad.Goals as goal

pub returns-in-Some-clause-queue : goal.returns-in-Some-clause-queue
returns-in-Some-clause-queue c = c.spoil.ensures.queue ∙ bad_is (shown c.args.self.now) c.args.cid.now (λ _. c.spoil.ensures.once) c.args.damage (sym c.standing.ensures.within ∙ ap is_some c.in-Some.is)
