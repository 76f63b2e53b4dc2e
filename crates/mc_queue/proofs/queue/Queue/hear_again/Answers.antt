use Rattle.std.proofs.Common.{◌∙◌, sym, Some}
use Rattle.indexmap.specs.IndexMap.{get}
use Rattle.mc_model.specs.Front.{same_cid}
use Rattle.mc_queue.specs.Views.{shown}
use Rattle.mc_queue.proofs.FitsFacts.{is_wanted}
use Rattle.mc_queue.proofs.MoveFacts.{hear_stuck, hear_not, came_out, came_not}
use Rattle.mc_queue.proofs.queue.Queue.hear_again.Goals as goal

pub returns-then-is_stuck-clause-queue : goal.returns-then-is_stuck-clause-queue
returns-then-is_stuck-clause-queue c = λ cid is. c.shift.ensures.queue cid is ∙ hear_stuck (shown c.args.self.now) cid (c.shift.ensures.once cid) (sym (c.is_stuck.ensures cid is) ∙ c.if-is_stuck.true)

pub returns-then-is_stuck-clause-came : goal.returns-then-is_stuck-clause-came
returns-then-is_stuck-clause-came c = λ cid is. came_out (shown c.args.self.now) cid (c.shift.ensures.once cid) (sym (c.is_stuck.ensures cid is) ∙ c.if-is_stuck.true)

pub returns-clause-queue : goal.returns-clause-queue
returns-clause-queue c = λ cid is. hear_not (shown c.args.self.now) cid (sym (is_wanted (get same_cid c.args.self.now.places) c.args.self.now.lists c.args.self.now.fits cid (Some c.args.place) is)) (sym (c.is_stuck.ensures cid is) ∙ c.if-is_stuck.false)

pub returns-clause-came : goal.returns-clause-came
returns-clause-came c = λ cid is. came_not (shown c.args.self.now) cid (sym (is_wanted (get same_cid c.args.self.now.places) c.args.self.now.lists c.args.self.now.fits cid (Some c.args.place) is)) (sym (c.is_stuck.ensures cid is) ∙ c.if-is_stuck.false)
