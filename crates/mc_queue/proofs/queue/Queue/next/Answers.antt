use Rattle.indexmap.specs.IndexMap.{get}
use Rattle.mc_model.specs.Front.{same_cid}
use Rattle.mc_queue.specs.declared.part.Part.TheVariants.{Waiting}
use Rattle.mc_queue.specs.Views.{shown}
use Rattle.mc_queue.proofs.FitsFacts.{stands_first}
use Rattle.mc_queue.proofs.MoveFacts.{next_is}
use Rattle.mc_queue.proofs.queue.Queue.next.Goals as goal

pub returns-clause-queue : goal.returns-clause-queue
returns-clause-queue c =
    let s = stands_first (get same_cid c.args.self.now.places) c.args.self.now.lists c.args.self.now.fits Waiting c.in_ok-place.place c.in_ok-place.ensures.first in
    next_is (shown c.args.self.now) (shown c.shift.new.self) s.cid s.first (c.shift.ensures.once s.cid) (c.shift.ensures.queue s.cid s.place)
