use Rattle.indexmap.specs.IndexMap.{get}
use Rattle.mc_model.specs.Front.{same_cid}
use Rattle.mc_queue.proofs.FitsFacts.{is_listed}
use Rattle.mc_queue.proofs.queue.Queue.is_within.Goals as goal

pub returns : goal.returns
returns c = λ cid is. is_listed (get same_cid c.args.self.now.places) c.args.self.now.lists c.args.self.now.fits cid c.args.place is c.list.result c.list.ensures c.args.part c.list-2.result c.list-2.ensures
