use Rattle.std.proofs.Common.{sym}
use Rattle.indexmap.specs.IndexMap.{get}
use Rattle.mc_model.specs.Front.{same_cid}
use Rattle.mc_queue.proofs.FitsFacts.{is_wanted, used_at}
use Rattle.mc_queue.proofs.queue.Queue.place_of.Goals as goal

pub returns-clause-used : goal.returns-clause-used
returns-clause-used c = used_at (get same_cid c.args.self.now.places) c.args.self.now.lists c.args.self.now.fits c.args.cid.now c.find.result c.find.ensures

pub returns-clause-wanted : goal.returns-clause-wanted
returns-clause-wanted c = is_wanted (get same_cid c.args.self.now.places) c.args.self.now.lists c.args.self.now.fits c.args.cid.now c.find.result (sym c.find.ensures)
