use Rattle.indexmap.specs.IndexMap.{get}
use Rattle.mc_model.specs.Front.{same_cid}
use Rattle.mc_queue.proofs.FitsFacts.{same_fits}
use Rattle.mc_queue.proofs.queue.Queue.reserve_both.Goals as goal

pub invariant_of-self-2-clause-fits : goal.invariant_of-self-2-clause-fits
invariant_of-self-2-clause-fits c = same_fits (get same_cid c.args.self.now.places) (get same_cid c.reserve.new.places) c.args.self.now.lists c.reserve-2.new.self c.reserve.ensures.places c.reserve-2.ensures.entries c.reserve-2.ensures.places c.args.self.now.fits
