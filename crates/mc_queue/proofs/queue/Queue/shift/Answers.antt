use Rattle.indexmap.specs.IndexMap.{get}
use Rattle.mc_model.specs.Front.{same_cid}
use Rattle.mc_queue.proofs.FitsFacts.{is_once, shifted_fits, shifted_shows}
use Rattle.mc_queue.proofs.queue.Queue.shift.Goals as goal

pub invariant_of-self-clause-fits : goal.invariant_of-self-clause-fits
invariant_of-self-clause-fits c = shifted_fits (get same_cid c.args.self.now.places) c.args.self.now.lists c.shift.new.self c.args.self.now.fits c.args.place c.list.result c.shift.ensures.entries c.shift.ensures.places

pub returns-clause-queue : goal.returns-clause-queue
returns-clause-queue c = shifted_shows (get same_cid c.args.self.now.places) c.args.self.now.lists c.shift.new.self c.args.self.now.fits c.args.place c.list.result c.shift.ensures.entries c.shift.ensures.places c.args.to c.list.ensures c.no_place_stands_twice.ensures c.requires.apart

pub returns-clause-once : goal.returns-clause-once
returns-clause-once c = is_once (get same_cid c.args.self.now.places) c.args.self.now.lists c.args.self.now.fits c.no_place_stands_twice.ensures
