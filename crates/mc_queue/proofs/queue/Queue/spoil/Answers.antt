use Rattle.indexmap.specs.IndexMap.{get}
use Rattle.mc_model.specs.Front.{same_cid}
use Rattle.mc_queue.proofs.FitsFacts.{is_once, spoiled_fits, spoiled_shows}
use Rattle.mc_queue.proofs.queue.Queue.spoil.Goals as goal

pub invariant_of-self-clause-fits : goal.invariant_of-self-clause-fits
invariant_of-self-clause-fits c =
    spoiled_fits (get same_cid c.args.self.now.places) (get same_cid c.set.new.places) c.args.self.now.lists c.take-entry.new.self c.add-place.new.self c.args.self.now.fits c.args.cid.now c.args.place c.add-place.result c.args.damage c.list.result c.requires.place
    c.set.ensures.places c.take-entry.ensures.entries c.take-entry.ensures.places c.add-place.ensures.entries c.add-place.ensures.fresh c.add-place.ensures.used c.add-place.ensures.places

pub returns-clause-queue : goal.returns-clause-queue
returns-clause-queue c =
    spoiled_shows (get same_cid c.args.self.now.places) c.args.self.now.lists c.take-entry.new.self c.add-place.new.self c.args.self.now.fits c.args.cid.now c.args.place c.add-place.result c.args.damage c.list.result c.requires.place
    c.list.ensures c.take-entry.ensures.entries c.add-place.ensures.entries

pub returns-clause-once : goal.returns-clause-once
returns-clause-once c = is_once (get same_cid c.args.self.now.places) c.args.self.now.lists c.args.self.now.fits c.no_place_stands_twice.ensures c.args.cid.now
