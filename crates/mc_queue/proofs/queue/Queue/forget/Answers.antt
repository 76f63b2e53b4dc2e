use Rattle.std.proofs.Common.{◌∙◌, sym}
use Rattle.indexmap.specs.IndexMap.{get}
use Rattle.mc_model.specs.Front.{same_cid}
use Rattle.mc_queue.specs.Views.{shown}
use Rattle.mc_queue.proofs.FitsFacts.{none_wanted, taken_fits, taken_shows}
use Rattle.mc_queue.proofs.MoveFacts.{absent_is}
use Rattle.mc_queue.proofs.queue.Queue.forget.Goals as goal

pub invariant_of-self-clause-fits : goal.invariant_of-self-clause-fits
invariant_of-self-clause-fits c =
    taken_fits (get same_cid c.args.self.now.places) (get same_cid c.remove.new.places) c.args.self.now.lists c.take-entry.new.self c.args.self.now.fits c.args.cid.now c.in-Some.place (sym c.remove.ensures.was ∙ c.in-Some.is)
    c.remove.ensures.places c.take-entry.ensures.entries c.take-entry.ensures.places

pub returns-in-Some-clause-queue : goal.returns-in-Some-clause-queue
returns-in-Some-clause-queue c =
    taken_shows (get same_cid c.args.self.now.places) (get same_cid c.remove.new.places) c.args.self.now.lists c.take-entry.new.self c.args.self.now.fits c.args.cid.now c.in-Some.place (sym c.remove.ensures.was ∙ c.in-Some.is)
    c.remove.ensures.places c.take-entry.ensures.entries c.take-entry.ensures.places

pub returns-in_default-clause-queue : goal.returns-in_default-clause-queue
returns-in_default-clause-queue c = absent_is (shown c.args.self.now) c.args.cid.now (none_wanted (get same_cid c.args.self.now.places) c.args.self.now.lists c.args.self.now.fits c.args.cid.now (sym c.remove.ensures.was ∙ c.in_default.is))
