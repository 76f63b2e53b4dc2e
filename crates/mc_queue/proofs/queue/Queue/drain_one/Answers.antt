use Rattle.std.proofs.Common.{◌∙◌, ap, arith, length}
use Rattle.indexmap.specs.IndexMap.{get}
use Rattle.mc_model.specs.Front.{same_cid}
use Rattle.mc_queue.specs.Shown.{cids_of, drained}
use Rattle.mc_queue.specs.Views.{shown}
use Rattle.mc_queue.proofs.FitsFacts.{stands_first}
use Rattle.mc_queue.proofs.MoveFacts.{drain_step, drain_less}
use Rattle.mc_queue.proofs.queue.Queue.drain_one.Goals as goal

pub returns-clause-shown : goal.returns-clause-shown
returns-clause-shown c =
    let s = stands_first (get same_cid c.args.self.now.places) c.args.self.now.lists c.args.self.now.fits c.args.from c.in-Some.place c.in-Some.ensures.first in
    ap (drained c.args.from) (c.shift.ensures.queue s.cid s.place) ∙ drain_step (shown c.args.self.now) s.cid (c.shift.ensures.once s.cid) c.args.from c.requires.apart s.first

pub returns-clause-more : goal.returns-clause-more
returns-clause-more c =
    let s = stands_first (get same_cid c.args.self.now.places) c.args.self.now.lists c.args.self.now.fits c.args.from c.in-Some.place c.in-Some.ensures.first in
    λ _. omega (arith, ap (λ q. length (cids_of c.args.from q)) (c.shift.ensures.queue s.cid s.place), drain_less (shown c.args.self.now) s.cid (c.shift.ensures.once s.cid) c.args.from c.requires.apart s.first)
