use Rattle.mc_list.specs.Web.{shape_of}
use Rattle.mc_list.specs.Whole.{place_at}
use Rattle.mc_list.proofs.UsedFacts.{shown, is_empty, is_first}
use Rattle.mc_list.proofs.PlaceFacts.{of_one, has_first}
use Rattle.mc_list.proofs.lists.Lists.first.Goals as goal

pub returns-then-first-ge-ENDS-clause-first : goal.returns-then-first-ge-ENDS-clause-first
returns-then-first-ge-ENDS-clause-first g c = is_empty (shape_of c.args.self.now.web) c.args.self.now.whole c.args.list c.requires c.first-first.result c.first-first.ensures c.if-first-ge-ENDS.true

pub returns-clause-first : goal.returns-clause-first
returns-clause-first g c = is_first (shape_of c.args.self.now.web) c.args.self.now.whole c.args.list c.requires c.first-first.result c.first-first.ensures c.if-first-ge-ENDS.false

pub returns-clause-used : goal.returns-clause-used
returns-clause-used g c =
    let s = shape_of c.args.self.now.web in let place = place_at c.first-first.result.place in
    of_one (shown s) place c.args.list c.requires (has_first (shown s c.args.list) place (is_first s c.args.self.now.whole c.args.list c.requires c.first-first.result c.first-first.ensures c.if-first-ge-ENDS.false))
