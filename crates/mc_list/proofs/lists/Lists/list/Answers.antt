use Rattle.std.proofs.Common.{arith}
use Rattle.mc_list.specs.Web.{shape_of}
use Rattle.mc_list.proofs.UsedFacts.{there, used_reaches, is_node, used_list}
use Rattle.mc_list.proofs.lists.Lists.list.Goals as goal

pub link-requires : goal.link-requires
link-requires g c = (omega arith, there (shape_of c.args.self.now.web) c.args.self.now.whole c.args.place.number c.requires.used)

pub list-requires : goal.list-requires
list-requires g c =
    let s = shape_of c.args.self.now.web in let whole = c.args.self.now.whole in let p = c.args.place.number in let link = c.link.result in
    (omega arith, (used_reaches s whole p c.requires.used link c.link.ensures, is_node s whole p c.requires.used link c.link.ensures))

pub returns : goal.returns
returns g c = used_list (shape_of c.args.self.now.web) c.args.self.now.whole c.args.place.number c.requires.used c.link.result c.link.ensures c.list.result c.list.ensures
