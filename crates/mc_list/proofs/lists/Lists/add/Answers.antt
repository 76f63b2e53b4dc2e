use Rattle.std.proofs.Common.{rules, arith}
use Rattle.mc_list.specs.Web.{shape_of}
use Rattle.mc_list.specs.Whole.{place_at}
use Rattle.mc_list.proofs.UsedFacts.{shown}
use Rattle.mc_list.proofs.PlaceFacts.{add_uses, add_keeps}
use Rattle.mc_list.proofs.AddFacts.{spare_reaches, spare_node, fresh, may_add, added_whole, added, added_spare}
use Rattle.mc_list.proofs.lists.Lists.add.Goals as goal

pub put-requires : goal.put-requires
put-requires g c =
    let s = shape_of c.args.self.now.web in let whole = c.args.self.now.whole in let link = c.last_spare-link.result in
    (omega arith, (spare_reaches s whole c.requires.room link c.last_spare-link.ensures, spare_node s whole c.requires.room link c.last_spare-link.ensures))

pub relink-requires : goal.relink-requires
relink-requires g c = (omega arith, may_add (shape_of c.args.self.now.web) c.args.self.now.whole c.requires.room c.last_spare-link.result c.last_spare-link.ensures c.args.item (shape_of c.put.new.self) c.put.ensures c.args.list c.requires.list (search rules))

pub invariant_of-self : goal.invariant_of-self
invariant_of-self g c = record { whole = added_whole (shape_of c.args.self.now.web) c.args.self.now.whole c.requires.room c.last_spare-link.result c.last_spare-link.ensures c.args.item (shape_of c.put.new.self) c.put.ensures c.args.list c.requires.list (shape_of c.relink.new.self) c.relink.ensures }

pub returns-clause-entries : goal.returns-clause-entries
returns-clause-entries g c = added (shape_of c.args.self.now.web) c.args.self.now.whole c.requires.room c.last_spare-link.result c.last_spare-link.ensures c.args.item (shape_of c.put.new.self) c.put.ensures c.args.list c.requires.list (shape_of c.relink.new.self) c.relink.ensures

pub returns-clause-fresh : goal.returns-clause-fresh
returns-clause-fresh g c = fresh (shape_of c.args.self.now.web) c.args.self.now.whole c.requires.room c.last_spare-link.result c.last_spare-link.ensures

pub returns-clause-used : goal.returns-clause-used
returns-clause-used g c =
    let s = shape_of c.args.self.now.web in let new = shape_of c.relink.new.self in
    add_uses (shown s) (shown new) c.args.list c.requires.list (place_at c.last_spare-link.result.place) c.args.item
    (added s c.args.self.now.whole c.requires.room c.last_spare-link.result c.last_spare-link.ensures c.args.item (shape_of c.put.new.self) c.put.ensures c.args.list c.requires.list new c.relink.ensures)

pub returns-clause-places : goal.returns-clause-places
returns-clause-places g c =
    let s = shape_of c.args.self.now.web in let new = shape_of c.relink.new.self in
    add_keeps (shown s) (shown new) c.args.list c.requires.list (place_at c.last_spare-link.result.place) c.args.item
    (added s c.args.self.now.whole c.requires.room c.last_spare-link.result c.last_spare-link.ensures c.args.item (shape_of c.put.new.self) c.put.ensures c.args.list c.requires.list new c.relink.ensures)

pub returns-clause-spare : goal.returns-clause-spare
returns-clause-spare g c = added_spare (shape_of c.args.self.now.web) c.args.self.now.whole c.requires.room c.last_spare-link.result c.last_spare-link.ensures c.args.item (shape_of c.put.new.self) c.put.ensures c.args.list c.requires.list (shape_of c.relink.new.self) c.relink.ensures
