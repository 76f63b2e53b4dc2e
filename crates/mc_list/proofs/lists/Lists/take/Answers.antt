use Rattle.std.proofs.Common.{rules, arith, refl, ◌<◌}
use Rattle.mc_list.specs.Web.{shape_of, spare_list}
use Rattle.mc_list.proofs.UsedFacts.{shown, there, is_node, may_move, moved_reaches, moved_holds, moved_one, taken_whole, taken, taken_spare}
use Rattle.mc_list.proofs.PlaceFacts.{take_keeps}
use Rattle.mc_list.proofs.lists.Lists.take.Goals as goal

pub link-link-requires : goal.link-link-requires
link-link-requires g c = (omega arith, there (shape_of c.args.self.now.web) c.args.self.now.whole c.args.place.number c.requires.used)

pub relink-requires : goal.relink-requires
relink-requires g c =
    let room : spare_list < 5 = omega arith in
    (omega arith, may_move (shape_of c.args.self.now.web) c.args.self.now.whole c.args.place.number c.requires.used c.link-link.result c.link-link.ensures spare_list room (search rules))

pub take-requires : goal.take-requires
take-requires g c =
    let s = shape_of c.args.self.now.web in let whole = c.args.self.now.whole in let p = c.args.place.number in let link = c.link-link.result in
    let new = shape_of c.relink.new.self in let room : spare_list < 5 = omega arith in (
      omega arith,
      (
        moved_reaches s whole p c.requires.used link c.link-link.ensures spare_list room new c.relink.ensures,
        (is_node s whole p c.requires.used link c.link-link.ensures, moved_holds s whole p c.requires.used link c.link-link.ensures spare_list room new c.relink.ensures),
      ),
    )

pub invariant_of-self : goal.invariant_of-self
invariant_of-self g c =
    let room : spare_list < 5 = omega arith in
    record { whole = taken_whole (shape_of c.args.self.now.web) c.args.self.now.whole c.args.place.number c.requires.used c.link-link.result c.link-link.ensures spare_list room (shape_of c.relink.new.self) c.relink.ensures refl (shape_of c.take.new.self) c.take.ensures.web }

pub returns-clause-item : goal.returns-clause-item
returns-clause-item g c =
    let room : spare_list < 5 = omega arith in
    moved_one (shape_of c.args.self.now.web) c.args.self.now.whole c.args.place.number c.requires.used c.link-link.result c.link-link.ensures spare_list room (shape_of c.relink.new.self) c.relink.ensures c.take.result c.take.ensures.item

pub returns-clause-entries : goal.returns-clause-entries
returns-clause-entries g c =
    let room : spare_list < 5 = omega arith in
    taken (shape_of c.args.self.now.web) c.args.self.now.whole c.args.place.number c.requires.used c.link-link.result c.link-link.ensures spare_list room (shape_of c.relink.new.self) c.relink.ensures refl (shape_of c.take.new.self) c.take.ensures.web

pub returns-clause-places : goal.returns-clause-places
returns-clause-places g c =
    let s = shape_of c.args.self.now.web in let room : spare_list < 5 = omega arith in
    take_keeps (shown s) (shown (shape_of c.take.new.self)) c.args.place (taken s c.args.self.now.whole c.args.place.number c.requires.used c.link-link.result c.link-link.ensures spare_list room (shape_of c.relink.new.self) c.relink.ensures refl (shape_of c.take.new.self) c.take.ensures.web)

pub returns-clause-spare : goal.returns-clause-spare
returns-clause-spare g c =
    let room : spare_list < 5 = omega arith in
    taken_spare (shape_of c.args.self.now.web) c.args.self.now.whole c.args.place.number c.requires.used c.link-link.result c.link-link.ensures spare_list room (shape_of c.relink.new.self) c.relink.ensures refl (shape_of c.take.new.self) c.take.ensures.web
