use Rattle.std.proofs.Common.{rules, arith, ◌<◌}
use Rattle.mc_list.specs.Web.{shape_of}
use Rattle.mc_list.proofs.UsedFacts.{there, may_move, moved_whole, shifted, shift_places, shifted_spare}
use Rattle.mc_list.proofs.lists.Lists.shift.Goals as goal

pub link-link-requires : goal.link-link-requires
link-link-requires g c = (omega arith, there (shape_of c.args.self.now.web) c.args.self.now.whole c.args.place.number c.requires.used)

pub relink-requires : goal.relink-requires
relink-requires g c =
    let room : c.args.to < 5 = omega (arith, c.requires.list) in
    (omega arith, may_move (shape_of c.args.self.now.web) c.args.self.now.whole c.args.place.number c.requires.used c.link-link.result c.link-link.ensures c.args.to room (search rules))

pub invariant_of-self : goal.invariant_of-self
invariant_of-self g c =
    let room : c.args.to < 5 = omega (arith, c.requires.list) in
    record { whole = moved_whole (shape_of c.args.self.now.web) c.args.self.now.whole c.args.place.number c.requires.used c.link-link.result c.link-link.ensures c.args.to room (shape_of c.relink.new.self) c.relink.ensures }

pub returns-clause-entries : goal.returns-clause-entries
returns-clause-entries g c =
    let room : c.args.to < 5 = omega (arith, c.requires.list) in
    shifted (shape_of c.args.self.now.web) c.args.self.now.whole c.args.place.number c.requires.used c.link-link.result c.link-link.ensures c.args.to room (shape_of c.relink.new.self) c.relink.ensures c.requires.list

pub returns-clause-spare : goal.returns-clause-spare
returns-clause-spare g c =
    let room : c.args.to < 5 = omega (arith, c.requires.list) in
    shifted_spare (shape_of c.args.self.now.web) c.args.self.now.whole c.args.place.number c.requires.used c.link-link.result c.link-link.ensures c.args.to room (shape_of c.relink.new.self) c.relink.ensures c.requires.list

pub returns-clause-places : goal.returns-clause-places
returns-clause-places g c =
    let room : c.args.to < 5 = omega (arith, c.requires.list) in
    shift_places (shape_of c.args.self.now.web) c.args.self.now.whole c.args.place.number c.requires.used c.link-link.result c.link-link.ensures c.args.to room (shape_of c.relink.new.self) c.relink.ensures c.requires.list
