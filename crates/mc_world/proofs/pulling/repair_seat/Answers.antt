use Rattle.std.proofs.Common.{rules, ◌+◌, [], refl, sym, subst, Bool, List}
use Rattle.std.specs.List.{insert}
use Rattle.mc_drain.specs.Works.{keeper_broke, peer_broke}
use Rattle.mc_lend.specs.Lending.{HaveDesks}
use Rattle.mc_lend.specs.declared.site.Site.{Site}
use Rattle.mc_world.specs.Pulling.{AddsSites, RepairBy}
use Rattle.mc_seats.proofs.BeginFacts.{members}
use Rattle.mc_world.proofs.DeskedFacts.{all_long, same_long}
use Rattle.mc_world.proofs.SiteFacts.{among, insert_at, marks_among}
use Rattle.mc_world.proofs.pulling.repair_seat.Goals as goal

pub repair_held-held-requires-clause-desked : goal.repair_held-held-requires-clause-desked
repair_held-held-requires-clause-desked g c κs within =
    let sites = c.in-Ok.ensures in
    subst (λ (marks : List Bool). HaveDesks c.args.workers marks c.args.desks.now) (sym (marks_among (members g.K.Keeper g.K.Counted) c.args.down.now c.args.r c.split_at.result.0.now c.args.seat c.split_at.result.1.now [] sites.first c.as_slice.result.now (insert c.args.others.now c.args.r c.args.seat) (search (rules)) (insert_at c.args.others.now c.split_at.result.0.now c.split_at.result.1.now c.args.r c.args.seat (search (rules)) (search (rules))) refl sites.one (subst (λ (l : List (Site _)). AddsSites (members g.K.Keeper g.K.Counted) c.args.down.now c.args.r (c.args.r + 1) c.split_at.result.1.now sites.first l) (sym c.as_slice.ensures.value) sites.two))) c.requires.desked

pub returns-clause-pulls : goal.returns-clause-pulls
returns-clause-pulls g c =
    let sites = c.in-Ok.ensures in
    among (members g.K.Keeper g.K.Counted) c.args.down.now c.args.r c.split_at.result.0.now c.args.seat c.split_at.result.1.now [] sites.first c.as_slice.result.now (insert c.args.others.now c.args.r c.args.seat) (search (rules)) (insert_at c.args.others.now c.split_at.result.0.now c.split_at.result.1.now c.args.r c.args.seat (search (rules)) (search (rules))) refl sites.one (subst (λ (l : List (Site _)). AddsSites (members g.K.Keeper g.K.Counted) c.args.down.now c.args.r (c.args.r + 1) c.split_at.result.1.now sites.first l) (sym c.as_slice.ensures.value) sites.two)
    g.K.Desk.Counted.faults (RepairBy c.repair_held-held.result.1) (keeper_broke c.repair_held-held.result.1) (peer_broke c.repair_held-held.result.1) (record c.args.seat { held = c.repair_held-held.result.0 }) _ c.args.desks.now c.repair_held-held.new.desks
    (insert_at c.args.others.now c.split_at.result.0.now c.split_at.result.1.now c.args.r (record c.args.seat { held = c.repair_held-held.result.0 }) (search (rules)) (search (rules)))
    (c.repair_held-held.ensures.pulls c.args.seat.planted) c.repair_held-held.ensures.of_keeper c.repair_held-held.ensures.desks c.repair_held-held.ensures.peers

pub returns-in-Err-clause-long : goal.returns-in-Err-clause-long
returns-in-Err-clause-long g c = same_long c.args.desks.now

pub returns-clause-long : goal.returns-clause-long
returns-clause-long g c = all_long (members g.K.Keeper g.K.Counted) g.K.Desk.Counted.faults _ c.args.desks.now c.repair_held-held.new.desks c.repair_held-held.ensures.desks
