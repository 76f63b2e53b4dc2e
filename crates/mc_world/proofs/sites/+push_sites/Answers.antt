use Rattle.std.proofs.Common.{rules}
use Rattle.mc_seats.proofs.BeginFacts.{members}
use Rattle.mc_world.proofs.SiteFacts.{adds_more, adds_none}
use Rattle.mc_world.proofs.sites.+push_sites.Goals as goal

pub returns-in_default-clause-added : goal.returns-in_default-clause-added
returns-in_default-clause-added g t c = adds_none (members g.K.Keeper g.K.Counted) c.args.down.now c.args.r c.args.number c.args.seats.now c.args.sites.now.items (search rules)

pub returns-clause-added : goal.returns-clause-added
returns-clause-added g t c = let adds = adds_more (members g.K.Keeper g.K.Counted) c.args.down.now c.args.r c.args.number c.in-Some.seat.now _ _ _ _ _ c.push_reserved.ensures.items c.site_of.ensures c.push_sites.ensures.added in search (rules, adds)
