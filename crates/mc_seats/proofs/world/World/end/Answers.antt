use Rattle.std.proofs.Common.{arith, length}
use Rattle.mc_seats.proofs.OpeningFacts.{counts_of_desked}
use Rattle.mc_seats.proofs.world.World.end.Goals as goal

pub join-requires-clause-same : goal.join-requires-clause-same
join-requires-clause-same g c = let same = counts_of_desked (length c.args.self.seats.items) c.args.self.desks.items c.args.self.desked in omega (arith, same, c.args.self.seats.ok, c.args.self.desks.ok)
