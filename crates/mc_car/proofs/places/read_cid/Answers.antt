use Rattle.std.proofs.Common.{rules}
use Rattle.mc_car.proofs.PlaceFacts.{names}
use Rattle.mc_car.proofs.places.read_cid.Goals as goal

pub returns-clause-named : goal.returns-clause-named
returns-clause-named c = names c.args.at c.args.body.now c.in-Some.block.now c.in-Some.cid c.in-Some.ensures (search rules)
