use Rattle.mc_seats.proofs.LaidFacts.{all_laid}
use Rattle.mc_seats.proofs.world.World.is_laid.Goals as goal

pub returns : goal.returns
returns g c = all_laid c.args.self.now.seats.items
