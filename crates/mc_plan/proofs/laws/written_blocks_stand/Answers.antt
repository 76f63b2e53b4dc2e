use Rattle.mc_plan.proofs.GrowthFacts.{written_stands}
use Rattle.mc_plan.proofs.laws.written_blocks_stand.Goals as goal

pub returns : goal.returns
returns c = written_stands
