use Rattle.mc_fetch.proofs.PlantFacts.{planted_after}
use Rattle.mc_fetch.proofs.laws.plants_replace.Goals as goal

pub returns : goal.returns
returns c = planted_after
