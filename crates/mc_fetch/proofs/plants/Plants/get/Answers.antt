use Rattle.mc_fetch.proofs.PlantFacts.{planted_lookup}
use Rattle.mc_fetch.proofs.plants.Plants.get.Goals as goal

pub returns-in-Some : goal.returns-in-Some
returns-in-Some c = cc (planted_lookup c.args.cid.now c.self.inside.offers.entries, c.in-Some.ensures.value, c.as_slice.ensures, c.self.view_is)

pub returns-in-None : goal.returns-in-None
returns-in-None c = cc (planted_lookup c.args.cid.now c.self.inside.offers.entries, c.in-None.ensures.value, c.self.view_is)
