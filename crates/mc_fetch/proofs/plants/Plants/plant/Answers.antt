use Rattle.mc_fetch.proofs.PlantFacts.{put_planted}
use Rattle.mc_fetch.proofs.plants.Plants.plant.Goals as goal

pub returns-clause-ok : goal.returns-clause-ok
returns-clause-ok c = rw (← c.self.view_is) (put_planted c.put_offer.result _ _ c.args.offer c.put_offer.ensures.ok)
