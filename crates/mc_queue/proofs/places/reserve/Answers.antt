use Rattle.std.specs.Map.{lookup}
use Rattle.mc_model.specs.Front.{same_cid}
use Rattle.mc_queue.proofs.places.reserve.Goals as goal

pub returns-clause-places : goal.returns-clause-places
returns-clause-places c = λ i cid. lookup (same_cid cid) (c.reserve.ensures.entries i)
