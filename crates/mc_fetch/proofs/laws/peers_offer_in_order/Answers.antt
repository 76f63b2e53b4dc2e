use Rattle.mc_fetch.proofs.PeerFacts.{offered_in_order}
use Rattle.mc_fetch.proofs.laws.peers_offer_in_order.Goals as goal

pub returns : goal.returns
returns c = offered_in_order
