use Rattle.mc_fetch.proofs.PeerFacts.{fold_capped}
use Rattle.mc_fetch.proofs.peers.PeerFetchCounted.faults.Goals as goal

pub returns : goal.returns
returns g c = rw (c.sum_faults.ensures, c.as_slice.ensures.value) (fold_capped g.K.Desk.Counted.faults c.args.self.now.views.items)
