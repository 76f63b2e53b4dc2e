use Rattle.mc_write.specs.Pairs.{all_seen, has_digest}
use Rattle.mc_model.specs.Cuts.{Pair}
use Rattle.mc_write.proofs.Membership.{all_same}
use Rattle.mc_write.proofs.PairFacts.{pairs_once}
use Rattle.mc_write.proofs.pair.in_order.Goals as goal

pub returns-clause-ascends : goal.returns-clause-ascends
returns-clause-ascends c = pairs_once c.args.pairs.items c.sort_unstable.new.self.items c.dedup.new.self.items c.sort_unstable.ensures.permutation c.sort_unstable.ensures.sorted c.dedup.ensures.filtered

pub returns-clause-digests : goal.returns-clause-digests
returns-clause-digests c =
    let ascends = pairs_once c.args.pairs.items c.sort_unstable.new.self.items c.dedup.new.self.items c.sort_unstable.ensures.permutation c.sort_unstable.ensures.sorted c.dedup.ensures.filtered in
    all_same (λ (pair : Pair). has_digest pair.cid) (all_seen c.dedup.new.self.items) (all_seen c.args.pairs.items) ascends.members
