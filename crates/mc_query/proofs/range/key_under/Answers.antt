use Rattle.mc_model.specs.Kept.{Kept, processed}
use Rattle.mc_query.proofs.NextFacts.{told_so}
use Rattle.mc_query.proofs.StrideFacts.{left_at, left_from, left_beyond}
use Rattle.mc_query.proofs.range.key_under.Goals as goal

pub returns-clause-key : goal.returns-clause-key
returns-clause-key g c = told_so (g.K.Keeper.told c.args.keeper.now) c.in_ok-key.ensures.key
    (λ (kept : Kept). λ at. rw c.key_left.ensures
    (left_at c.valued_keys_are_exact.ensures.sorted c.valued_keys_are_exact.ensures.exact (processed kept) c.args.prefix.now c.args.bound.now c.args.inclusive c.args.place c.in_ok-key.key c.requires.past at))

pub returns-clause-past : goal.returns-clause-past
returns-clause-past g c = rw c.key_left.ensures (left_from c.args.prefix.now c.args.bound.now c.args.inclusive c.in_ok-key.key)

pub returns-clause-next : goal.returns-clause-next
returns-clause-next g c = rw c.key_left.ensures (left_beyond c.args.prefix.now c.args.bound.now c.args.inclusive c.in_ok-key.key)
