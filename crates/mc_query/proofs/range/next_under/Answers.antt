use Rattle.mc_model.specs.Kept.{Kept, processed}
use Rattle.mc_query.proofs.NextFacts.{next_is, next_past, told_so, selected_from, selected_under, selected_beyond}
use Rattle.mc_query.proofs.range.next_under.Goals as goal

pub returns-clause-row : goal.returns-clause-row
returns-clause-row g c = told_so (g.K.Keeper.told c.args.keeper.now) c.in_ok-next.ensures.row
    (λ (kept : Kept). λ next. rw (c.selected.ensures, c.row_past.ensures, next_past (processed kept) c.args.bound.now c.args.inclusive c.in_ok-next.next next)
    (next_is c.valued_keys_are_exact.ensures.sorted c.valued_keys_are_exact.ensures.exact (processed kept) c.args.prefix.now c.args.bound.now c.args.inclusive c.in_ok-next.next c.requires.past next))

pub returns-clause-past : goal.returns-clause-past
returns-clause-past g c = rw c.selected.ensures (selected_from c.args.prefix.now c.row_past.result)

pub returns-clause-next : goal.returns-clause-next
returns-clause-next g c = rw (c.selected.ensures, c.row_past.ensures) (selected_beyond c.args.prefix.now c.args.bound.now c.args.inclusive c.in_ok-next.next)

pub returns-clause-under : goal.returns-clause-under
returns-clause-under g c = rw c.selected.ensures (selected_under c.args.prefix.now c.row_past.result)
