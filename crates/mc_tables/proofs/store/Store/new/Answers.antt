use Rattle.mc_tables.proofs.Empty.{fits_empty, winners_empty}
use Rattle.mc_tables.proofs.store.Store.new.Goals as goal

pub invariant_of-result-2-clause-fits : goal.invariant_of-result-2-clause-fits
invariant_of-result-2-clause-fits g c =
    fits_empty _ c.new.ensures.blocks c.new.ensures.order c.new-2.ensures.empty c.new-3.ensures.empty c.new-4.ensures.items c.with_hasher-2.ensures.pairs c.with_hasher.ensures.empty c.new-5.ensures.empty

pub invariant_of-result-2-clause-winners : goal.invariant_of-result-2-clause-winners
invariant_of-result-2-clause-winners g c =
    winners_empty _ c.new.ensures.blocks c.new.ensures.order c.new-2.ensures.empty c.new-3.ensures.empty c.new-4.ensures.items c.with_hasher-2.ensures.pairs c.with_hasher.ensures.empty c.new-5.ensures.empty
