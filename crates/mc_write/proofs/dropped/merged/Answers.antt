use Rattle.std.proofs.Common.{sym, subst, List}
use Rattle.mc_base.specs.declared.cid.Cid.{Cid}
use Rattle.mc_model.specs.Ascending.{Ascends}
use Rattle.mc_write.specs.Held.{cid_cmp}
use Rattle.mc_write.proofs.DroppedFacts.{cids_once}
use Rattle.mc_write.proofs.dropped.merged.Goals as goal

pub returns : goal.returns
returns c =
    subst (λ (z : List Cid). Ascends cid_cmp c.from_vec.result z) c.in_ok-cids.ensures
    (subst (λ (z : List Cid). Ascends cid_cmp z c.in_ok-cids.cids.items) (sym c.from_vec.ensures)
    (cids_once c.in_ok-cids.cids.items c.sort_unstable.new.self.items c.dedup.new.self.items c.sort_unstable.ensures.permutation c.sort_unstable.ensures.sorted c.dedup.ensures.filtered))
