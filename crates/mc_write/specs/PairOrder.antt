-- The order of pairs in the code is that of the definitions.
use Rattle.std.specs.Ordering.{on}
use Rattle.std.specs.Cmp.{IsTotalOrder}
use Rattle.std.specs.declared.cmp.Ordering.{Ordering}
use Rattle.std.proofs.lemmas.Cmp.{then_total, on_total, nat_cmp_total, nat_list_cmp_total}
use Rattle.mc_model.specs.Cuts.{Pair, pair_cmp}
use Rattle.mc_write.specs.declared.pair.Pair.{Pair as Own}
use Rattle.mc_write.specs.Pairs.{seen}

pub pair_total : IsTotalOrder pair_cmp
pair_total =
    then_total
    (then_total (on_total (λ (pair : Pair). pair.priority) nat_cmp_total)
    (on_total (λ (pair : Pair). pair.value) nat_list_cmp_total)) (on_total
    (λ (pair : Pair). pair.cid.0) nat_list_cmp_total)

abbrev pub own_cmp : Own → Own → Ordering
own_cmp = on seen pair_cmp

pub own_total : IsTotalOrder own_cmp
own_total = on_total seen pair_total
