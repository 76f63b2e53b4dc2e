-- The order of heads: by the block, and then by the height.
use Rattle.std.specs.Ordering.{on}
use Rattle.std.specs.Cmp.{IsTotalOrder}
use Rattle.std.specs.declared.cmp.Ordering.{Ordering}
use Rattle.std.proofs.lemmas.Cmp.{then_total, on_total, nat_cmp_total, nat_list_cmp_total}
use Rattle.mc_model.specs.Front.{Head, head_cmp}
use Rattle.mc_keep.specs.declared.rows.HeadRow.{HeadRow}
use Rattle.mc_keep.specs.Changes.{head_in_row}

abbrev pub head_row_cmp : HeadRow → HeadRow → Ordering
head_row_cmp = on head_in_row head_cmp

pub head_total : IsTotalOrder head_cmp
head_total =
    then_total (on_total (λ (head : Head). head.0.0) nat_list_cmp_total)
    (on_total (λ (head : Head). head.1) nat_cmp_total)

pub head_row_total : IsTotalOrder head_row_cmp
head_row_total = on_total head_in_row head_total
