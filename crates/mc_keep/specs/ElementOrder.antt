-- The order of element rows: by the priority and the block, and then by the value and the key.
use Rattle.std.specs.Ordering.{nat_cmp, on, then_cmp}
use Rattle.std.specs.Cmp.{IsTotalOrder}
use Rattle.std.specs.declared.cmp.Ordering.{Ordering}
use Rattle.std.specs.Cmp.Lexicographic.{slice_cmp}
use Rattle.std.proofs.lemmas.Cmp.{then_total, on_total, nat_cmp_total, nat_list_cmp_total}
use Rattle.mc_keep.specs.declared.rows.ElementRow.{ElementRow}

-- by the priority, and then by the block
abbrev pub block_cmp : ElementRow → ElementRow → Ordering
block_cmp =
    then_cmp (on (λ (row : ElementRow). row.priority) nat_cmp)
    (on (λ (row : ElementRow). row.cid.0) (slice_cmp nat_cmp))

abbrev pub element_cmp : ElementRow → ElementRow → Ordering
element_cmp =
    then_cmp (then_cmp block_cmp (on (λ (row : ElementRow). row.value) (slice_cmp nat_cmp)))
    (on (λ (row : ElementRow). row.key) (slice_cmp nat_cmp))

pub block_total : IsTotalOrder block_cmp
block_total =
    then_total (on_total (λ (row : ElementRow). row.priority) nat_cmp_total)
    (on_total (λ (row : ElementRow). row.cid.0) nat_list_cmp_total)

pub element_total : IsTotalOrder element_cmp
element_total =
    then_total (then_total block_total (on_total (λ (row : ElementRow). row.value) nat_list_cmp_total))
    (on_total (λ (row : ElementRow). row.key) nat_list_cmp_total)
