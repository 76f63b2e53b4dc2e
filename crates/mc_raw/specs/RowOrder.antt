-- The order of plain rows: by the columns, in their order, and then by the number.
use Rattle.std.specs.Ordering.{nat_cmp, on, then_cmp}
use Rattle.std.specs.Cmp.{IsTotalOrder}
use Rattle.std.specs.declared.cmp.Ordering.{Ordering}
use Rattle.std.specs.Cmp.Lexicographic.{slice_cmp}
use Rattle.std.proofs.lemmas.Cmp.{then_total, on_total, nat_cmp_total, nat_list_cmp_total}
use Rattle.mc_raw.specs.declared.raw.Row.{Row}

abbrev pub row_cmp : Row → Row → Ordering
row_cmp =
    then_cmp (then_cmp (then_cmp (on (λ (row : Row). row.a) (slice_cmp nat_cmp))
    (on (λ (row : Row). row.b) (slice_cmp nat_cmp)))
    (on (λ (row : Row). row.c) (slice_cmp nat_cmp)))
    (on (λ (row : Row). row.n) nat_cmp)

pub row_total : IsTotalOrder row_cmp
row_total =
    then_total (then_total (then_total (on_total (λ (row : Row). row.a) nat_list_cmp_total)
    (on_total (λ (row : Row). row.b) nat_list_cmp_total))
    (on_total (λ (row : Row). row.c) nat_list_cmp_total))
    (on_total (λ (row : Row). row.n) nat_cmp_total)
