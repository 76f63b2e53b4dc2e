-- Element rows that tie are one row.
use Rattle.std.proofs.Common.{◌≡◌}
use Rattle.std.specs.Ordering.{nat_cmp}
use Rattle.std.specs.declared.cmp.Ordering.TheVariants.{Equal}
use Rattle.std.specs.Cmp.Lexicographic.{slice_cmp}
use Rattle.std.specs.FinMap.{nat_cmp-IsAntisymmetric}
use Rattle.std.proofs.lemmas.Map.Lookups.{exact_bytes}
use Rattle.mc_base.proofs.Cids.{cid_same}
use Rattle.mc_base.proofs.Orders.{then_equal}
use Rattle.mc_keep.specs.declared.rows.ElementRow.{ElementRow}
use Rattle.mc_keep.specs.ElementOrder.{element_cmp}

pub element_tied : (x y : ElementRow) → element_cmp x y ≡ Equal → x ≡ y
element_tied x y e =
    let last = then_equal _ (slice_cmp nat_cmp x.key y.key) e in
    let third = then_equal _ (slice_cmp nat_cmp x.value y.value) last.0 in
    let first = then_equal (nat_cmp x.priority y.priority) (slice_cmp nat_cmp x.cid.0 y.cid.0) third.0 in
    let priority : x.priority ≡ y.priority = nat_cmp-IsAntisymmetric x.priority y.priority first.0 in
    let cid : x.cid ≡ y.cid = cid_same x.cid y.cid (exact_bytes x.cid.0 y.cid.0 first.1) in
    let value : x.value ≡ y.value = exact_bytes x.value y.value third.1 in
    let key : x.key ≡ y.key = exact_bytes x.key y.key last.1 in
    λ i. record { key = key i; cid = cid i; priority = priority i; value = value i }
