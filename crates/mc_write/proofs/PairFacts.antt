-- Pairs in order.
use Rattle.std.proofs.Common.{◌≡◌, List, [], ◌∷◌, sym, ◌∙◌, subst}
use Rattle.std.specs.List.{dedup, AllByRecursion}
use Rattle.std.specs.List.Retain.{IsFiltered, DiffersFromLast}
use Rattle.std.specs.List.Sorted.{IsSorted, IsPermutation, IsStrictlySortedBy}
use Rattle.std.specs.Cmp.Lexicographic.{slice_cmp}
use Rattle.std.specs.Ordering.{eq_by_cmp, nat_cmp}
use Rattle.std.specs.declared.cmp.Ordering.TheVariants.{Less, Equal}
use Rattle.std.specs.FinMap.{nat_cmp-IsAntisymmetric}
use Rattle.std.proofs.lemmas.List.Filters.{dedup_is}
use Rattle.std.proofs.lemmas.Map.Lookups.{exact_bytes}
use Rattle.mc_base.proofs.Orders.{then_equal}
use Rattle.mc_model.specs.Ascending.{Ascends}
use Rattle.mc_model.specs.Cuts.{Pair, pair_cmp}
use Rattle.mc_model.proofs.Members.{list_any-map}
use Rattle.mc_write.specs.declared.pair.Pair.{Pair as Own}
use Rattle.mc_write.specs.PairOrder.{own_cmp, own_total}
use Rattle.mc_write.specs.Pairs.{seen, all_seen}
use Rattle.mc_model.proofs.SortFacts.{sorted_once}

pub pair_tied : (x y : Pair) → pair_cmp x y ≡ Equal → x ≡ y
pair_tied x y e =
    let last = then_equal _ (slice_cmp nat_cmp x.cid.0 y.cid.0) e in
    let first = then_equal (nat_cmp x.priority y.priority) (slice_cmp nat_cmp x.value y.value) last.0 in
    let priority : x.priority ≡ y.priority = nat_cmp-IsAntisymmetric x.priority y.priority first.0 in
    let value : x.value ≡ y.value = exact_bytes x.value y.value first.1 in
    let digest : x.cid.0 ≡ y.cid.0 = exact_bytes x.cid.0 y.cid.0 last.1 in
    λ i. record { priority = priority i; value = value i; cid = record { 0 = digest i } }

own_tied : (x y : Own) → own_cmp x y ≡ Equal → x ≡ y
own_tied x y e =
    let same = pair_tied (seen x) (seen y) e in
    λ i. record { priority = (same i).priority; value = (same i).value; cid = (same i).cid }

below_map : (x : Own) (ys : List Own) → AllByRecursion (λ y. own_cmp x y ≡ Less) ys → AllByRecursion (λ y. pair_cmp (seen x) y ≡ Less) (all_seen ys)
below_map x [] b = b
below_map x (y ∷ ys) b = (b.0, below_map x ys b.1)

sorted_map : (pairs : List Own) → IsStrictlySortedBy own_cmp pairs → IsStrictlySortedBy pair_cmp (all_seen pairs)
unfolding IsStrictlySortedBy
sorted_map [] s = s
sorted_map (x ∷ pairs) s = (below_map x pairs s.0, sorted_map pairs s.1)

pub pairs_once : (pairs sorted once : List Own) → IsPermutation pairs sorted → IsSorted own_cmp sorted → IsFiltered (DiffersFromLast (eq_by_cmp own_cmp)) [] sorted once → Ascends pair_cmp (all_seen once) (all_seen pairs)
pairs_once pairs sorted once moved order filtered =
    let ascends = sorted_once own_cmp own_total own_tied pairs sorted moved order in
    subst (λ (z : List Own). Ascends pair_cmp (all_seen z) (all_seen pairs)) (sym (dedup_is (eq_by_cmp own_cmp) sorted once filtered)) (record {
      sorted = sorted_map (dedup (eq_by_cmp own_cmp) sorted) ascends.sorted;
      members = record { same = λ test. list_any-map test seen (dedup (eq_by_cmp own_cmp) sorted) ∙ ascends.members.same (λ pair. test (seen pair)) ∙ sym (list_any-map test seen pairs) };
    })
