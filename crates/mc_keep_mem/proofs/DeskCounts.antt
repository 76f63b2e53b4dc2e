-- The counts of desks, one after the other, are their sum.
use Rattle.std.proofs.Common.{◌≡◌, ℕ, ◌+◌, ◌-◌, ◌^◌, arith, List, [], ◌∷◌, refl, sym, ap, ◌∙◌}
use Rattle.std.specs.Prelude.{min, fold}
use Rattle.std.specs.List.{sum_by}
use Rattle.std.proofs.lemmas.Bool.Decides.{nat_tests}
use Rattle.mc_keep_mem.specs.declared.plan.MemDesk.{MemDesk}
use Rattle.mc_keep_mem.specs.Desks.{counted_with}

abbrev plus : ℕ → MemDesk → ℕ
plus sum desk = sum + desk.faults

least_twice : (a x most : ℕ) → min (min a most + x) most ≡ min (a + x) most
least_twice a x most = grind (arith, nat_tests)

shift : (a x s : ℕ) → a + x + s ≡ a + (0 + x + s)
shift a x s = omega arith

none_left : (a : ℕ) → a ≡ a + 0
none_left a = omega arith

fold_plus : (desks : List MemDesk) (a : ℕ) → fold plus a desks ≡ a + fold plus 0 desks
fold_plus [] a = none_left a
fold_plus (desk ∷ desks) a =
    fold_plus desks (a + desk.faults) ∙ shift a desk.faults (fold plus 0 desks) ∙ ap (λ (z : ℕ). a + z) (sym (fold_plus desks (0 + desk.faults)))

fold_least : (desks : List MemDesk) (a : ℕ) → fold counted_with (min a (2 ^ 64 - 1)) desks ≡ min (fold plus a desks) (2 ^ 64 - 1)
fold_least [] a = refl
fold_least (desk ∷ desks) a =
    ap (λ (z : ℕ). fold counted_with z desks) (least_twice a desk.faults (2 ^ 64 - 1)) ∙ fold_least desks (a + desk.faults)

pub fold_counted : (desks : List MemDesk) (a : ℕ) → fold counted_with (min a (2 ^ 64 - 1)) desks ≡ min (a + sum_by (λ (desk : MemDesk). desk.faults) desks) (2 ^ 64 - 1)
fold_counted desks a = fold_least desks a ∙ ap (λ (z : ℕ). min z (2 ^ 64 - 1)) (fold_plus desks a)
