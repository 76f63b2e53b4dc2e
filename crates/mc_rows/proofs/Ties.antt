-- What ties in its order is one.
use Rattle.std.proofs.Common.{◌≡◌, Bool, true, false, Option, Some, refl, sym, ap, ◌∙◌}
use Rattle.std.specs.Ordering.{is_eq}
use Rattle.std.specs.List.Sorted.{IsStrictlySortedBy}
use Rattle.std.specs.Prelude.{[]}
use Rattle.std.specs.declared.cmp.Ordering.{Ordering}
use Rattle.std.specs.declared.cmp.Ordering.TheVariants.{Less, Equal, Greater}
use Rattle.mc_model.specs.Who.{Placed, placed_cmp}
use Rattle.mc_model.proofs.Topmost.{placed_tied}
use Rattle.mc_rows.specs.Rows.{new_tomb_cmp}

pub tied_places : (a b : Placed) → is_eq (placed_cmp a b) ≡ true → Some b ≡ Some a
tied_places a b e = ap (λ (p : Placed). Some p) (sym (placed_tied a b (by (placed_cmp a b) e)))
  where
    by : (o : Ordering) → is_eq o ≡ true → o ≡ Equal
    by Less e = absurd (let no : false ≡ true = e in cc)
    by Equal e = refl
    by Greater e = absurd (let no : false ≡ true = e in cc)

pub none_sorted : IsStrictlySortedBy new_tomb_cmp []
unfolding IsStrictlySortedBy
none_sorted = tt
