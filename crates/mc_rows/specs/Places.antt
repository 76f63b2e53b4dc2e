-- Where the elements of a key stand among sorted ones.
use Rattle.std.specs.Prelude.{◌≡◌, ℕ, Bool, true, false, List, cond}
use Rattle.std.specs.Cmp.Lexicographic.{slice_cmp}
use Rattle.std.specs.List.Sorted.{IsPartitionPoint}
use Rattle.std.specs.Ordering.{is_lt, is_le, nat_cmp}
use Rattle.mc_rows.specs.declared.elements.NewElement.{NewElement}

-- whether the key of an element is below this one, or is this one where `inclusive`
abbrev pub goes_before : Bool → List ℕ → NewElement → Bool
goes_before inclusive key element =
    cond inclusive (is_le (slice_cmp nat_cmp element.key.now key)) (is_lt (slice_cmp nat_cmp element.key.now key))

-- just the elements before the place go before the key
abbrev pub IsPlace : List NewElement → List ℕ → Bool → ℕ → Type 0
IsPlace elements key inclusive place =
    IsPartitionPoint (λ e. goes_before inclusive key e ≡ true) (λ e. goes_before inclusive key e ≡ false) elements place
