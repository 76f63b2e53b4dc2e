-- The pairs that a query gives, of those of a map.
use Rattle.std.specs.Prelude.{ℕ, Bool, List, filter, take, drop}
use Rattle.mc_key.specs.Prefix.{is_under}
use Rattle.mc_face.specs.Pairs.{Pair}

-- whether a prefix selects the key of a pair
abbrev pub selects : List ℕ → Pair → Bool
selects prefix pair = is_under prefix pair.0

-- of the pairs whose keys a prefix selects, those after the first `skip`, at most `count` of them
abbrev pub rows_of : List Pair → List ℕ → ℕ → ℕ → List Pair
rows_of pairs prefix skip count = take count (drop skip (filter (selects prefix) pairs))
