-- The keys that stand in order, and their rows.
use Rattle.std.specs.Prelude.{ℕ, Bool, List, [], ◌∷◌, filter, Option, Some, None}
use Rattle.std.specs.BTreeSet.{BTreeSet}
use Rattle.std.specs.List.{flat_map}
use Rattle.std.specs.declared.string.String.{String}
use Rattle.std.specs.String.{string_bytes}
use Rattle.mc_model.specs.Rank.{Ranked}
use Rattle.mc_keep.specs.Next.{is_past}
use Rattle.mc_keep.specs.declared.rows.ValueRow.{ValueRow}

-- the row of a key with this value, where it has one
abbrev pub row_listed : List ℕ → Option Ranked → List ValueRow
row_listed key None = []
row_listed key (Some ranked) = record { key = key; priority = ranked.0; value = ranked.1 } ∷ []

-- the rows of those of the keys that have a value
abbrev pub rows_listed : {Y : Type 0} → (List ℕ → Option Ranked) → List (String Y) → List ValueRow
rows_listed {Y} value keys =
    flat_map (λ (key : String Y). row_listed (string_bytes key) (value (string_bytes key))) keys

-- the keys in order that are past a bound, or at it where that counts
abbrev pub keys_past : {Y : Type 0} → List ℕ → Bool → BTreeSet (String Y) → List (String Y)
keys_past {Y} bound inclusive ordered =
    filter (λ (key : String Y). is_past bound inclusive (string_bytes key)) ordered.keys
