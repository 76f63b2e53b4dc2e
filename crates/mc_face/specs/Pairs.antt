-- A map from texts to bytes, as the list of its pairs.
use Rattle.std.specs.Prelude.{ℕ, not, List, map, filter, Option, Some, None}
use Rattle.std.specs.Ordering.{nat_cmp}
use Rattle.std.specs.Cmp.Lexicographic.{slice_cmp}
use Rattle.std.specs.Str.{bytes_eq}
use Rattle.std.specs.Map.{lookup}
use Rattle.std.specs.BTreeMap.{insert_entry}
use Rattle.std.specs.declared.string.String.{String}
use Rattle.std.specs.String.{string_bytes}
use Rattle.mc_face.specs.declared.change.Change.{Change}

abbrev pub Pair : Type 0
Pair = List ℕ × List ℕ

-- the pairs of a map's entries
abbrev pub entry_pair : {Y : Type 0} → String Y × List ℕ → Pair
entry_pair entry = (string_bytes entry.0, entry.1)

abbrev pub pairs_of : {Y : Type 0} → List (String Y × List ℕ) → List Pair
pairs_of entries = map entry_pair entries

-- the value of a key
abbrev pub value_at : List Pair → List ℕ → Option (List ℕ)
value_at pairs key = lookup (bytes_eq key) pairs

-- the pairs, once a key has this value, or none
abbrev pub changed_to : List Pair → List ℕ → Option (List ℕ) → List Pair
changed_to pairs key (Some value) = insert_entry (slice_cmp nat_cmp) pairs key value
changed_to pairs key None = filter (λ (pair : Pair). not (bytes_eq key pair.0)) pairs

abbrev pub with_change : List Pair → Change → List Pair
with_change pairs change = changed_to pairs change.key change.value
