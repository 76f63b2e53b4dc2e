-- What the table of the keys says: the places of each key's last row, and of the row with its value.
use Rattle.std.specs.Prelude.{◌≡◌, ℕ, Bool, false, ◌&&◌, List, Option, Some, None, is_some, slice_get}
use Rattle.std.specs.Option.{option_map, option_and_then}
use Rattle.std.specs.HashMap.{HashMap, get_by_text, keys as keys_of_map}
use Rattle.std.specs.Str.{bytes_eq}
use Rattle.std.specs.String.{string_bytes}
use Rattle.std.specs.declared.string.String.{String}
use Rattle.mc_tables.specs.declared.places.Places.{Places}

-- the place of the last row of each key
abbrev pub last_in : {Y S : Type 0} → HashMap (String Y) Places S → List ℕ → Option ℕ
last_in keys key = option_map (λ (places : Places). places.last) (get_by_text keys key)

-- the place of the row with the value of each key
abbrev pub value_in : {Y S : Type 0} → HashMap (String Y) Places S → List ℕ → Option ℕ
value_in keys key = option_and_then (λ (places : Places). places.value) (get_by_text keys key)

-- the keys of the table, each at its place
abbrev pub texts_in : {Y S : Type 0} → HashMap (String Y) Places S → List (String Y)
texts_in keys = keys_of_map keys

-- whether there is a text, which is this key
abbrev pub is_named : {Y : Type 0} → List ℕ → Option (String Y) → Bool
is_named key None = false
is_named key (Some text) = bytes_eq key (string_bytes text)

-- whether this key is at the place
abbrev pub stands_at : {Y : Type 0} → List (String Y) → List ℕ → ℕ → Bool
stands_at texts key place = is_named key (slice_get texts place)

-- whether this key is at the place, and has a value
abbrev pub has_value_at : {Y S : Type 0} → HashMap (String Y) Places S → List ℕ → ℕ → Bool
has_value_at keys key place = stands_at (texts_in keys) key place && is_some (value_in keys key)

-- what stood at a place still stands there
abbrev pub KeepsTexts : {Y : Type 0} → List (String Y) → List (String Y) → Type 0
KeepsTexts {Y} old new =
    (place : ℕ) (text : String Y) → slice_get old place ≡ Some text → slice_get new place ≡ Some text
