-- What the table of tombstones says: the keys and the ids are numbered by the places where they stand, and a tombstone
-- is a pair of numbers.
use Rattle.std.specs.Prelude.{◌≡◌, ℕ, ◌<◌, Bool, true, ◌&&◌, nat_eq, List, length}
use Rattle.std.specs.List.{list_any, position_or_len}
use Rattle.std.specs.Str.{bytes_eq}
use Rattle.std.specs.declared.string.String.{String}
use Rattle.std.specs.String.{string_bytes}

abbrev pub is_text : {Y : Type 0} → List ℕ → String Y → Bool
is_text text other = bytes_eq text (string_bytes other)

-- the number of a text, and the length of the list where it is not there
abbrev pub number_of : {Y : Type 0} → List (String Y) → List ℕ → ℕ
number_of texts text = position_or_len (is_text text) texts

abbrev pub same_pair : ℕ × ℕ → ℕ × ℕ → Bool
same_pair a b = nat_eq a.0 b.0 && nat_eq a.1 b.1

-- whether the tombstone of the key with the id is there
abbrev pub has_tomb_in : {Y : Type 0} → List (String Y) → List (String Y) → List (ℕ × ℕ) → List ℕ → List ℕ → Bool
has_tomb_in keys ids pairs key id = list_any (same_pair (number_of keys key, number_of ids id)) pairs

-- each pair is of numbers that stand for texts
pub record AreNumbers {Y : Type 0} (keys ids : List (String Y)) (pairs : List (ℕ × ℕ)) : Type 0 where
  pub key_below : (key id : ℕ) → list_any (same_pair (key, id)) pairs ≡ true → key < length keys
  pub id_below : (key id : ℕ) → list_any (same_pair (key, id)) pairs ≡ true → id < length ids
