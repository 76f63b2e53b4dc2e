-- The keys that a query has still before it.
use Rattle.std.specs.Prelude.{◌≡◌, ℕ, Bool, false, ◌&&◌, if◌then◌else◌, List, [], ◌∷◌, ◌++◌, filter, drop, fold, Option}
use Rattle.std.specs.Prelude.{Some, None}
use Rattle.mc_key.specs.Prefix.{is_under, without_slashes}
use Rattle.mc_model.specs.declared.block.Block.{Block}
use Rattle.mc_model.specs.Answers.{valued_keys}
use Rattle.mc_model.specs.Live.{value}
use Rattle.mc_keep.specs.Next.{is_past}
use Rattle.mc_keep.specs.declared.rows.ValueRow.{ValueRow}
use Rattle.mc_query.specs.declared.pair.Pair.{Pair}
use Rattle.mc_query.specs.declared.place.Place.{Place}

abbrev pub pair_of : Pair → List ℕ × List ℕ
pair_of pair = (pair.key, pair.value)

abbrev pub pair_of_row : ValueRow → Pair
pair_of_row row = record { key = row.key; value = row.value }

-- a folder with a slash; nothing stays nothing
abbrev pub with_slash : List ℕ → List ℕ
with_slash [] = []
with_slash (byte ∷ text) = (byte ∷ text) ++ 47 ∷ []

-- with what each key that the prefix selects begins
abbrev pub start_of : List ℕ → List ℕ
start_of prefix = with_slash (without_slashes prefix)

-- the place past a pair's key
abbrev pub past_pair : Place → Pair → Place
past_pair place pair = record { bound = pair.key; inclusive = false }

-- the place past the last of the pairs
abbrev pub place_after : Place → List Pair → Place
place_after place pairs = fold past_pair place pairs

-- the keys with a value that the prefix selects, past a bound
abbrev pub left_of : List Block → List ℕ → List ℕ → Bool → List (List ℕ)
left_of blocks prefix bound inclusive = filter (is_under prefix) (filter (is_past bound inclusive) (valued_keys blocks))

-- the row, where the prefix selects its key
abbrev pub selected : List ℕ → Option ValueRow → Option ValueRow
selected prefix None = None
selected prefix (Some row) = if is_under prefix row.key then Some row else None

-- the row, where its key is past a bound
abbrev pub row_past : List ℕ → Bool → Option ValueRow → Option ValueRow
row_past bound inclusive None = None
row_past bound inclusive (Some row) = if is_past bound inclusive row.key then Some row else None

-- whether a key is past a bound and the prefix selects it
abbrev pub is_left : List ℕ → List ℕ → Bool → List ℕ → Bool
is_left prefix bound inclusive key = is_past bound inclusive key && is_under prefix key

-- the key, where it is past a bound and the prefix selects it
abbrev pub key_left : List ℕ → List ℕ → Bool → Option (List ℕ) → Option (List ℕ)
key_left prefix bound inclusive None = None
key_left prefix bound inclusive (Some key) = if is_left prefix bound inclusive key then Some key else None

-- the first of the keys that are left with its value, or none where there are none
abbrev pub IsNextUnder : List Block → List ℕ → List ℕ → Bool → Option ValueRow → Type 0
IsNextUnder blocks prefix bound inclusive None = left_of blocks prefix bound inclusive ≡ []
IsNextUnder blocks prefix bound inclusive (Some row) =
    (left_of blocks prefix bound inclusive ≡ row.key ∷ left_of blocks prefix row.key false)
    × (value blocks row.key ≡ Some row.value)

-- the key at a place, from 0, among these keys, or none where there are not so many
abbrev pub IsKeyUnder : List Block → List ℕ → List ℕ → Bool → ℕ → Option (List ℕ) → Type 0
IsKeyUnder blocks prefix bound inclusive place None = drop place (left_of blocks prefix bound inclusive) ≡ []
IsKeyUnder blocks prefix bound inclusive place (Some key) =
    drop place (left_of blocks prefix bound inclusive) ≡ key ∷ left_of blocks prefix key false

-- the place past the first keys that the prefix selects, or none where there are no more
abbrev pub IsPassed : List Block → List ℕ → ℕ → Option Place → Type 0
IsPassed blocks prefix skip None = drop skip (filter (is_under prefix) (valued_keys blocks)) ≡ []
IsPassed blocks prefix skip (Some place) =
    left_of blocks prefix place.bound place.inclusive ≡ drop skip (filter (is_under prefix) (valued_keys blocks))
