-- What the tables of value rows and of the keys in order say: the row of a value is named by its place.
use Rattle.std.specs.Prelude.{◌≡◌, ℕ, Bool, true, ◌||◌, List, Option, Some, None, find, is_some, slice_get}
use Rattle.std.specs.List.{list_any}
use Rattle.std.specs.Option.{option_map, option_and_then}
use Rattle.std.specs.BTreeSet.{BTreeSet, contains_text}
use Rattle.std.specs.declared.string.String.{String}
use Rattle.mc_model.specs.Rank.{Ranked, same_ranked}
use Rattle.mc_keep.specs.declared.rows.ElementRow.{ElementRow}
use Rattle.mc_keep.specs.declared.changes.ValueChange.{ValueChange}
use Rattle.mc_keep.specs.LiveRows.{ranked_of}
use Rattle.mc_tables.specs.declared.elements.Node.{Node}
use Rattle.mc_tables.specs.Places.{stands_at}

-- the value of a node's row, with its priority
abbrev pub ranked_in : Node → Ranked
ranked_in node = (node.priority, node.value)

-- the value of a key, with its priority, where these are the places of the values
abbrev pub row_in : List Node → (List ℕ → Option ℕ) → List ℕ → Option Ranked
row_in nodes values key = option_map ranked_in (option_and_then (slice_get nodes) (values key))

-- the first row with the value and the priority
abbrev pub row_with : Ranked → List ElementRow → Option ElementRow
row_with ranked rows = find (λ (row : ElementRow). same_ranked ranked (ranked_of row)) rows

-- whether the value that a change brings is that of a row of its key
abbrev pub is_brought : (List ℕ → List ElementRow) → ValueChange → Bool
is_brought rows change = elim change.value [
  | None ↦ true
  | Some value ↦ is_some (row_with (value.priority, value.value) (rows change.key))
]

-- at each place of a value there is a row
pub record AreThere (nodes : List Node) (values : List ℕ → Option ℕ) : Type 0 where
  pub each : (key : List ℕ) → is_some (option_and_then (slice_get nodes) (values key)) ≡ is_some (values key)

-- whether the key is one of those at these places
abbrev pub waits_in : {Y : Type 0} → List (String Y) → List ℕ → List ℕ → Bool
waits_in texts pending key = list_any (stands_at texts key) pending

-- each key with a value is among the keys in order, or its place waits for the key to be put there; and no other key is
-- in order
pub record IsCovered {Y : Type 0} (texts : List (String Y)) (values : List ℕ → Option ℕ)
    (ordered : BTreeSet (String Y)) (pending : List ℕ) : Type 0 where
  pub each : (key : List ℕ) → is_some (values key) ≡ true →
      (contains_text ordered key || waits_in texts pending key) ≡ true
  pub exact : (key : List ℕ) → contains_text ordered key ≡ true → is_some (values key) ≡ true
