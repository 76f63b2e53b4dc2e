-- What the value rows of a merge come to.
use Rattle.std.specs.Prelude.{◌≡◌, ℕ, Bool, true, false, List, [], ◌∷◌, fold, map, Option, Some, None, if◌then◌else◌}
use Rattle.std.specs.List.{list_any}
use Rattle.std.specs.Option.{option_map}
use Rattle.std.specs.Str.{bytes_eq}
use denote.Ref.{Bor}
use Rattle.mc_model.specs.declared.block.Block.{Block}
use Rattle.mc_model.specs.Ascending.{is_once}
use Rattle.mc_model.specs.Who.{Placed, top_row}
use Rattle.mc_keep.specs.declared.rows.ElementRow.{ElementRow}
use Rattle.mc_keep.specs.declared.rows.TombRow.{TombRow}
use Rattle.mc_keep.specs.declared.changes.ValueChange.{ValueChange}
use Rattle.mc_keep.specs.declared.changes.WinnerChange.{WinnerChange}
use Rattle.mc_rows.specs.declared.best.Best.{Best}
use Rattle.mc_rows.specs.declared.best.Top.{Top}
use Rattle.mc_rows.specs.declared.best.TopChange.{TopChange}
use Rattle.mc_rows.specs.declared.parts.TopChanges.{TopChanges}
use Rattle.mc_rows.specs.Hiding.{new_row}

-- what a borrowed value with its block stands for, and a value that is owned
abbrev pub placed_best : Option Best → Option Placed
placed_best best = option_map (λ (b : Best). ((b.priority, b.value.now), b.cid.now)) best

abbrev pub placed_in_top : Top → Placed
placed_in_top top = ((top.value.priority, top.value.value), top.cid)

abbrev pub placed_top : Option Top → Option Placed
placed_top top = option_map placed_in_top top

-- the two rows of a change
abbrev pub value_part : TopChange → ValueChange
value_part change = record { key = change.key; value = option_map (λ (top : Top). top.value) change.top }

abbrev pub winner_part : TopChange → WinnerChange
winner_part change = record { key = change.key; cid = option_map (λ (top : Top). top.cid) change.top }

-- what counts of a key after one change, and after changes in turn
abbrev pub top_after : List ℕ → Option Placed → TopChange → Option Placed
top_after key row change = if bytes_eq change.key key then placed_top change.top else row

abbrev pub tops_after : List ℕ → Option Placed → List TopChange → Option Placed
tops_after key row changes = fold (top_after key) row changes

-- the change gives the key this row
pub record ChangesTo (key : List ℕ) (row : Option Placed) (change : TopChange) : Type 0 where
  pub key_is : change.key ≡ key
  pub top_is : placed_top change.top ≡ row

-- a change to a row, or none where the row stays
abbrev pub IsChange : List ℕ → Option Placed → Option Placed → Option TopChange → Type 0
IsChange key old new None = new ≡ old
IsChange key old new (Some change) = ChangesTo key new change

abbrev pub change_list : Option TopChange → List TopChange
change_list None = []
change_list (Some change) = change ∷ []

-- whether a key is among those, and whether there is a change of it
abbrev pub has_key : List (Bor (List ℕ)) → List ℕ → Bool
has_key keys key = list_any (λ (k : Bor (List ℕ)). bytes_eq k.now key) keys

abbrev pub has_change_of : List TopChange → List ℕ → Bool
has_change_of changes key = list_any (λ (change : TopChange). bytes_eq change.key key) changes

-- the changes give each of these keys its new row, and speak of no other
pub record ValuesFit (blocks : List Block) (elements : List ElementRow) (tombs : List TombRow)
    (keys : List (Bor (List ℕ))) (changes : List TopChange) : Type 0 where
  pub rows : (key : List ℕ) → has_key keys key ≡ true →
      tops_after key (top_row blocks key) changes ≡ new_row blocks elements tombs key
  pub rest : (key : List ℕ) → has_key keys key ≡ false → has_change_of changes key ≡ false
  pub once : is_once (λ (a b : TopChange). bytes_eq a.key b.key) changes ≡ true

-- the value rows and the winner rows are those of changes that fit
pub record ChangesFit (blocks : List Block) (elements : List ElementRow) (tombs : List TombRow)
    (keys : List (Bor (List ℕ))) (rows : TopChanges) : Type 0 where
  pub changes : List TopChange
  pub fit : ValuesFit blocks elements tombs keys changes
  pub values : rows.values ≡ map value_part changes
  pub winners : rows.winners ≡ map winner_part changes
