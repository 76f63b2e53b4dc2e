-- The next keys with a value.
use Rattle.std.specs.Prelude.{◌≡◌, ℕ, ◌+◌, ◌-◌, ◌<◌, Bool, true, false, List, [], ◌∷◌, slice_get, Option, Some, None}
use Rattle.std.specs.Option.{option_map}
use Rattle.std.specs.Ordering.{is_lt, is_le, nat_cmp}
use Rattle.std.specs.Cmp.Lexicographic.{slice_cmp}
use Rattle.mc_model.specs.declared.block.Block.{Block}
use Rattle.mc_model.specs.Rank.{Ranked}
use Rattle.mc_model.specs.Live.{value_row}
use Rattle.mc_keep.specs.declared.rows.ValueRow.{ValueRow}

-- whether a key is past a bound, or at it where that counts
abbrev pub is_past : List ℕ → Bool → List ℕ → Bool
is_past bound true key = is_le (slice_cmp nat_cmp bound key)
is_past bound false key = is_lt (slice_cmp nat_cmp bound key)

-- the row is that of the least key past the bound to which `value` gives a value
pub record IsNextRow (value : List ℕ → Option Ranked) (bound : List ℕ) (inclusive : Bool) (row : ValueRow)
    : Type 0 where
  pub past : is_past bound inclusive row.key ≡ true
  pub is_value : value row.key ≡ Some (row.priority, row.value)
  pub least : (key : List ℕ) → is_past bound inclusive key ≡ true → is_lt (slice_cmp nat_cmp key row.key) ≡ true →
      value key ≡ None

-- the next row, or none where no key past the bound has a value
abbrev pub IsNextOf : (List ℕ → Option Ranked) → List ℕ → Bool → Option ValueRow → Type 0
IsNextOf value bound inclusive None = (key : List ℕ) → is_past bound inclusive key ≡ true → value key ≡ None
IsNextOf value bound inclusive (Some row) = IsNextRow value bound inclusive row

-- the next row over the processed blocks
abbrev pub IsNext : List Block → List ℕ → Bool → Option ValueRow → Type 0
IsNext blocks bound inclusive row = IsNextOf (value_row blocks) bound inclusive row

-- the rows of the next keys, in their order: so many, or fewer where no more keys past the bound have a value
abbrev pub AreNextOf : (List ℕ → Option Ranked) → List ℕ → Bool → ℕ → List ValueRow → Type 0
AreNextOf value bound inclusive most [] = 0 < most → IsNextOf value bound inclusive None
AreNextOf value bound inclusive most (row ∷ rows) =
    (0 < most) × IsNextRow value bound inclusive row × AreNextOf value row.key false (most - 1) rows

-- the next rows over the processed blocks
abbrev pub AreNext : List Block → List ℕ → Bool → ℕ → List ValueRow → Type 0
AreNext blocks bound inclusive most rows = AreNextOf (value_row blocks) bound inclusive most rows

-- the key of the row at this place among the next rows, from 0, or none where there are not so many
abbrev pub IsKeyAtOf : (List ℕ → Option Ranked) → List ℕ → Bool → ℕ → Option (List ℕ) → Type 0
IsKeyAtOf value bound inclusive place key =
    (rows : List ValueRow) × AreNextOf value bound inclusive (place + 1) rows
    × (key ≡ option_map (λ (row : ValueRow). row.key) (slice_get rows place))

-- the same over the processed blocks
abbrev pub IsKeyAt : List Block → List ℕ → Bool → ℕ → Option (List ℕ) → Type 0
IsKeyAt blocks bound inclusive place key = IsKeyAtOf (value_row blocks) bound inclusive place key
