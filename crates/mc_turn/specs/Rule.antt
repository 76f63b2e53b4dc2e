-- The rule of a turn, which holds between any two steps on its table.
use Rattle.std.specs.Prelude.{◌≡◌, ◌≢◌, ◌⊎◌, ℕ, ◌<◌, ◌≤◌, List, [], ◌∷◌, length, Option, Some, None}
use mathlib.Core.Option.{some}
use mathlib.Core.Option as maybe
use lib.ListN.{get_elem?}
use Rattle.atomic_table.specs.Table.{State}
use Rattle.mc_turn.specs.declared.view.View.{View}
use Rattle.mc_turn.specs.Lists.{Begins, times, total}
use Rattle.mc_turn.specs.Views.{all_parts}

module _ {E : Type 0} where
  abbrev pub parts_of : View E → ℕ
  parts_of v = v.parts

  abbrev pub times_of : ℕ → View E → ℕ
  times_of p v = times p v.mine

  -- the view number `by` is the holder, and its held list is this one
  abbrev pub IsHeldBy : List E → List (View E) → ℕ → Type 0
  IsHeldBy log views by = (v : View E) × (get_elem? views by ≡ some v) × (v.held ≡ Some log)

  -- the part of the rule on the view number j
  pub record FitsView (base by word : ℕ) (log : List E) (j : ℕ) (v : View E) : Type 0 where
    -- what it has seen begins the value's list
    pub seen : Begins v.seen log
    pub shorter : Begins v.shorter log
    -- it has a part, and carries the length at `new`, or else no place is its own
    pub begun : 0 < v.parts → v.base ≡ base
    pub bare : v.parts ≡ 0 → v.mine ≡ []
    -- it is no holder, or the one holder where word 0 is 1
    pub held : (v.held ≡ None) ⊎ ((v.held ≡ Some log) × (j ≡ by) × (word ≡ 1))

module _ {T E : Type 0} (story : T → List E) (base : ℕ) where
  -- `base` is the length of the value's list at `new`
  pub record FollowsRule (s : State (Option T) (View E)) : Type 0 where
    -- the value's list, word 0, and the number of the holder's view where there is one
    pub log : List E
    pub word : ℕ
    pub by : ℕ
    -- word 1 is the list's length
    pub words : s.words ≡ word ∷ length log ∷ []
    -- where word 0 is 0, the value is home, and no view is holder, by `each`
    pub free : word ≡ 0 → (x : T) × (s.homes ≡ some (Some x) ∷ []) × (story x ≡ log)
    -- else word 0 is 1, the value is out, and just one view is holder
    pub taken : word ≢ 0 → (word ≡ 1) × (s.homes ≡ maybe.none ∷ [])
    pub holder : word ≢ 0 → IsHeldBy log s.views by
    pub each : (j : ℕ) (v : View E) → get_elem? s.views j ≡ some v → FitsView base by word log j v
    -- the parts of all views are those of the turn
    pub shares : total parts_of s.views ≡ all_parts
    -- each place from `base` up to word 1 stands once in all `mine` together, and no other place does
    pub started : base ≤ length log
    pub before : (p : ℕ) → p < base → total (times_of p) s.views ≡ 0
    pub within : (p : ℕ) → base ≤ p → p < length log → total (times_of p) s.views ≡ 1
    pub after : (p : ℕ) → length log ≤ p → total (times_of p) s.views ≡ 0
