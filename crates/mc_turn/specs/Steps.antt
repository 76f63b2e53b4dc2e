-- What each kind of step tells its seat: of a seat m that finds the word r, and is m' afterwards.
use Rattle.std.specs.Prelude.{◌≡◌, ◌≢◌, ℕ, ◌-◌, ◌<◌, ◌≤◌, List, [], ◌∷◌, ◌++◌, length, Option, Some, None}
use Rattle.atomic_table.specs.Table.{Me, Step}
use Rattle.mc_turn.specs.declared.view.View.{View}
use Rattle.mc_turn.specs.Lists.{Begins, places}
use Rattle.mc_turn.specs.Views.{noted_view, held_view, KnowsPlaces, IsTaken}

module _ {E : Type 0} where
  -- the slots that a seat has out: the one with the value where it holds the turn
  abbrev pub slots_of : {T : Type 0} → Option (List E) → List (ℕ × Option T)
  slots_of None = []
  slots_of (Some log) = (0, None) ∷ []

  -- a seat has a part, and the slot out exactly where it holds the turn
  abbrev pub IsAble : {T : Type 0} → Me (Option T) (View E) → Type 0
  IsAble me = (0 < me.0.parts) × (me.1 ≡ slots_of me.0.held)

module _ {T E : Type 0} where
  -- the word stays, and is not below what the seat has seen, whose lists are of one history
  abbrev pub looks : Step (Option T) → Me (Option T) (View E) → ℕ → Me (Option T) (View E) → Type 0
  looks st m r m' =
      (m' ≡ m) × (length m.0.seen ≤ r) × (length m.0.shorter ≤ length m.0.seen → Begins m.0.shorter m.0.seen)
      × KnowsPlaces m.0 r

module _ {T E : Type 0} (story : T → List E) where
  -- the word found is noted; where it is 0, the seat holds the value, else it was 1
  abbrev pub tries : Step (Option T) → Me (Option T) (View E) → ℕ → Me (Option T) (View E) → Type 0
  tries st m r m' =
      (r ≡ 0 → (x : T) × (m'.1 ≡ (0, Some x) ∷ m.1) × (m'.0 ≡ held_view m.0 (0 ∷ []) (story x)) × IsTaken m.0 (story x))
      × (r ≢ 0 → (r ≡ 1) × (m' ≡ (noted_view m.0 (r ∷ []), m.1)))

  -- the list of the value in the seat's slot becomes the held one, and its new places are the seat's
  abbrev pub publishes : Step (Option T) → Me (Option T) (View E) → ℕ → Me (Option T) (View E) → Type 0
  publishes st m r m' = (old : List E) (x : T) → m.0.held ≡ Some old → m.1 ≡ (0, Some x) ∷ []
      →
      m'
      ≡ (
        record m.0 {
          held = Some (story x);
          mine = m.0.mine
              ++ places (length old) (length (story x) - length old);
        },
        m.1,
      )

  -- the held list is seen, and the seat is holder no more
  abbrev pub releases : Step (Option T) → Me (Option T) (View E) → ℕ → Me (Option T) (View E) → Type 0
  releases st m r m' = (log : List E) → m.0.held ≡ Some log → m' ≡ (record m.0 { held = None; seen = log }, [])
