-- What a seat knows, and how each call changes it.
use Rattle.std.specs.Prelude.{◌≡◌, ℕ, ◌+◌, ◌-◌, ◌/◌, ◌^◌, ◌<◌, ◌≤◌, List, [], ◌∷◌, ◌++◌, length, Option, Some, None}
use Rattle.mc_turn.specs.declared.view.View.{View}
use Rattle.mc_turn.specs.Lists.{Begins, longer_of, shorter_of, places, times}

-- the parts of a turn, which its seats share
abbrev pub all_parts : ℕ
all_parts = 2 ^ 63

module _ {E : Type 0} where
  -- the first seat of a turn whose value has this list
  abbrev pub first_view : List E → View E
  first_view log =
      record { seen = log; shorter = []; mine = []; tried = []; parts = all_parts; base = length log; held = None }

  -- a split: the seat keeps the greater half of its parts, and the new seat gets the others
  abbrev pub left_view : View E → View E
  left_view v = record v { parts = v.parts - v.parts / 2 }

  abbrev pub right_view : View E → View E
  right_view v =
      record { seen = v.seen; shorter = []; mine = []; tried = []; parts = v.parts / 2; base = v.base; held = None }

  -- a join: the seat v takes in w, which is then spent
  abbrev pub joined_view : View E → View E → View E
  joined_view v w =
      record {
        seen = longer_of v.seen w.seen;
        shorter = shorter_of v.seen w.seen;
        mine = v.mine ++ w.mine;
        tried = v.tried;
        parts = v.parts + w.parts;
        base = v.base;
        held = v.held;
      }

  -- a view without parts, which has seen this list, and that of a seat that is spent
  abbrev pub glimpse_view : List E → View E
  glimpse_view seen = record { seen = seen; shorter = []; mine = []; tried = []; parts = 0; base = 0; held = None }

  abbrev pub spent_view : View E
  spent_view = glimpse_view []

  -- the seat learns of a list: it has then seen the longer of both
  abbrev pub learned_view : View E → List E → View E
  learned_view v seen = record v { seen = longer_of v.seen seen; shorter = shorter_of v.seen seen }

  -- what the first of some views has seen, and that it is the one view of a glimpse
  abbrev pub sight_in : List (View E) → List E
  sight_in [] = []
  sight_in (v ∷ vs) = v.seen

  abbrev pub IsGlimpse : List (View E) → Type 0
  IsGlimpse views = views ≡ glimpse_view (sight_in views) ∷ []

  -- the seat's exchanges have found these words
  abbrev pub noted_view : View E → List ℕ → View E
  noted_view v words = record v { tried = v.tried ++ words }

  -- and the seat holds a value with this list
  abbrev pub held_view : View E → List ℕ → List E → View E
  held_view v words log = record v { tried = v.tried ++ words; held = Some log }

  -- the new list begins with the one that is held
  abbrev pub Extends : Option (List E) → List E → Type 0
  Extends None new = ⊥
  Extends (Some old) new = Begins old new

  -- the places that the new list has beyond the one that is held
  abbrev pub new_places : Option (List E) → List E → List ℕ
  new_places None new = []
  new_places (Some old) new = places (length old) (length new - length old)

  -- the seat gave back a value with the new list
  abbrev pub given_view : View E → List E → View E
  given_view v new = record v { held = None; seen = new; mine = v.mine ++ new_places v.held new }

  -- What a seat knows of its places where the value's list has n entries.
  -- They lie below n, none twice; and all parts together have each place from `base` on, and no other.
  pub record KnowsPlaces (v : View E) (n : ℕ) : Type 0 where
    pub below : (p : ℕ) → n ≤ p → times p v.mine ≡ 0
    pub once : (p : ℕ) → times p v.mine ≤ 1
    pub grown : v.parts ≡ all_parts → v.base ≤ n
    pub early : v.parts ≡ all_parts → (p : ℕ) → p < v.base → times p v.mine ≡ 0
    pub whole : v.parts ≡ all_parts → (p : ℕ) → v.base ≤ p → p < n → times p v.mine ≡ 1

  -- What a seat knows when it gets a value with this list, which begins with all that the seat has seen.
  pub record IsTaken (v : View E) (log : List E) : Type 0 where
    pub seen : Begins v.seen log
    pub idle : v.held ≡ None
    pub known : KnowsPlaces v (length log)

  -- no place stands in the `mine` of both
  abbrev pub AreApart : View E → View E → Type 0
  AreApart v w = (p : ℕ) → times p v.mine + times p w.mine ≤ 1
