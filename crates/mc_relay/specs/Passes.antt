-- What passes through a relay, and what its ends know of it.
use Rattle.std.specs.Prelude.{◌≡◌, ⊤, ℕ, ◌+◌, ◌<◌, ◌≤◌, ◌==◌, true, false, if◌then◌else◌, List, [], ◌∷◌, ◌++◌, length}
use Rattle.std.specs.Prelude.{map, Option, Some, None}
use mathlib.Core.Option.{some}
use lib.ListN.{get_elem?}
use Rattle.mc_relay.specs.declared.view.EndView.{EndView}

-- how often a number stands in a list
abbrev pub times : ℕ → List ℕ → ℕ
times n [] = 0
times n (x ∷ xs) = (if x == n then 1 else 0) + times n xs

module _ {T : Type 0} where
  -- the items that are of this giver, in their order, where the list of origins names the giver of each item
  abbrev pub of : ℕ → List ℕ → List T → List T
  of n [] items = []
  of n (o ∷ origins) [] = []
  of n (o ∷ origins) (x ∷ items) = if o == n then x ∷ of n origins items else of n origins items

  -- the givers' numbers, of givers with what they pushed
  abbrev pub numbers : List (ℕ × List T) → List ℕ
  numbers parts = map (λ (part : ℕ × List T). part.0) parts

  -- each giver's items are just what it pushed
  abbrev pub AreParts : List ℕ → List T → List (ℕ × List T) → Type 0
  AreParts origins all [] = ⊤
  AreParts origins all (part ∷ parts) = (of part.0 origins all ≡ part.1) × AreParts origins all parts

  -- What was taken, followed by what is left, holds for each giver exactly what it pushed, each item once and in its
  -- order, and nothing else.
  pub record IsPassedOn (taken left : List T) (parts : List (ℕ × List T)) : Type 0 where
    pub origins : List ℕ
    -- each item has one origin
    pub each : length origins ≡ length (taken ++ left)
    -- no giver stands there twice
    pub apart : (n : ℕ) → times n (numbers parts) ≤ 1
    pub whole : AreParts origins (taken ++ left) parts
    -- and no item is of another origin
    pub only : (n : ℕ) → times n (numbers parts) ≡ 0 → of n origins (taken ++ left) ≡ []

  -- the taker's end at first, and once so many givers were made
  abbrev pub made_view : ℕ → EndView T
  made_view made =
      record {
        gives = false;
        takes = true;
        number = 0;
        pushed = [];
        full = 0;
        taken = [];
        empty = 0;
        made = made;
        known = [];
      }

  abbrev pub first_view : EndView T
  first_view = made_view 0

  -- a giver's end at first
  abbrev pub giver_view : ℕ → EndView T
  giver_view number =
      record {
        gives = true;
        takes = false;
        number = number;
        pushed = [];
        full = 0;
        taken = [];
        empty = 0;
        made = 0;
        known = [];
      }

  abbrev pub spent_view : EndView T
  spent_view =
      record {
        gives = false;
        takes = false;
        number = 0;
        pushed = [];
        full = 0;
        taken = [];
        empty = 0;
        made = 0;
        known = [];
      }

  -- how each step changes an end
  abbrev pub with_pushed : EndView T → T → EndView T
  with_pushed v x = record v { pushed = v.pushed ++ x ∷ [] }

  abbrev pub with_full : EndView T → EndView T
  with_full v = record v { full = v.full + 1 }

  abbrev pub with_taken : EndView T → T → EndView T
  with_taken v x = record v { taken = v.taken ++ x ∷ [] }

  abbrev pub with_empty : EndView T → EndView T
  with_empty v = record v { empty = v.empty + 1 }

  abbrev pub with_made : EndView T → EndView T
  with_made v = record v { made = v.made + 1 }

  abbrev pub with_known : EndView T → EndView T → EndView T
  with_known v w = record v { known = v.known ++ (w.number, w.pushed) ∷ [] }

  abbrev pub with_all : EndView T → List (ℕ × List T) → EndView T
  with_all v parts = record v { known = v.known ++ parts }

  -- What holds of the end with this number, `port`: a giver's is the one of its number, and its items are what it
  -- pushed.
  pub record IsGiver (seat : ℕ → Option ℕ) (origins : List ℕ) (all : List T) (port number : ℕ) (pushed : List T)
      : Type 0 where
    pub sits : seat number ≡ Some port
    pub items : of number origins all ≡ pushed

  -- a giver that was taken in has no end any more, and its items are what it pushed
  pub record IsBack (seat : ℕ → Option ℕ) (made : ℕ) (origins : List ℕ) (all : List T) (number : ℕ) (pushed : List T)
      : Type 0 where
    pub below : number < made
    pub gone : seat number ≡ None
    pub items : of number origins all ≡ pushed

  abbrev pub AreBack : (ℕ → Option ℕ) → ℕ → List ℕ → List T → List (ℕ × List T) → Type 0
  AreBack seat made origins all [] = ⊤
  AreBack seat made origins all (part ∷ parts) =
      IsBack seat made origins all part.0 part.1 × AreBack seat made origins all parts

  -- the taker's end is the only one, and knows what was taken, how many givers were made, and those that it took in
  pub record IsTaker (taker : ℕ) (seat : ℕ → Option ℕ) (so_far : ℕ) (origins : List ℕ) (all popped : List T)
      (port made : ℕ) (taken : List T) (known : List (ℕ × List T)) : Type 0 where
    pub only : port ≡ taker
    pub made_same : made ≡ so_far
    pub taken_same : taken ≡ popped
    pub back : AreBack seat made origins all known
    pub apart : (n : ℕ) → times n (numbers known) ≤ 1

  abbrev pub Fits : ℕ → (ℕ → Option ℕ) → ℕ → List ℕ → List T → List T → ℕ → EndView T → Type 0
  Fits taker seat so_far origins all popped port v =
      (v.gives ≡ true → IsGiver seat origins all port v.number v.pushed)
      × (v.takes ≡ true → IsTaker taker seat so_far origins all popped port v.made v.taken v.known)

  -- each item is right
  abbrev pub AllRight : (T → Type 0) → List T → Type 0
  AllRight Right [] = ⊤
  AllRight Right (x ∷ items) = Right x × AllRight Right items

  -- The rule of a relay.
  pub record Passes (Right : T → Type 0) (items : List T) (views : List (EndView T)) : Type 0 where
    -- the taker's end, how many givers were made, and the end of each that was not taken in
    pub taker : ℕ
    pub so_far : ℕ
    pub seat : ℕ → Option ℕ
    -- all items that were pushed, the giver of each, and those that were popped
    pub all : List T
    pub origins : List ℕ
    pub popped : List T
    pub each : length origins ≡ length all
    pub rest : all ≡ popped ++ items
    -- a giver that was not made yet has no end and no items
    pub unmade : (n : ℕ) → so_far ≤ n → (seat n ≡ None) × (of n origins all ≡ [])
    pub ends : (port : ℕ) (v : EndView T) → get_elem? views port ≡ some v
        → Fits taker seat so_far origins all popped port v
    pub right : AllRight Right items

  -- what a giver knows of the items that were not popped: with those that were, they hold what it has pushed
  pub record HasPushed (v : EndView T) (items : List T) : Type 0 where
    pub origins : List ℕ
    pub popped : List T
    pub each : length origins ≡ length (popped ++ items)
    pub mine : of v.number origins (popped ++ items) ≡ v.pushed

  -- what the taker knows of them: with those that it took, they are of the givers that were made
  pub record HasTaken (v : EndView T) (items : List T) : Type 0 where
    pub origins : List ℕ
    pub each : length origins ≡ length (v.taken ++ items)
    pub made : (n : ℕ) → v.made ≤ n → of n origins (v.taken ++ items) ≡ []

  -- and what it knows where it has taken in all givers
  abbrev pub KnowsAll : EndView T → List T → Type 0
  KnowsAll v items = length v.known ≡ v.made → IsPassedOn v.taken items v.known
