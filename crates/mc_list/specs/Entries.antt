-- Entries of lists, each a place and an item.
use Rattle.std.specs.Prelude.{eqb, Bool, not, List, [], ◌∷◌, Option, Some, None, filter}
use Rattle.std.specs.List.{list_any}
use Rattle.mc_list.specs.declared.lists.Place.{Place}

pub record Entry (T : Type 0) : Type 0 where
  pub place : Place
  pub item : T

module _ {T : Type 0} where
  abbrev pub entry : Place → T → Entry T
  entry p x = record { place = p; item = x }

  abbrev pub stands_at : Place → Entry T → Bool
  stands_at p e = eqb e.place.number p.number

  -- the entry at the place, alone; nothing where there is none
  abbrev pub those_at : Place → List (Entry T) → List (Entry T)
  those_at p es = filter (stands_at p) es

  -- the entries without the one at the place
  abbrev pub others : Place → List (Entry T) → List (Entry T)
  others p es = filter (λ e. not (stands_at p e)) es

  -- whether an entry stands at the place
  abbrev pub has_place : Place → List (Entry T) → Bool
  has_place p es = list_any (stands_at p) es

  abbrev pub first_place : List (Entry T) → Option Place
  first_place [] = None
  first_place (e ∷ es) = Some e.place
