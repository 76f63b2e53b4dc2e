-- What holds of the nodes and the ends between two calls, and the entries that they show.
use Rattle.std.specs.Prelude.{ℕ, ◌≡◌, ◌+◌, ◌<◌, ◌≤◌, true, List, [], ◌∷◌, ◌++◌, length, map}
use Rattle.std.specs.Prelude.{Option, Some, None, is_some, slice_get}
use Rattle.mc_list.specs.Web.{Shape, spare_list, ends, link_to}
use Rattle.mc_list.specs.Ringed.{Ringed, ring, or_zero}
use Rattle.mc_list.specs.Entries.{Entry, entry}
use Rattle.mc_list.specs.declared.lists.Place.{Place}
use Rattle.mc_list.specs.declared.node.Link.{Link}

-- the place of a node's number
abbrev pub place_at : ℕ → Place
place_at p = record { number = p }

-- how many nodes are in the five lists
abbrev pub total : (ℕ → Option ℕ) → ℕ
total f = or_zero (f 0) + (or_zero (f 1) + (or_zero (f 2) + (or_zero (f 3) + or_zero (f 4))))

module _ {T : Type 0} where
  -- one entry, or none where the node holds no item
  abbrev pub entry_at : ℕ → Option T → List (Entry T)
  entry_at p None = []
  entry_at p (Some x) = entry (place_at p) x ∷ []

  -- the entries at these numbers
  abbrev pub collect : (ℕ → Option T) → List ℕ → List (Entry T)
  collect item [] = []
  collect item (p ∷ ps) = entry_at p (item p) ++ collect item ps

  -- the entries of a list, in order
  abbrev pub entries_in : Shape T → ℕ → List (Entry T)
  entries_in s l = collect s.item (ring s l)

  -- how many nodes are spare
  abbrev pub spare_in : Shape T → ℕ
  spare_in s = or_zero (s.counts spare_list)

  -- what holds between two calls
  pub record Whole (s : Shape T) : Type 0 where
    -- each list is a ring through its ends
    pub rings : Ringed s
    -- a node of the four lists holds an item
    pub items : (l p : ℕ) → l < 4 → p < ends → s.list p ≡ Some l → is_some (s.item p) ≡ true
    -- the table leads to each node, and has all of them, in order
    pub table : (p : ℕ) → p < ends → is_some (s.list p) ≡ true → slice_get s.table p ≡ Some (link_to s.at p)
    pub tied : map (λ (l : Link T). l.at) s.table ≡ s.pointers
    -- the five lists together have no more nodes than there are
    pub few : total s.counts ≤ length s.table
    -- the ends of a list are in it
    pub classes : (p k : ℕ) → s.list p ≡ Some k → ends ≤ p → p ≡ ends + k
