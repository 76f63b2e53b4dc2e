-- What a container shows.
use Rattle.std.specs.Prelude.{ℕ, ◌≡◌, nat_lt, eqb, true, false, cond, List, [], ◌++◌}
use Rattle.mc_list.specs.Web.{shape_of}
use Rattle.mc_list.specs.Entries.{Entry, has_place}
use Rattle.mc_list.specs.Whole.{entries_in, spare_in}
use Rattle.mc_list.specs.declared.lists.Lists.{Lists}
use Rattle.mc_list.specs.declared.lists.Place.{Place}

-- the entries of a list, in order
abbrev pub entries : {T : Type 0} → Lists T → ℕ → List (Entry T)
entries lists l = cond (nat_lt l 4) (entries_in (shape_of lists.web) l) []

-- the entries of all four lists
abbrev pub all_entries : {T : Type 0} → Lists T → List (Entry T)
all_entries lists = entries lists 0 ++ (entries lists 1 ++ (entries lists 2 ++ entries lists 3))

-- an entry stands at the place
abbrev pub IsUsed : {T : Type 0} → Lists T → Place → Type 0
IsUsed lists p = has_place p (all_entries lists) ≡ true

-- each place that was in use still is
abbrev pub KeepsPlaces : {T : Type 0} → Lists T → Lists T → Type 0
KeepsPlaces old new = (q : Place) → IsUsed old q → IsUsed new q

-- each place but one
abbrev pub KeepsOthers : {T : Type 0} → Place → Lists T → Lists T → Type 0
KeepsOthers p old new = (q : Place) → eqb q.number p.number ≡ false → IsUsed old q → IsUsed new q

-- how many entries may be added without memory
abbrev pub spare : {T : Type 0} → Lists T → ℕ
spare lists = spare_in (shape_of lists.web)
