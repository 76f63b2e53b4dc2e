-- The entries of the four lists, the index of their places, and what they show.
use Rattle.std.specs.Prelude.{ℕ, ◌≡◌, eqb, Bool, true, false, [], ◌∷◌, ◌++◌, List, map, cond, Option, Some, None}
use Rattle.std.specs.List.{list_all}
use Rattle.mc_base.specs.declared.cid.Cid.{Cid}
use Rattle.mc_model.specs.Front.{same_cid}
use Rattle.mc_model.specs.Wanted.{Queue, others, bad_others}
use Rattle.mc_list.specs.Entries.{Entry as Placed}
use Rattle.mc_list.specs.Views.{entries, IsUsed}
use Rattle.mc_list.specs.declared.lists.Lists.{Lists}
use Rattle.mc_list.specs.declared.lists.Place.{Place}
use Rattle.mc_queue.specs.declared.part.Part.{Part}
use Rattle.mc_queue.specs.declared.part.Part.TheVariants.{Waiting, Flight, Missing, Bad}
use Rattle.mc_queue.specs.declared.part.Entry.{Entry}
use Rattle.mc_queue.specs.Parts.{is_in, list_of}

-- the blocks of entries
abbrev pub cids_in : List (Placed Entry) → List Cid
cids_in es = map (λ (e : Placed Entry). e.item.cid) es

-- the blocks, each with the number of its damage
abbrev pub bad_in : List (Placed Entry) → List (Cid × ℕ)
bad_in es = map (λ (e : Placed Entry). (e.item.cid, e.item.damage)) es

-- whether this is the place
abbrev pub is_place : Option Place → Place → Bool
is_place None place = false
is_place (Some other) place = eqb other.number place.number

-- whether the index has the place of the entry as that of its block
abbrev pub leads_to : (Cid → Option Place) → Placed Entry → Bool
leads_to at e = is_place (at e.item.cid) e.place

-- the lists fit the index of places
pub record Fits (lists : Lists Entry) (at : Cid → Option Place) : Type 0 where
  -- the index leads to each entry
  pub found : (list : ℕ) → list_all (leads_to at) (entries lists list) ≡ true
  -- an entry stands at each place of the index
  pub used : (c : Cid) (place : Place) → at c ≡ Some place → IsUsed lists place
  -- no place is that of two blocks
  pub apart : (c d : Cid) (place : Place) → at c ≡ Some place → at d ≡ Some place → same_cid d c ≡ true

-- the entries of a part
abbrev pub entries_of : Lists Entry → Part → List (Placed Entry)
entries_of lists part = entries lists (list_of part)

-- the wanted set that the lists stand for
abbrev pub shown_in : Lists Entry → Queue
shown_in lists = record {
  waiting = cids_in (entries_of lists Waiting);
  flight = cids_in (entries_of lists Flight);
  missing = cids_in (entries_of lists Missing);
  bad = bad_in (entries_of lists Bad);
}

-- the block leaves the part that it is in, and comes to the back of another
abbrev pub moved : Option Part → Queue → Cid → ℕ → Queue
moved to q c damage = record {
  waiting = cond (is_in Waiting to) (others q.waiting c ++ c ∷ []) (others q.waiting c);
  flight = cond (is_in Flight to) (others q.flight c ++ c ∷ []) (others q.flight c);
  missing = cond (is_in Missing to) (others q.missing c ++ c ∷ []) (others q.missing c);
  bad = cond (is_in Bad to) (bad_others q.bad c ++ (c, damage) ∷ []) (bad_others q.bad c);
}
