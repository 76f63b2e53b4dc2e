-- What the tables of a batch stand for.
use Rattle.std.specs.Prelude.{◌≢◌, ℕ, List, [], map}
use Rattle.std.specs.Global.{Global}
use Rattle.std.specs.declared.string.String.{String}
use Rattle.std.specs.String.{string_bytes}
use Rattle.std.specs.List.{flat_map, AllByRecursion}
use Rattle.std.specs.List.Sorted.{IsStrictlySortedBy}
use Rattle.std.specs.declared.cmp.Ordering.{Ordering}
use Rattle.std.specs.Ordering.{nat_cmp}
use Rattle.std.specs.Cmp.Lexicographic.{slice_cmp}
use Rattle.mc_base.specs.declared.cid.Cid.{Cid}
use Rattle.mc_model.specs.declared.delta.Element.{Element}
use Rattle.mc_model.specs.Batch.{Deleted}

-- a key with its value
abbrev pub Put : Type 0
Put = String Global × List ℕ

-- a key with the blocks whose elements of it are deleted
abbrev pub Dropped : Type 0
Dropped = String Global × List Cid

abbrev pub element_in : Put → Element
element_in entry = record { key = string_bytes entry.0; value = entry.1 }

abbrev pub elements_in : List Put → List Element
elements_in entries = map element_in entries

abbrev pub deleted_of : Dropped → List Deleted
deleted_of entry = map (λ (cid : Cid). (string_bytes entry.0, cid)) entry.1

abbrev pub deleted_in : List Dropped → List Deleted
deleted_in entries = flat_map deleted_of entries

abbrev pub cid_cmp : Cid → Cid → Ordering
cid_cmp a b = slice_cmp nat_cmp a.0 b.0

-- each key has at least one block, and its blocks ascend
abbrev pub AreHeld : List Dropped → Type 0
AreHeld entries = AllByRecursion (λ (entry : Dropped). IsStrictlySortedBy cid_cmp entry.1 × (entry.1 ≢ [])) entries
