-- The parts of the wanted set, each of which is one of the four lists.
use Rattle.std.specs.Prelude.{ℕ, Bool, true, false, List, [], ◌∷◌, Option, Some, None}
use Rattle.mc_base.specs.declared.cid.Cid.{Cid}
use Rattle.mc_queue.specs.declared.part.Part.{Part}
use Rattle.mc_queue.specs.declared.part.Part.TheVariants.{Waiting, Flight, Missing, Bad}

abbrev pub same_part : Part → Part → Bool
same_part Waiting Waiting = true
same_part Flight Flight = true
same_part Missing Missing = true
same_part Bad Bad = true
same_part a b = false

-- whether what is in the other part, if in any, is in this one
abbrev pub is_in : Part → Option Part → Bool
is_in part None = false
is_in part (Some other) = same_part other part

-- the number of the list of a part
abbrev pub list_of : Part → ℕ
list_of Waiting = 0
list_of Flight = 1
list_of Missing = 2
list_of Bad = 3

abbrev pub first_of : List Cid → Option Cid
first_of [] = None
first_of (c ∷ cids) = Some c
