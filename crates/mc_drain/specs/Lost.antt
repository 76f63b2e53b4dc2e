-- Which blocks become missing or bad, where it is known of some which bytes are surely found.
use Rattle.std.specs.Prelude.{◌≡◌, ◌⊎◌, Bool, true, false, ◌||◌, ℕ, List, Option, Some, None}
use Rattle.mc_base.specs.declared.cid.Cid.{Cid}
use Rattle.mc_fetch.specs.Fits.{Map}
use Rattle.mc_model.specs.Draining.{offers_of}
use Rattle.mc_model.specs.Found.{is_found}
use Rattle.mc_model.specs.Graph.{Vertex, has, in_graph}
use Rattle.mc_model.specs.Wanted.{Queue, bad_cids}
use Rattle.mc_drain.specs.Words.{IsNoBlock}

-- whether a block is missing or bad
abbrev pub is_stuck : Cid → Queue → Bool
is_stuck c q = has c q.missing || has c (bad_cids q.bad)

-- P holds of each block that became missing or bad
abbrev pub Sticks : (Cid → Type 0) → Queue → Queue → Type 0
Sticks P q left = (c : Cid) → is_stuck c left ≡ true → (is_stuck c q ≡ true) ⊎ P c

-- of no block
abbrev pub Nobody : Cid → Type 0
Nobody c = ⊥

-- it is this block, for which no block was found
abbrev pub StuckOf : Cid → Option (List ℕ) → Cid → Type 0
StuckOf cid found c = (c ≡ cid) × IsNoBlock cid found

-- it is this block, whose own bytes are no block; or it has none, and what is surely found for it is none
abbrev pub StuckFor : Map → Cid → Option (List ℕ) → Cid → Type 0
StuckFor surely cid None c = (c ≡ cid) × (is_found (offers_of surely cid) ≡ false)
StuckFor surely cid (Some own) c = (c ≡ cid) × IsNoBlock cid (Some own)

-- what is surely found for the block is no block, and it is not among the stored ones
pub record IsLost (surely : Map) (graph : List Vertex) (c : Cid) : Type 0 where
  pub unsure : is_found (offers_of surely c) ≡ false
  pub unstored : in_graph graph c ≡ false

-- so it is with all that are missing or bad
abbrev pub AreLost : Map → List Vertex → Queue → Type 0
AreLost surely graph q = (c : Cid) → is_stuck c q ≡ true → IsLost surely graph c
