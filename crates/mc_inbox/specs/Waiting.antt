-- What an inbox stands for.
use Rattle.std.specs.Prelude.{ℕ, List, [], ◌∷◌, ◌++◌, Option, Some, None}
use Rattle.mc_block.specs.declared.verified.Verified.{Verified}
use Rattle.mc_model.specs.declared.block.Stored.{Stored}

-- the blocks that wait, and how many there is room for, those among them
pub record Waiting : Type 0 where
  pub items : List Stored
  pub room : ℕ

-- a verified block as its bytes under its identifier
abbrev pub as_stored : Verified → Stored
as_stored item = record { cid = item.cid; bytes = item.bytes }

-- the first of them
abbrev pub first_of : List Stored → Option Stored
first_of [] = None
first_of (item ∷ items) = Some item

-- the first comes to the back
abbrev pub turned : List Stored → List Stored
turned [] = []
turned (item ∷ items) = items ++ item ∷ []
