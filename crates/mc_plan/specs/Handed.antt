-- The changes that store blocks.
use Rattle.std.specs.Prelude.{List, [], ◌∷◌, Option, Some, None}
use Rattle.mc_model.specs.declared.block.Stored.{Stored}
use Rattle.mc_keep.specs.declared.changes.Changes.{Changes}
use Rattle.mc_keep.specs.Changes.{no_changes}

-- the changes that store these blocks, or none where there are none
abbrev pub stored_by : List Stored → Option Changes
stored_by [] = None
stored_by (block ∷ blocks) = Some (record no_changes { store = block ∷ blocks })
