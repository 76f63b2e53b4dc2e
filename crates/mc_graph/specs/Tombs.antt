-- The table of tombstones, with one row more.
use Rattle.std.specs.Prelude.{ℕ, Bool, ◌||◌, List}
use Rattle.mc_keep.specs.declared.rows.TombRow.{TombRow}
use Rattle.mc_keep.specs.Changes.{is_tomb_row}

-- whether a tombstone is there with one more
abbrev pub with_tomb : List ℕ → List ℕ → Bool → TombRow → Bool
with_tomb key id there row = is_tomb_row key id row || there
