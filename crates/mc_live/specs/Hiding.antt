-- The tombstones of blocks, put in one after another.
use Rattle.std.specs.Prelude.{ℕ, Bool, ◌||◌, List}
use Rattle.mc_model.specs.declared.delta.Tomb.{Tomb}
use Rattle.mc_model.specs.Live.{is_tomb}

-- whether a tombstone is there with one more
abbrev pub with_tomb : List ℕ → List ℕ → Bool → Tomb → Bool
with_tomb key id there row = is_tomb key id row || there
