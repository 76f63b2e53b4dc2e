-- The rows that a query has read ahead.
use Rattle.std.specs.Prelude.{◌≡◌, ℕ, Bool, List, [], length, None}
use Rattle.mc_model.specs.declared.block.Block.{Block}
use Rattle.mc_keep.specs.declared.rows.ValueRow.{ValueRow}
use Rattle.mc_keep.specs.Next.{IsNext, AreNext}

-- the rows are those of the next keys past a bound; others may come after them
abbrev pub AreAhead : List Block → List ℕ → Bool → List ValueRow → Type 0
AreAhead blocks bound inclusive rows = AreNext blocks bound inclusive (length rows) rows

-- so they are, and there is at least one where a key past the bound has a value
pub record AreMore (blocks : List Block) (bound : List ℕ) (inclusive : Bool) (rows : List ValueRow) : Type 0 where
  pub ahead : AreAhead blocks bound inclusive rows
  pub ended : rows ≡ [] → IsNext blocks bound inclusive None
