-- A sound mark, in a form that has one proof at most.
use Rattle.std.specs.Prelude.{◌≡◌, true, false, Option, Some}
use Rattle.mc_model.specs.Graph.{no_gaps}
use Rattle.mc_model.specs.Kept.{Kept}
use Rattle.mc_model.specs.State.{durable_of}

-- where a clear mark is told there is no gap
abbrev pub IsMarked : Option Kept → Type 0
IsMarked told = (kept : Kept) → told ≡ Some kept → kept.mark ≡ false
    → no_gaps (durable_of kept).graph kept.order ≡ true
