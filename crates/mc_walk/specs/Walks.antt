-- How a walk over the processed blocks goes. The pair is how many positions it visits, and the one that it visits next.
use Rattle.std.specs.Prelude.{ℕ, ◌+◌, ◌==◌, Bool, nat_lt, Option, Some, None, if◌then◌else◌}
use Rattle.mc_model.specs.State.{Walk}

-- a walk over this many positions that has visited none
abbrev pub begun : ℕ → Walk
begun length = (length, 0)

-- the position that a walk visits next, or none where all are visited
abbrev pub next_of : Walk → Option ℕ
next_of walk = if nat_lt walk.1 walk.0 then Some walk.1 else None

-- the walk after a visit
abbrev pub after_visit : Walk → Walk
after_visit walk = (walk.0, walk.1 + 1)

-- whether a walk has visited all its positions
abbrev pub is_ended : Walk → Bool
is_ended walk = walk.1 == walk.0
