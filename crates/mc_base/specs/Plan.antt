-- Planned faults: which calls of an object in memory fail, and how much one call moves.
use Rattle.std.specs.Prelude.{ℕ, ◌+◌, ◌-◌, ◌^◌, ◌==◌, min, nat_eq, Bool, List, if◌then◌else◌}
use Rattle.std.specs.List.{list_any}

-- the number of the call after so many; numbers stop at their type's end
abbrev pub next_number : ℕ → ℕ
next_number made = min (made + 1) (2 ^ 64 - 1)

-- whether the call of this number is one of those that are planned to fail
abbrev pub is_planned : List ℕ → ℕ → Bool
is_planned numbers number = list_any (nat_eq number) numbers

-- how many of the bytes that there is room for one call may move, in pieces of at most this size, 0 for no limit
abbrev pub most_moved : ℕ → ℕ → ℕ
most_moved piece room = if piece == 0 then room else min piece room
