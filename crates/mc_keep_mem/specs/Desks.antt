-- The counts of desks.
use Rattle.std.specs.Prelude.{ℕ, ◌+◌, ◌-◌, ◌^◌, min}
use Rattle.mc_keep_mem.specs.declared.plan.MemDesk.{MemDesk}

-- a count with that of one desk more
abbrev pub counted_with : ℕ → MemDesk → ℕ
counted_with count desk = min (count + desk.faults) (2 ^ 64 - 1)
