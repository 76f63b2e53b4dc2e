-- Lengths of written fields.
use Rattle.std.specs.Prelude.{ℕ, ◌+◌, ◌-◌, ◌^◌, length, min, ◌==◌, if◌then◌else◌}
use Rattle.mc_base.specs.Wire.{varint_bytes}

-- a length that may pass 64 bits
abbrev pub capped : ℕ → ℕ
capped len = min len (2 ^ 64 - 1)

-- a key of one byte, a length, and so many bytes
abbrev pub field_length : ℕ → ℕ
field_length len = 1 + length (varint_bytes len) + len

-- an empty part is left out
abbrev pub part_length : ℕ → ℕ
part_length len = if len == 0 then 0 else field_length len

abbrev pub entry_length : ℕ → ℕ → ℕ → ℕ
entry_length key id value = part_length key + part_length id + part_length value
