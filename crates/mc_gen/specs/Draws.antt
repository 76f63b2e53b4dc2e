-- The draws of a script.
use Rattle.std.specs.Prelude.{ℕ, ◌+◌, ◌*◌, ◌/◌, ◌%◌, ◌^◌}

-- the number after `x`: a linear congruential generator modulo 2^64, with the factor and the increment of MMIX (D.
-- Knuth)
abbrev pub next_number : ℕ → ℕ
next_number x = (x * 6364136223846793005 + 1442695040888963407) % 2 ^ 64

-- what is drawn of a number: its upper 32 bits
abbrev pub drawn : ℕ → ℕ
drawn x = x / 2 ^ 32

-- the three numbers after `x`
abbrev pub first_after : ℕ → ℕ
first_after x = next_number x

abbrev pub second_after : ℕ → ℕ
second_after x = next_number (first_after x)

abbrev pub third_after : ℕ → ℕ
third_after x = next_number (second_after x)
