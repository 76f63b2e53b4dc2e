-- Base32 without padding (RFC 4648, section 6), in upper or in lower case.
use Rattle.std.specs.Prelude.{ℕ, ◌+◌, ◌*◌, ◌/◌, ◌%◌, List, [], ◌∷◌, map, slice_index, codes}
use Rattle.std.specs.List.{flat_map}
use Rattle.mc_base.specs.declared.base32.Case.{Case}
use Rattle.mc_base.specs.declared.base32.Case.TheVariants.{Upper, Lower}

-- the 32 digits by their values
abbrev pub alphabet32 : Case → List ℕ
alphabet32 Upper = codes "ABCDEFGHIJKLMNOPQRSTUVWXYZ234567"
alphabet32 Lower = codes "abcdefghijklmnopqrstuvwxyz234567"

-- the eight bits of a byte, the most significant first
abbrev pub byte_bits : ℕ → List ℕ
byte_bits byte =
    byte / 128 ∷ byte / 64 % 2 ∷ byte / 32 % 2 ∷ byte / 16 % 2 ∷ byte / 8 % 2 ∷ byte / 4 % 2 ∷ byte / 2 % 2 ∷ byte % 2
    ∷ []

-- the number of five bits
abbrev pub five : ℕ → ℕ → ℕ → ℕ → ℕ → ℕ
five a b c d e = 16 * a + 8 * b + 4 * c + 2 * d + e

-- bits in groups of five; the last group is filled up with zeros
unfoldable pub fives : List ℕ → List ℕ
fives [] = []
fives (a ∷ []) = five a 0 0 0 0 ∷ []
fives (a ∷ b ∷ []) = five a b 0 0 0 ∷ []
fives (a ∷ b ∷ c ∷ []) = five a b c 0 0 ∷ []
fives (a ∷ b ∷ c ∷ d ∷ []) = five a b c d 0 ∷ []
fives (a ∷ b ∷ c ∷ d ∷ e ∷ bits) = five a b c d e ∷ fives bits

-- the base32 of bytes: their bits in a row, and a digit for each group of five
abbrev pub base32_of : Case → List ℕ → List ℕ
base32_of case bytes = map (slice_index (alphabet32 case)) (fives (flat_map byte_bits bytes))
