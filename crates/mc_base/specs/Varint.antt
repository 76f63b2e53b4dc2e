-- The unsigned varint of Multiformats (unsigned-varint specification): minimal, and at most nine bytes.
use Rattle.std.specs.Prelude.{◌≡◌, ◌+◌, ◌*◌, ◌<◌, ◌≤◌, ◌==◌, ◌&&◌, nat_le, nat_lt, if◌then◌else◌, ℕ, List, [], ◌∷◌}
use Rattle.std.specs.Prelude.{◌++◌, length, slice_index, Option, None, Some}
use Rattle.mc_base.specs.declared.varint.VarintFault.{VarintFault}
use Rattle.mc_base.specs.declared.varint.VarintFault.TheVariants.{Short, Long, NotMinimal}

-- Base 128, the least significant group first. A byte below 128 is the last, and stands for itself. One from 128 on has
-- the low seven bits, and the bytes after it stand for the rest, which isn't 0: so each number has one spelling.
abbrev pub IsBase128 : List ℕ → ℕ → Type 0
IsBase128 [] value = ⊥
IsBase128 (byte ∷ []) value = (byte < 128) × (value ≡ byte)
IsBase128 (byte ∷ next ∷ bytes) value =
    (128 ≤ byte) × (byte < 256) × (high : ℕ) × (0 < high) × (value + 128 ≡ byte + 128 * high)
    × IsBase128 (next ∷ bytes) high

-- these bytes are the varint of this value
pub record IsUnsignedVarint (bytes : List ℕ) (value : ℕ) : Type 0 where
  pub spelled : IsBase128 bytes value
  pub size : length bytes ≤ 9

-- new is old with the varint of the value at its end
abbrev pub AppendsVarint : List ℕ → List ℕ → ℕ → Type 0
AppendsVarint old new value = (bytes : List ℕ) × IsUnsignedVarint bytes value × (new ≡ old ++ bytes)

-- how many bytes with the high bit come first
abbrev pub high_run : List ℕ → ℕ
high_run [] = 0
high_run (byte ∷ bytes) = if nat_lt byte 128 then 0 else high_run bytes + 1

-- the fault of bytes that don't begin with a varint: the first nine all have the high bit; or the input ends before a
-- byte without it; or the first such byte is 0 and isn't the first of all
abbrev pub varint_fault : List ℕ → Option VarintFault
varint_fault bytes =
    if nat_le 9 (high_run bytes) then Some Long
    else if high_run bytes == length bytes then Some Short
    else if nat_lt 0 (high_run bytes) && (slice_index bytes (high_run bytes) == 0) then Some NotMinimal
    else None

-- no spelling is the beginning of another, so each value has one spelling, and bytes may follow it
abbrev pub OneSpelling : Type 0
OneSpelling =
    (first second after other : List ℕ) (one two : ℕ) → IsUnsignedVarint first one → IsUnsignedVarint second two →
    first ++ after ≡ second ++ other → (first ≡ second) × (one ≡ two)
