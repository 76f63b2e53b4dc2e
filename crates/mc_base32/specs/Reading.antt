-- Reading base32 without padding (RFC 4648, section 6), in upper or in lower case.
use Rattle.std.specs.Prelude.{◌≡◌, ℕ, ◌+◌, ◌-◌, ◌*◌, ◌/◌, ◌%◌, ◌<◌, ◌==◌, ◌&&◌, ◌||◌, nat_le, nat_lt, if◌then◌else◌}
use Rattle.std.specs.Prelude.{Bool, List, [], ◌∷◌, ◌++◌, length, map, All, Option, None, Some, Result, Ok, Err, ⊤}
use Rattle.std.specs.List.{flat_map, list_all}
use Rattle.mc_base.specs.Base32.{base32_of}
use Rattle.mc_base.specs.declared.base32.Case.{Case}
use Rattle.mc_base.specs.declared.base32.Case.TheVariants.{Upper, Lower}
use Rattle.mc_base32.specs.declared.fault.Base32Fault.{Base32Fault}
use Rattle.mc_base32.specs.declared.fault.Base32Fault.TheVariants.{BadChar, BadLength, TailBits}
use Rattle.mc_base32.specs.declared.fault.Base32Error.{Base32Error}
use Rattle.mc_base32.specs.declared.fault.Base32Error.TheVariants.{Memory, Fault}

-- the letter of the value 0
abbrev pub first_letter : Case → ℕ
first_letter Upper = 65
first_letter Lower = 97

-- whether a byte is a digit: a letter of that case, or 2 to 7
abbrev pub is_digit32 : Case → ℕ → Bool
is_digit32 case byte =
    (nat_le (first_letter case) byte && nat_lt byte (first_letter case + 26)) || (nat_le 50 byte && nat_lt byte 56)

-- the value of a digit: the letters stand for 0 to 25, and 2 to 7 for 26 to 31
abbrev pub digit_value : Case → ℕ → ℕ
digit_value case byte = if nat_lt byte 56 then byte - 24 else byte - first_letter case

-- the place of the first byte that is no digit, counted from `at`
abbrev pub first_bad : Case → ℕ → List ℕ → Option ℕ
first_bad case at [] = None
first_bad case at (byte ∷ text) = if is_digit32 case byte then first_bad case (at + 1) text else Some at

-- the five bits of a value, the most significant first
abbrev pub five_bits : ℕ → List ℕ
five_bits value = value / 16 ∷ value / 8 % 2 ∷ value / 4 % 2 ∷ value / 2 % 2 ∷ value % 2 ∷ []

-- the bits of the digits of a text
abbrev pub text_bits : Case → List ℕ → List ℕ
text_bits case text = flat_map five_bits (map (digit_value case) text)

-- the number of eight bits
abbrev pub eight : ℕ → ℕ → ℕ → ℕ → ℕ → ℕ → ℕ → ℕ → ℕ
eight a b c d e f g h = 128 * a + 64 * b + 32 * c + 16 * d + 8 * e + 4 * f + 2 * g + h

-- the bytes of bits in groups of eight
unfoldable pub eights : List ℕ → List ℕ
eights (a ∷ b ∷ c ∷ d ∷ e ∷ f ∷ g ∷ h ∷ bits) = eight a b c d e f g h ∷ eights bits
eights bits = []

-- the bits after the last whole byte
unfoldable pub unused : List ℕ → List ℕ
unused (a ∷ b ∷ c ∷ d ∷ e ∷ f ∷ g ∷ h ∷ bits) = unused bits
unused bits = bits

-- whether no number of bytes has so many digits, modulo 8
abbrev pub is_cut : ℕ → Bool
is_cut length = (length == 1) || (length == 3) || (length == 6)

-- what digits spell, or the first fault: by the place of the first byte that is no digit, then the length, then the
-- unused bits
abbrev pub reading32 : Case → Option ℕ → List ℕ → Result (List ℕ) Base32Fault
reading32 case (Some at) text = Err (BadChar at)
reading32 case None text =
    if is_cut (length text % 8) then Err BadLength
    else if list_all (λ bit. bit == 0) (unused (text_bits case text)) then Ok (eights (text_bits case text))
    else Err TailBits

-- the bytes of a base32 text, or the first fault, with places counted from `at`
abbrev pub decode32_from : Case → ℕ → List ℕ → Result (List ℕ) Base32Fault
decode32_from case at text = reading32 case (first_bad case at text) text

-- the bytes of a base32 text, or the first fault
abbrev pub decode32 : Case → List ℕ → Result (List ℕ) Base32Fault
decode32 case text = decode32_from case 0 text

-- what is read, after other bytes
abbrev pub after : List ℕ → Result (List ℕ) Base32Fault → Result (List ℕ) Base32Fault
after front (Ok bytes) = Ok (front ++ bytes)
after front (Err fault) = Err fault

-- an error is the fault of what was read, or want of memory
abbrev pub IsFaultOf : {A : Type 0} → Base32Error → Result A Base32Fault → Type 0
IsFaultOf Memory reading = ⊤
IsFaultOf (Fault fault) reading = reading ≡ Err fault

-- a fault that names the place found
abbrev pub IsBadChar : Base32Fault → Option ℕ → Type 0
IsBadChar (BadChar at) found = found ≡ Some at
IsBadChar BadLength found = ⊥
IsBadChar TailBits found = ⊥

-- the number whose digits to the base 32 these are, after those of `front`
abbrev pub number32 : ℕ → List ℕ → ℕ
number32 front [] = front
number32 front (value ∷ values) = number32 (front * 32 + value) values

-- what was written is read again
abbrev pub IsReadAgain : Type 0
IsReadAgain =
    (case : Case) (bytes : List ℕ) → All (λ byte. byte < 256) bytes → decode32 case (base32_of case bytes) ≡ Ok bytes

-- only what is written for some bytes is read as these bytes, so they have one text
abbrev pub IsOneText : Type 0
IsOneText = (case : Case) (text bytes : List ℕ) → decode32 case text ≡ Ok bytes → text ≡ base32_of case bytes
