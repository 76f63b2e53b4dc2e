-- Digits by the table, and their values.
use Rattle.std.proofs.Common.{◌≡◌, ℕ, zero, suc, ◌+◌, ◌<◌, inl, inr, Bool, true, refl, ◌∙◌, arith}
use Rattle.std.specs.Prelude.{◌==◌, ◌&&◌, nat_lt, if◌then◌else◌}
use Rattle.std.specs.List.{slice_index}
use Rattle.std.proofs.lemmas.Bool.{and_parts, cases_lt, eqb-true}
use Rattle.std.proofs.lemmas.Bool.Decides.{nat_tests}
use Rattle.mc_base.specs.Base32.{alphabet32}
use Rattle.mc_base.specs.declared.base32.Case.{Case}
use Rattle.mc_base.specs.declared.base32.Case.TheVariants.{Upper, Lower}
use Rattle.mc_base32.specs.Reading.{digit_value, first_letter, is_digit32}

-- the test of one value, which computes
abbrev reads_back : Case → ℕ → Bool
reads_back case v = is_digit32 case (slice_index (alphabet32 case) v) && (digit_value case (slice_index (alphabet32 case) v) == v)

-- the test of the values below n
abbrev all_read_back : Case → ℕ → Bool
all_read_back case zero = true
all_read_back case (suc n) = reads_back case n && all_read_back case n

read_back_at : (case : Case) (n v : ℕ) → all_read_back case n ≡ true → v < n → reads_back case v ≡ true
read_back_at case zero v h lt = absurd (omega arith)
read_back_at case (suc n) v h lt =
    let parts = and_parts (reads_back case n) (all_read_back case n) h in
    elim (cases_lt v n) [
      | inl below ↦ read_back_at case n v parts.1 below
      | inr top ↦ let e : v ≡ n = omega arith in rw e parts.0
    ]

all_back : (case : Case) → all_read_back case 32 ≡ true
all_back Upper = refl
all_back Lower = refl

-- a digit by the table is a digit of its value
pub digit_of_value : (case : Case) (v : ℕ) → v < 32 → (is_digit32 case (slice_index (alphabet32 case) v) ≡ true) × (digit_value case (slice_index (alphabet32 case) v) ≡ v)
digit_of_value case v h =
    let parts = and_parts (is_digit32 case (slice_index (alphabet32 case) v)) (digit_value case (slice_index (alphabet32 case) v) == v) (read_back_at case 32 v (all_back case) h) in
    (parts.0, eqb-true (digit_value case (slice_index (alphabet32 case) v)) v parts.1)

-- the digits of a table, as letters and figures
abbrev as_letter : Case → ℕ → Bool
as_letter case v = slice_index (alphabet32 case) v == (if nat_lt v 26 then first_letter case + v else v + 24)

abbrev all_letters : Case → ℕ → Bool
all_letters case zero = true
all_letters case (suc n) = as_letter case n && all_letters case n

letter_at : (case : Case) (n v : ℕ) → all_letters case n ≡ true → v < n → as_letter case v ≡ true
letter_at case zero v h lt = absurd (omega arith)
letter_at case (suc n) v h lt =
    let parts = and_parts (as_letter case n) (all_letters case n) h in
    elim (cases_lt v n) [
      | inl below ↦ letter_at case n v parts.1 below
      | inr top ↦ let e : v ≡ n = omega arith in rw e parts.0
    ]

letters : (case : Case) → all_letters case 32 ≡ true
letters Upper = refl
letters Lower = refl

letter_is : (case : Case) (v : ℕ) → v < 32 → slice_index (alphabet32 case) v ≡ (if nat_lt v 26 then first_letter case + v else v + 24)
letter_is case v h = eqb-true (slice_index (alphabet32 case) v) (if nat_lt v 26 then first_letter case + v else v + 24) (letter_at case 32 v (letters case) h)

byte_of_letter : (case : Case) (byte : ℕ) → is_digit32 case byte ≡ true → (digit_value case byte < 32) × ((if nat_lt (digit_value case byte) 26 then first_letter case + digit_value case byte else digit_value case byte + 24) ≡ byte)
byte_of_letter Upper byte h = (grind (arith, nat_tests), grind (arith, nat_tests))
byte_of_letter Lower byte h = (grind (arith, nat_tests), grind (arith, nat_tests))

-- the digit of a digit's value is that digit
pub value_of_digit : (case : Case) (byte : ℕ) → is_digit32 case byte ≡ true → slice_index (alphabet32 case) (digit_value case byte) ≡ byte
value_of_digit case byte h =
    let both = byte_of_letter case byte h in
    letter_is case (digit_value case byte) both.0 ∙ both.1
