-- The five-bit groups of five bytes, by arithmetic.
use Rattle.std.proofs.Common.{◌≡◌, ℕ, ◌+◌, ◌*◌, ◌/◌, ◌%◌, ◌<◌, ◌≤◌, List, [], ◌∷◌, ◌++◌, ◌-◌, length, length-drop, append_assoc, get_or, take, drop, map, refl, arith}
use Rattle.std.proofs.lemmas.List.{take_all}
use Rattle.std.specs.List.{flat_map, slice_index}
use Rattle.mc_base.specs.Base32.{byte_bits, five, fives}

pub first_digit : (a : ℕ) → a < 256 → five (a / 128) (a / 64 % 2) (a / 32 % 2) (a / 16 % 2) (a / 8 % 2) ≡ a / 8
first_digit a fits = omega arith

pub second_digit : (a b : ℕ) → a < 256 → b < 256 → five (a / 4 % 2) (a / 2 % 2) (a % 2) (b / 128) (b / 64 % 2) ≡ a % 8 * 4 + b / 64
second_digit a b fits fits' = omega arith

pub third_digit : (b : ℕ) → five (b / 32 % 2) (b / 16 % 2) (b / 8 % 2) (b / 4 % 2) (b / 2 % 2) ≡ b / 2 % 32
third_digit b = omega arith

pub fourth_digit : (b c : ℕ) → c < 256 → five (b % 2) (c / 128) (c / 64 % 2) (c / 32 % 2) (c / 16 % 2) ≡ b % 2 * 16 + c / 16
fourth_digit b c fits = omega arith

pub fifth_digit : (c d : ℕ) → d < 256 → five (c / 8 % 2) (c / 4 % 2) (c / 2 % 2) (c % 2) (d / 128) ≡ c % 16 * 2 + d / 128
fifth_digit c d fits = omega arith

pub sixth_digit : (d : ℕ) → five (d / 64 % 2) (d / 32 % 2) (d / 16 % 2) (d / 8 % 2) (d / 4 % 2) ≡ d / 4 % 32
sixth_digit d = omega arith

pub seventh_digit : (d e : ℕ) → e < 256 → five (d / 2 % 2) (d % 2) (e / 128) (e / 64 % 2) (e / 32 % 2) ≡ d % 4 * 8 + e / 32
seventh_digit d e fits = omega arith

pub eighth_digit : (e : ℕ) → five (e / 16 % 2) (e / 8 % 2) (e / 4 % 2) (e / 2 % 2) (e % 2) ≡ e % 32
eighth_digit e = omega arith

pub group_digits : (a b c d e : ℕ) (rest : List ℕ) → a < 256 → b < 256 → c < 256 → d < 256 → e < 256
    → fives (flat_map byte_bits (a ∷ b ∷ c ∷ d ∷ e ∷ rest)) ≡ a / 8 ∷ (a % 8 * 4 + b / 64) ∷ b / 2 % 32 ∷ (b % 2 * 16 + c / 16) ∷ (c % 16 * 2 + d / 128) ∷ d / 4 % 32 ∷ (d % 4 * 8 + e / 32) ∷ e % 32 ∷ fives (flat_map byte_bits rest)
unfolding fives
group_digits a b c d e rest ha hb hc hd he =
    rw (first_digit a ha, second_digit a b ha hb, third_digit b, fourth_digit b c hc, fifth_digit c d hd, sixth_digit d, seventh_digit d e he, eighth_digit e) refl

-- no bits have no digits
pub fives_none : fives [] ≡ []
unfolding fives
fives_none = refl

-- the digits of five bytes alone, by the table, at any names of their values
pub group_by_table : (table : List ℕ) (a b c d e : ℕ) → a < 256 → b < 256 → c < 256 → d < 256 → e < 256 → (i j k l m n o p : ℕ)
    → i ≡ a / 8 → j ≡ a % 8 * 4 + b / 64 → k ≡ b / 2 % 32 → l ≡ b % 2 * 16 + c / 16 → m ≡ c % 16 * 2 + d / 128 → n ≡ d / 4 % 32 → o ≡ d % 4 * 8 + e / 32 → p ≡ e % 32
    → slice_index table i ∷ slice_index table j ∷ slice_index table k ∷ slice_index table l ∷ slice_index table m ∷ slice_index table n ∷ slice_index table o ∷ slice_index table p ∷ [] ≡ map (slice_index table) (fives (flat_map byte_bits (a ∷ b ∷ c ∷ d ∷ e ∷ [])))
group_by_table table a b c d e ha hb hc hd he i j k l m n o p h0 h1 h2 h3 h4 h5 h6 h7 =
    rw (group_digits a b c d e [] ha hb hc hd he, fives_none, h0, h1, h2, h3, h4, h5, h6, h7) refl

-- the digits of bytes by a table
abbrev pub digits : List ℕ → List ℕ → List ℕ
digits table bytes = map (slice_index table) (fives (flat_map byte_bits bytes))

-- the digits of the first five bytes, and then those of the rest
pub digits_step : (table bytes : List ℕ) → 5 ≤ length bytes
    → digits table bytes ≡ digits table (get_or bytes 0 0 ∷ get_or bytes 1 0 ∷ get_or bytes 2 0 ∷ get_or bytes 3 0 ∷ get_or bytes 4 0 ∷ []) ++ digits table (drop 5 bytes)
unfolding fives
digits_step table [] len = absurd (omega arith)
digits_step table (a ∷ []) len = absurd (omega arith)
digits_step table (a ∷ b ∷ []) len = absurd (omega arith)
digits_step table (a ∷ b ∷ c ∷ []) len = absurd (omega arith)
digits_step table (a ∷ b ∷ c ∷ d ∷ []) len = absurd (omega arith)
digits_step table (a ∷ b ∷ c ∷ d ∷ e ∷ bytes) len = refl

-- fewer bytes than five: the first digits of the bytes filled up with zeros
pub digits_of_none : (table bytes : List ℕ) → length bytes ≡ 0 → [] ≡ digits table bytes
unfolding fives
digits_of_none table [] len = refl
digits_of_none table (a ∷ bytes) len = absurd (omega arith)

pub digits_of_one : (table bytes : List ℕ) → length bytes ≡ 1 → take 2 (digits table (get_or bytes 0 0 ∷ 0 ∷ 0 ∷ 0 ∷ 0 ∷ [])) ≡ digits table bytes
unfolding fives
digits_of_one table [] len = absurd (omega arith)
digits_of_one table (a ∷ []) len = refl
digits_of_one table (a ∷ b ∷ bytes) len = absurd (omega arith)

pub digits_of_two : (table bytes : List ℕ) → length bytes ≡ 2 → take 4 (digits table (get_or bytes 0 0 ∷ get_or bytes 1 0 ∷ 0 ∷ 0 ∷ 0 ∷ [])) ≡ digits table bytes
unfolding fives
digits_of_two table [] len = absurd (omega arith)
digits_of_two table (a ∷ []) len = absurd (omega arith)
digits_of_two table (a ∷ b ∷ []) len = refl
digits_of_two table (a ∷ b ∷ c ∷ bytes) len = absurd (omega arith)

pub digits_of_three : (table bytes : List ℕ) → length bytes ≡ 3 → take 5 (digits table (get_or bytes 0 0 ∷ get_or bytes 1 0 ∷ get_or bytes 2 0 ∷ 0 ∷ 0 ∷ [])) ≡ digits table bytes
unfolding fives
digits_of_three table [] len = absurd (omega arith)
digits_of_three table (a ∷ []) len = absurd (omega arith)
digits_of_three table (a ∷ b ∷ []) len = absurd (omega arith)
digits_of_three table (a ∷ b ∷ c ∷ []) len = refl
digits_of_three table (a ∷ b ∷ c ∷ d ∷ bytes) len = absurd (omega arith)

pub digits_of_four : (table bytes : List ℕ) → length bytes ≡ 4 → take 7 (digits table (get_or bytes 0 0 ∷ get_or bytes 1 0 ∷ get_or bytes 2 0 ∷ get_or bytes 3 0 ∷ 0 ∷ [])) ≡ digits table bytes
unfolding fives
digits_of_four table [] len = absurd (omega arith)
digits_of_four table (a ∷ []) len = absurd (omega arith)
digits_of_four table (a ∷ b ∷ []) len = absurd (omega arith)
digits_of_four table (a ∷ b ∷ c ∷ []) len = absurd (omega arith)
digits_of_four table (a ∷ b ∷ c ∷ d ∷ []) len = refl
digits_of_four table (a ∷ b ∷ c ∷ d ∷ e ∷ bytes) len = absurd (omega arith)

-- five more bytes are written
pub push_step : (table text rest group new target : List ℕ) → 5 ≤ length rest → new ≡ text ++ group
    → group ≡ digits table (get_or rest 0 0 ∷ get_or rest 1 0 ∷ get_or rest 2 0 ∷ get_or rest 3 0 ∷ get_or rest 4 0 ∷ [])
    → text ++ digits table rest ≡ target
    → new ++ digits table (take (length rest - 5) (drop 5 rest)) ≡ target
push_step table text rest group new target len added is before =
    let whole = take_all (length rest - 5) (drop 5 rest) (omega (arith, length-drop 5 rest)) in
    rw (whole, added, is, append_assoc, ← digits_step table rest len) before

-- a byte has eight bits
pub bits_length : (bytes : List ℕ) → length (flat_map byte_bits bytes) ≡ 8 * length bytes
bits_length [] = refl
bits_length (byte ∷ bytes) = let rest = bits_length bytes in omega arith
