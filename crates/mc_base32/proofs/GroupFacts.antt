-- The bytes of a group of digits, by arithmetic.
use Rattle.std.proofs.Common.{◌≡◌, ◌≢◌, ℕ, zero, suc, ◌+◌, ◌-◌, ◌*◌, ◌/◌, ◌%◌, ◌^◌, ◌<◌, ◌≤◌, Bool, true, false, List, [], ◌∷◌, length, get_or, take, drop, map, Option, None, Some, Ok, Err, length-drop, refl, sym, ap, ◌∙◌, arith}
use Rattle.std.specs.Prelude.{◌==◌, if◌then◌else◌}
use Rattle.std.specs.List.{flat_map, list_all, AllByRecursion}
use Rattle.std.specs.Int.{to_be_bytes, w64}
use Rattle.std.proofs.lemmas.Bool.Decides.{nat_tests}
use Rattle.std.proofs.Math.Pow.{pow_mono}
use Rattle.std.proofs.lemmas.List.{length-map, take_all}
use Rattle.std.proofs.lemmas.Bool.{eq-eqb, ne_eqb}
use Rattle.std.proofs.lemmas.Nat.{be_bytes_8}
use Rattle.mc_base.specs.declared.base32.Case.{Case}
use Rattle.mc_base.specs.declared.base32.Case.TheVariants.{Upper, Lower}
use Rattle.mc_base32.specs.declared.fault.Base32Fault.TheVariants.{BadLength, TailBits}
use Rattle.mc_base32.specs.Reading.{decode32_from, digit_value, eight, eights, first_bad, five_bits, is_cut, is_digit32, number32, unused}

-- the bytes of the bits of eight values
first_byte : (a b : ℕ) → a < 32 → b < 32 → eight (a / 16) (a / 8 % 2) (a / 4 % 2) (a / 2 % 2) (a % 2) (b / 16) (b / 8 % 2) (b / 4 % 2) ≡ a * 8 + b / 4
first_byte a b ha hb = omega arith

second_byte : (b c d : ℕ) → c < 32 → d < 32 → eight (b / 2 % 2) (b % 2) (c / 16) (c / 8 % 2) (c / 4 % 2) (c / 2 % 2) (c % 2) (d / 16) ≡ b % 4 * 64 + c * 2 + d / 16
second_byte b c d hc hd = omega arith

third_byte : (d e : ℕ) → e < 32 → eight (d / 8 % 2) (d / 4 % 2) (d / 2 % 2) (d % 2) (e / 16) (e / 8 % 2) (e / 4 % 2) (e / 2 % 2) ≡ d % 16 * 16 + e / 2
third_byte d e he = omega arith

fourth_byte : (e f g : ℕ) → f < 32 → g < 32 → eight (e % 2) (f / 16) (f / 8 % 2) (f / 4 % 2) (f / 2 % 2) (f % 2) (g / 16) (g / 8 % 2) ≡ e % 2 * 128 + f * 4 + g / 8
fourth_byte e f g hf hg = omega arith

fifth_byte : (g h : ℕ) → h < 32 → eight (g / 4 % 2) (g / 2 % 2) (g % 2) (h / 16) (h / 8 % 2) (h / 4 % 2) (h / 2 % 2) (h % 2) ≡ g % 8 * 32 + h
fifth_byte g h hh = omega arith

-- eight bytes of a number by their values
bounded : (a b c d e f g h : ℕ) → a < 256 → b < 256 → c < 256 → d < 256 → e < 256 → f < 256 → g < 256 → h < 256 → (i : ℕ) → get_or (a ∷ b ∷ c ∷ d ∷ e ∷ f ∷ g ∷ h ∷ []) i 0 < 256
bounded a b c d e f g h ha hb hc hd he hf hg hh zero = ha
bounded a b c d e f g h ha hb hc hd he hf hg hh (suc zero) = hb
bounded a b c d e f g h ha hb hc hd he hf hg hh (suc (suc zero)) = hc
bounded a b c d e f g h ha hb hc hd he hf hg hh (suc (suc (suc zero))) = hd
bounded a b c d e f g h ha hb hc hd he hf hg hh (suc (suc (suc (suc zero)))) = he
bounded a b c d e f g h ha hb hc hd he hf hg hh (suc (suc (suc (suc (suc zero))))) = hf
bounded a b c d e f g h ha hb hc hd he hf hg hh (suc (suc (suc (suc (suc (suc zero)))))) = hg
bounded a b c d e f g h ha hb hc hd he hf hg hh (suc (suc (suc (suc (suc (suc (suc zero))))))) = hh
bounded a b c d e f g h ha hb hc hd he hf hg hh (suc (suc (suc (suc (suc (suc (suc (suc i)))))))) = omega arith

bytes_are : (n d e f g h : ℕ) → d < 256 → e < 256 → f < 256 → g < 256 → h < 256 → n ≡ d * 4294967296 + e * 16777216 + f * 65536 + g * 256 + h
    → to_be_bytes w64 n ≡ 0 ∷ 0 ∷ 0 ∷ d ∷ e ∷ f ∷ g ∷ h ∷ []
bytes_are n d e f g h hd he hf hg hh is = be_bytes_8 (0 ∷ 0 ∷ 0 ∷ d ∷ e ∷ f ∷ g ∷ h ∷ []) n refl (bounded 0 0 0 d e f g h (omega arith) (omega arith) (omega arith) hd he hf hg hh) (omega arith)

-- the bytes and the unused bits of values are those of their number
pub record IsGroup (values : List ℕ) : Type 0 where
  pub bytes : drop (8 - length values * 5 / 8) (to_be_bytes w64 (number32 0 values / 2 ^ (length values * 5 % 8))) ≡ eights (flat_map five_bits values)
  pub zeros : list_all (λ bit. bit == 0) (unused (flat_map five_bits values)) ≡ (number32 0 values % 2 ^ (length values * 5 % 8) == 0)

group_of_eight : (a b c d e f g h : ℕ) → a < 32 → b < 32 → c < 32 → d < 32 → e < 32 → f < 32 → g < 32 → h < 32 → IsGroup (a ∷ b ∷ c ∷ d ∷ e ∷ f ∷ g ∷ h ∷ [])
unfolding eights unused
group_of_eight a b c d e f g h ha hb hc hd he hf hg hh = record {
  bytes = ap (λ (bytes : List ℕ). drop 3 bytes) (bytes_are (number32 0 (a ∷ b ∷ c ∷ d ∷ e ∷ f ∷ g ∷ h ∷ []) / 1) (a * 8 + b / 4) (b % 4 * 64 + c * 2 + d / 16) (d % 16 * 16 + e / 2) (e % 2 * 128 + f * 4 + g / 8) (g % 8 * 32 + h) (omega arith) (omega arith) (omega arith) (omega arith) (omega arith) (omega arith)) ∙ same;
  zeros = grind (arith, nat_tests);
}
  where
    same : (a * 8 + b / 4) ∷ (b % 4 * 64 + c * 2 + d / 16) ∷ (d % 16 * 16 + e / 2) ∷ (e % 2 * 128 + f * 4 + g / 8) ∷ (g % 8 * 32 + h) ∷ [] ≡ eights (flat_map five_bits (a ∷ b ∷ c ∷ d ∷ e ∷ f ∷ g ∷ h ∷ []))
    same = rw (first_byte a b ha hb, second_byte b c d hc hd, third_byte d e he, fourth_byte e f g hf hg, fifth_byte g h hh) refl

group_of_seven : (a b c d e f g : ℕ) → a < 32 → b < 32 → c < 32 → d < 32 → e < 32 → f < 32 → g < 32 → IsGroup (a ∷ b ∷ c ∷ d ∷ e ∷ f ∷ g ∷ [])
unfolding eights unused
group_of_seven a b c d e f g ha hb hc hd he hf hg = record {
  bytes = ap (λ (bytes : List ℕ). drop 4 bytes) (bytes_are (number32 0 (a ∷ b ∷ c ∷ d ∷ e ∷ f ∷ g ∷ []) / 8) 0 (a * 8 + b / 4) (b % 4 * 64 + c * 2 + d / 16) (d % 16 * 16 + e / 2) (e % 2 * 128 + f * 4 + g / 8) (omega arith) (omega arith) (omega arith) (omega arith) (omega arith) (omega arith)) ∙ same;
  zeros = grind (arith, nat_tests);
}
  where
    same : (a * 8 + b / 4) ∷ (b % 4 * 64 + c * 2 + d / 16) ∷ (d % 16 * 16 + e / 2) ∷ (e % 2 * 128 + f * 4 + g / 8) ∷ [] ≡ eights (flat_map five_bits (a ∷ b ∷ c ∷ d ∷ e ∷ f ∷ g ∷ []))
    same = rw (first_byte a b ha hb, second_byte b c d hc hd, third_byte d e he, fourth_byte e f g hf hg) refl

group_of_five : (a b c d e : ℕ) → a < 32 → b < 32 → c < 32 → d < 32 → e < 32 → IsGroup (a ∷ b ∷ c ∷ d ∷ e ∷ [])
unfolding eights unused
group_of_five a b c d e ha hb hc hd he = record {
  bytes = ap (λ (bytes : List ℕ). drop 5 bytes) (bytes_are (number32 0 (a ∷ b ∷ c ∷ d ∷ e ∷ []) / 2) 0 0 (a * 8 + b / 4) (b % 4 * 64 + c * 2 + d / 16) (d % 16 * 16 + e / 2) (omega arith) (omega arith) (omega arith) (omega arith) (omega arith) (omega arith)) ∙ same;
  zeros = grind (arith, nat_tests);
}
  where
    same : (a * 8 + b / 4) ∷ (b % 4 * 64 + c * 2 + d / 16) ∷ (d % 16 * 16 + e / 2) ∷ [] ≡ eights (flat_map five_bits (a ∷ b ∷ c ∷ d ∷ e ∷ []))
    same = rw (first_byte a b ha hb, second_byte b c d hc hd, third_byte d e he) refl

group_of_four : (a b c d : ℕ) → a < 32 → b < 32 → c < 32 → d < 32 → IsGroup (a ∷ b ∷ c ∷ d ∷ [])
unfolding eights unused
group_of_four a b c d ha hb hc hd = record {
  bytes = ap (λ (bytes : List ℕ). drop 6 bytes) (bytes_are (number32 0 (a ∷ b ∷ c ∷ d ∷ []) / 16) 0 0 0 (a * 8 + b / 4) (b % 4 * 64 + c * 2 + d / 16) (omega arith) (omega arith) (omega arith) (omega arith) (omega arith) (omega arith)) ∙ same;
  zeros = grind (arith, nat_tests);
}
  where
    same : (a * 8 + b / 4) ∷ (b % 4 * 64 + c * 2 + d / 16) ∷ [] ≡ eights (flat_map five_bits (a ∷ b ∷ c ∷ d ∷ []))
    same = rw (first_byte a b ha hb, second_byte b c d hc hd) refl

group_of_two : (a b : ℕ) → a < 32 → b < 32 → IsGroup (a ∷ b ∷ [])
unfolding eights unused
group_of_two a b ha hb = record {
  bytes = ap (λ (bytes : List ℕ). drop 7 bytes) (bytes_are (number32 0 (a ∷ b ∷ []) / 4) 0 0 0 0 (a * 8 + b / 4) (omega arith) (omega arith) (omega arith) (omega arith) (omega arith) (omega arith)) ∙ same;
  zeros = grind (arith, nat_tests);
}
  where
    same : (a * 8 + b / 4) ∷ [] ≡ eights (flat_map five_bits (a ∷ b ∷ []))
    same = rw (first_byte a b ha hb) refl

group_of_none : IsGroup []
unfolding eights unused
group_of_none = record { bytes = refl; zeros = refl }

-- the values of up to eight digits, of a number that bytes can have
pub group_of : (values : List ℕ) → AllByRecursion (λ value. value < 32) values → length values ≤ 8 → length values ≢ 1 → length values ≢ 3 → length values ≢ 6 → IsGroup values
group_of [] small size h1 h3 h6 = group_of_none
group_of (a ∷ []) small size h1 h3 h6 = absurd (h1 refl)
group_of (a ∷ b ∷ []) small size h1 h3 h6 = group_of_two a b small.0 small.1.0
group_of (a ∷ b ∷ c ∷ []) small size h1 h3 h6 = absurd (h3 refl)
group_of (a ∷ b ∷ c ∷ d ∷ []) small size h1 h3 h6 = group_of_four a b c d small.0 small.1.0 small.1.1.0 small.1.1.1.0
group_of (a ∷ b ∷ c ∷ d ∷ e ∷ []) small size h1 h3 h6 = group_of_five a b c d e small.0 small.1.0 small.1.1.0 small.1.1.1.0 small.1.1.1.1.0
group_of (a ∷ b ∷ c ∷ d ∷ e ∷ f ∷ []) small size h1 h3 h6 = absurd (h6 refl)
group_of (a ∷ b ∷ c ∷ d ∷ e ∷ f ∷ g ∷ []) small size h1 h3 h6 = group_of_seven a b c d e f g small.0 small.1.0 small.1.1.0 small.1.1.1.0 small.1.1.1.1.0 small.1.1.1.1.1.0 small.1.1.1.1.1.1.0
group_of (a ∷ b ∷ c ∷ d ∷ e ∷ f ∷ g ∷ h ∷ []) small size h1 h3 h6 = group_of_eight a b c d e f g h small.0 small.1.0 small.1.1.0 small.1.1.1.0 small.1.1.1.1.0 small.1.1.1.1.1.0 small.1.1.1.1.1.1.0 small.1.1.1.1.1.1.1.0
group_of (a ∷ b ∷ c ∷ d ∷ e ∷ f ∷ g ∷ h ∷ i ∷ values) small size h1 h3 h6 = absurd (omega arith)

small_value : (case : Case) (byte : ℕ) → is_digit32 case byte ≡ true → digit_value case byte < 32
small_value Upper byte h = grind (arith, nat_tests)
small_value Lower byte h = grind (arith, nat_tests)

pub digit_first : (test : Bool) (rest : Option ℕ) (at : ℕ) → (if test then rest else Some at) ≡ None → (test ≡ true) × (rest ≡ None)
digit_first true rest at none = (refl, none)
digit_first false rest at none = absurd (cc)

-- the unit of the unused bits
unit_is : (k : ℕ) → k < 8 → 1 * 2 ^ k % 2 ^ 64 ≡ 2 ^ k
unit_is k h =
    let p : 2 ^ k ≤ 2 ^ 7 = pow_mono {i = k} {j = 7} (omega arith) in
    omega (arith, p)

no_cut : (n : ℕ) → n ≤ 8 → n ≢ 1 → n ≢ 3 → n ≢ 6 → is_cut (n % 8) ≡ false
no_cut n size h1 h3 h6 = grind (arith, nat_tests)

-- digits stand for values below 32
pub small_values : (case : Case) (at : ℕ) (digits : List ℕ) → first_bad case at digits ≡ None → AllByRecursion (λ value. value < 32) (map (digit_value case) digits)
small_values case at [] none = tt
small_values case at (byte ∷ digits) none =
    let first = digit_first (is_digit32 case byte) (first_bad case (at + 1) digits) at none in
    (small_value case byte first.0, small_values case (at + 1) digits first.1)

-- the same by the number of digits and their number
record IsGroupAt (count word : ℕ) (values : List ℕ) : Type 0 where
  bytes : drop (8 - count * 5 / 8) (to_be_bytes w64 (word / 2 ^ (count * 5 % 8))) ≡ eights (flat_map five_bits values)
  zeros : list_all (λ bit. bit == 0) (unused (flat_map five_bits values)) ≡ (word % 2 ^ (count * 5 % 8) == 0)

group_at : (case : Case) (at : ℕ) (digits : List ℕ) (word : ℕ) → first_bad case at digits ≡ None → word ≡ number32 0 (map (digit_value case) digits)
    → length digits ≤ 8 → length digits ≢ 1 → length digits ≢ 3 → length digits ≢ 6 → IsGroupAt (length digits) word (map (digit_value case) digits)
group_at case at digits word none is size h1 h3 h6 =
    let len : length (map (digit_value case) digits) ≡ length digits = length-map digits (digit_value case) in
    let group = group_of (map (digit_value case) digits) (small_values case at digits none) (omega arith) (λ e. h1 (sym len ∙ e)) (λ e. h3 (sym len ∙ e)) (λ e. h6 (sym len ∙ e)) in
    record { bytes = rw (is, ← len) group.bytes; zeros = rw (is, ← len) group.zeros }

-- what a group of digits spells
pub record IsRead (case : Case) (at : ℕ) (digits : List ℕ) (word unit : ℕ) : Type 0 where
  pub faulty : word % unit ≢ 0 → decode32_from case at digits ≡ Err TailBits
  pub good : word % unit ≡ 0 → decode32_from case at digits ≡ Ok (take (8 - (8 - length digits * 5 / 8)) (drop (8 - length digits * 5 / 8) (to_be_bytes w64 (word / unit))))

take_rest : (k : ℕ) (bytes : List ℕ) → length bytes ≤ 8 → take (8 - k) (drop k bytes) ≡ drop k bytes
take_rest k bytes size = take_all (8 - k) (drop k bytes) (omega (arith, length-drop k bytes))

chosen : (cut zeros : Bool) (bytes : List ℕ) → cut ≡ false → (if cut then Err BadLength else if zeros then Ok bytes else Err TailBits) ≡ (if zeros then Ok bytes else Err TailBits)
chosen cut zeros bytes h = rw h refl

pub is_read : (case : Case) (at : ℕ) (digits : List ℕ) (word : ℕ) → first_bad case at digits ≡ None → word ≡ number32 0 (map (digit_value case) digits)
    → length digits ≤ 8 → length digits ≢ 1 → length digits ≢ 3 → length digits ≢ 6 → IsRead case at digits word (1 * 2 ^ (length digits * 5 % 8) % 2 ^ 64)
is_read case at digits word none is size h1 h3 h6 = record {
  faulty = λ no. whole ∙ rw (group_is.zeros, ne_eqb (word % 2 ^ (length digits * 5 % 8)) 0 (rw unit at no)) refl;
  good = λ yes. whole ∙ rw (group_is.zeros, eq-eqb (word % 2 ^ (length digits * 5 % 8)) 0 (rw unit at yes), unit, take_rest (8 - length digits * 5 / 8) (to_be_bytes w64 (word / 2 ^ (length digits * 5 % 8))) (omega arith), ← group_is.bytes) refl;
}
  where
    unit : 1 * 2 ^ (length digits * 5 % 8) % 2 ^ 64 ≡ 2 ^ (length digits * 5 % 8)
    unit = unit_is (length digits * 5 % 8) (omega arith)

    group_is : IsGroupAt (length digits) word (map (digit_value case) digits)
    group_is = group_at case at digits word none is size h1 h3 h6

    whole : decode32_from case at digits ≡ (if list_all (λ bit. bit == 0) (unused (flat_map five_bits (map (digit_value case) digits))) then Ok (eights (flat_map five_bits (map (digit_value case) digits))) else Err TailBits)
    whole = rw none (chosen (is_cut (length digits % 8)) (list_all (λ bit. bit == 0) (unused (flat_map five_bits (map (digit_value case) digits)))) (eights (flat_map five_bits (map (digit_value case) digits))) (no_cut (length digits) size h1 h3 h6))
