-- Writing and reading are each other's inverse.
use Rattle.std.proofs.Common.{◌≡◌, ◌≢◌, ℕ, ◌+◌, ◌*◌, ◌%◌, ◌<◌, Bool, true, false, List, [], ◌∷◌, ◌++◌, length, map, Option, None, Some, Result, Ok, Err, append-nil, refl, sym, ap, ◌∙◌, arith}
use Rattle.std.specs.Prelude.{◌==◌, if◌then◌else◌}
use Rattle.std.specs.List.{flat_map, list_all, slice_index, AllByRecursion}
use Rattle.std.proofs.lemmas.Bool.{and_parts, eqb-true}
use Rattle.std.proofs.lemmas.Bool.Decides.{nat_tests}
use Rattle.mc_base.specs.Base32.{alphabet32, base32_of, byte_bits, five, fives}
use Rattle.mc_base.specs.declared.base32.Case.{Case}
use Rattle.mc_base.proofs.FiveBits.{bits_length}
use Rattle.mc_base32.specs.declared.fault.Base32Fault.{Base32Fault}
use Rattle.mc_base32.specs.declared.fault.Base32Fault.TheVariants.{BadChar, BadLength, TailBits}
use Rattle.mc_base32.specs.Reading.{decode32, digit_value, eights, first_bad, five_bits, is_cut, is_digit32, text_bits, unused}
use Rattle.mc_base32.proofs.GroupFacts.{small_values}
use Rattle.std.proofs.lemmas.Bool.{ne_eqb}
use Rattle.std.proofs.lemmas.List.{length-map}
use Rattle.mc_base32.proofs.BitFacts.{AreBits, bits_of_bytes, bits_of_values, bits_parts, eights_of_bytes, fill, fives_spread, spread_fives}
use Rattle.mc_base32.proofs.DigitFacts.{digit_of_value, value_of_digit}
use Rattle.mc_base32.proofs.GroupFacts.{digit_first}

-- ---- what is written is read

fives_small : (bits : List ℕ) → AreBits bits → AllByRecursion (λ value. value < 32) (fives bits)
unfolding fives
fives_small [] h = tt
fives_small (a ∷ []) h = (omega (arith, h.0), tt)
fives_small (a ∷ b ∷ []) h = (omega (arith, h.0, h.1.0), tt)
fives_small (a ∷ b ∷ c ∷ []) h = (omega (arith, h.0, h.1.0, h.1.1.0), tt)
fives_small (a ∷ b ∷ c ∷ d ∷ []) h = (omega (arith, h.0, h.1.0, h.1.1.0, h.1.1.1.0), tt)
fives_small (a ∷ b ∷ c ∷ d ∷ e ∷ bits) h = (omega (arith, h.0, h.1.0, h.1.1.0, h.1.1.1.0, h.1.1.1.1.0), fives_small bits h.1.1.1.1.1)

-- the digits of values are none of them bad, and stand for the values
digits_good : (case : Case) (at : ℕ) (values : List ℕ) → AllByRecursion (λ value. value < 32) values → (first_bad case at (map (slice_index (alphabet32 case)) values) ≡ None) × (map (digit_value case) (map (slice_index (alphabet32 case)) values) ≡ values)
digits_good case at [] h = (refl, refl)
digits_good case at (v ∷ values) h =
    let first = digit_of_value case v h.0 in
    let rest = digits_good case (at + 1) values h.1 in
    (rw (first.0, rest.0) refl, rw (first.1, rest.1) refl)

-- the zeros that fill up are no byte, and all zero
fill_facts : (bits : List ℕ) → (eights (fill bits) ≡ []) × (list_all (λ bit. bit == 0) (unused (fill bits)) ≡ true) × (length (fill bits) < 5) × (list_all (λ bit. bit == 0) (fill bits) ≡ true)
unfolding eights unused
fill_facts [] = (refl, refl, omega arith, refl)
fill_facts (a ∷ []) = (refl, refl, omega arith, refl)
fill_facts (a ∷ b ∷ []) = (refl, refl, omega arith, refl)
fill_facts (a ∷ b ∷ c ∷ []) = (refl, refl, omega arith, refl)
fill_facts (a ∷ b ∷ c ∷ d ∷ []) = (refl, refl, omega arith, refl)
fill_facts (a ∷ b ∷ c ∷ d ∷ e ∷ bits) = fill_facts bits

fives_length : (bits : List ℕ) → 5 * length (fives bits) ≡ length bits + length (fill bits)
unfolding fives
fives_length [] = refl
fives_length (a ∷ []) = refl
fives_length (a ∷ b ∷ []) = refl
fives_length (a ∷ b ∷ c ∷ []) = refl
fives_length (a ∷ b ∷ c ∷ d ∷ []) = refl
fives_length (a ∷ b ∷ c ∷ d ∷ e ∷ bits) = let rest = fives_length bits in omega arith

not_cut : (n m r : ℕ) → 5 * n ≡ 8 * m + r → r < 5 → is_cut (n % 8) ≡ false
not_cut n m r e h =
    let h1 : n % 8 ≢ 1 = λ (k : n % 8 ≡ 1). omega arith in
    let h3 : n % 8 ≢ 3 = λ (k : n % 8 ≡ 3). omega arith in
    let h6 : n % 8 ≢ 6 = λ (k : n % 8 ≡ 6). omega arith in
    rw (ne_eqb (n % 8) 1 h1, ne_eqb (n % 8) 3 h3, ne_eqb (n % 8) 6 h6) refl

read_good : (case : Case) (text bits : List ℕ) → first_bad case 0 text ≡ None → is_cut (length text % 8) ≡ false → text_bits case text ≡ bits → list_all (λ bit. bit == 0) (unused bits) ≡ true → decode32 case text ≡ Ok (eights bits)
read_good case text bits none whole same zeros = rw (none, whole, same, zeros) refl

pub written_is_read : (case : Case) (bytes : List ℕ) → AllByRecursion (λ byte. byte < 256) bytes → decode32 case (base32_of case bytes) ≡ Ok bytes
written_is_read case bytes h =
    let bits = bits_of_bytes bytes h in
    let values = fives_small (flat_map byte_bits bytes) bits in
    let good = digits_good case 0 (fives (flat_map byte_bits bytes)) values in
    let filled = fill_facts (flat_map byte_bits bytes) in
    let spread : text_bits case (base32_of case bytes) ≡ flat_map byte_bits bytes ++ fill (flat_map byte_bits bytes) = rw good.1 (fives_spread (flat_map byte_bits bytes) bits) in
    let back = eights_of_bytes bytes (fill (flat_map byte_bits bytes)) h in
    let len : length (base32_of case bytes) ≡ length (fives (flat_map byte_bits bytes)) = length-map (fives (flat_map byte_bits bytes)) (slice_index (alphabet32 case)) in
    let whole : is_cut (length (base32_of case bytes) % 8) ≡ false = rw len (not_cut (length (fives (flat_map byte_bits bytes))) (length bytes) (length (fill (flat_map byte_bits bytes))) (fives_length (flat_map byte_bits bytes) ∙ ap (λ (n : ℕ). n + length (fill (flat_map byte_bits bytes))) (bits_length bytes)) filled.2) in
    let zeros : list_all (λ bit. bit == 0) (unused (flat_map byte_bits bytes ++ fill (flat_map byte_bits bytes))) ≡ true = rw back.1 filled.1 in
    read_good case (base32_of case bytes) (flat_map byte_bits bytes ++ fill (flat_map byte_bits bytes)) good.0 whole spread zeros ∙ ap (λ (xs : List ℕ). Ok xs) (back.0 ∙ rw (filled.0, append-nil) refl)

-- ---- what is read was written

zeros_same : (xs ys : List ℕ) → list_all (λ bit. bit == 0) xs ≡ true → list_all (λ bit. bit == 0) ys ≡ true → length xs ≡ length ys → xs ≡ ys
zeros_same [] [] hx hy len = refl
zeros_same [] (y ∷ ys) hx hy len = absurd (omega arith)
zeros_same (x ∷ xs) [] hx hy len = absurd (omega arith)
zeros_same (x ∷ xs) (y ∷ ys) hx hy len =
    let px = and_parts (x == 0) (list_all (λ bit. bit == 0) xs) hx in
    let py = and_parts (y == 0) (list_all (λ bit. bit == 0) ys) hy in
    let same = zeros_same xs ys px.1 py.1 (omega arith) in
    rw (eqb-true x 0 px.0, eqb-true y 0 py.0, same) refl

fives_filled : (bits : List ℕ) → fives (bits ++ fill bits) ≡ fives bits
unfolding fives
fives_filled [] = refl
fives_filled (a ∷ []) = refl
fives_filled (a ∷ b ∷ []) = refl
fives_filled (a ∷ b ∷ c ∷ []) = refl
fives_filled (a ∷ b ∷ c ∷ d ∷ []) = refl
fives_filled (a ∷ b ∷ c ∷ d ∷ e ∷ bits) = ap (λ (rest : List ℕ). five a b c d e ∷ rest) (fives_filled bits)

unused_length : (bits : List ℕ) → (length bits ≡ 8 * length (eights bits) + length (unused bits)) × (length (unused bits) < 8)
unfolding eights unused
unused_length [] = (refl, omega arith)
unused_length (a ∷ []) = (refl, omega arith)
unused_length (a ∷ b ∷ []) = (refl, omega arith)
unused_length (a ∷ b ∷ c ∷ []) = (refl, omega arith)
unused_length (a ∷ b ∷ c ∷ d ∷ []) = (refl, omega arith)
unused_length (a ∷ b ∷ c ∷ d ∷ e ∷ []) = (refl, omega arith)
unused_length (a ∷ b ∷ c ∷ d ∷ e ∷ f ∷ []) = (refl, omega arith)
unused_length (a ∷ b ∷ c ∷ d ∷ e ∷ f ∷ g ∷ []) = (refl, omega arith)
unused_length (a ∷ b ∷ c ∷ d ∷ e ∷ f ∷ g ∷ i ∷ bits) = let rest = unused_length bits in (omega arith, rest.1)

values_length : (values : List ℕ) → length (flat_map five_bits values) ≡ 5 * length values
values_length [] = refl
values_length (v ∷ values) = let rest = values_length values in omega arith

-- a text without a bad byte is the digits of its values
digits_again : (case : Case) (at : ℕ) (text : List ℕ) → first_bad case at text ≡ None → map (slice_index (alphabet32 case)) (map (digit_value case) text) ≡ text
digits_again case at [] none = refl
digits_again case at (byte ∷ text) none =
    let first = digit_first (is_digit32 case byte) (first_bad case (at + 1) text) at none in
    rw (value_of_digit case byte first.0, digits_again case (at + 1) text first.1) refl

cut_no : (k : ℕ) → is_cut k ≡ false → (k ≢ 1) × (k ≢ 3) × (k ≢ 6)
cut_no k h = (grind (arith, nat_tests), grind (arith, nat_tests), grind (arith, nat_tests))

-- bits of whole groups of five, whose rest after the bytes is a few zeros, have the groups of their bytes
fives_of_bytes : (values : List ℕ) → AllByRecursion (λ value. value < 32) values → is_cut (length values % 8) ≡ false → list_all (λ bit. bit == 0) (unused (flat_map five_bits values)) ≡ true
    → fives (flat_map byte_bits (eights (flat_map five_bits values))) ≡ values
fives_of_bytes values small whole zeros =
    let bits = flat_map five_bits values in
    let front = flat_map byte_bits (eights bits) in
    let parts : front ++ unused bits ≡ bits = bits_parts bits (bits_of_values values small) in
    let filled = fill_facts front in
    let len = unused_length bits in
    let count = values_length values in
    let few = cut_no (length values % 8) whole in
    let whole_fives = fives_length front in
    let bytes = bits_length (eights bits) in
    let same : unused bits ≡ fill front = zeros_same (unused bits) (fill front) zeros filled.3 (omega (arith, len, count, few, filled.2, whole_fives, bytes)) in
    sym (fives_filled front) ∙ ap (λ (rest : List ℕ). fives (front ++ rest)) (sym same) ∙ ap fives parts ∙ spread_fives values small

-- which way a reading went that gave bytes
chosen_ok : (cut zeros : Bool) (xs bytes : List ℕ) → (if cut then Err BadLength else if zeros then Ok xs else Err TailBits) ≡ Ok bytes → (cut ≡ false) × (zeros ≡ true) × (xs ≡ bytes)
chosen_ok true zeros xs bytes h = absurd (cc)
chosen_ok false true xs bytes h = (refl, refl, cc)
chosen_ok false false xs bytes h = absurd (cc)

fault_is_no_reading : (place : ℕ) (bytes : List ℕ) → ◌≡◌ {A = Result (List ℕ) Base32Fault} (Err (BadChar place)) (Ok bytes) → ⊥
fault_is_no_reading place bytes h = cc

pub read_was_written : (case : Case) (text bytes : List ℕ) → decode32 case text ≡ Ok bytes → text ≡ base32_of case bytes
read_was_written case text bytes read = by_bad (first_bad case 0 text) refl
  where
    by_bad : (bad : Option ℕ) → first_bad case 0 text ≡ bad → text ≡ base32_of case bytes
    by_bad (Some place) found = absurd (fault_is_no_reading place bytes (rw found at read))
    by_bad None found =
        let went = chosen_ok (is_cut (length text % 8)) (list_all (λ bit. bit == 0) (unused (text_bits case text))) (eights (text_bits case text)) bytes (rw found at read) in
        let small = small_values case 0 text found in
        let len : length (map (digit_value case) text) ≡ length text = length-map text (digit_value case) in
        let whole : is_cut (length (map (digit_value case) text) % 8) ≡ false = rw len went.0 in
        let values = fives_of_bytes (map (digit_value case) text) small whole went.1 in
        sym (digits_again case 0 text found) ∙ ap (map (slice_index (alphabet32 case))) (sym values) ∙ ap (λ (read : List ℕ). base32_of case read) went.2
