-- A text is read group by group.
use Rattle.std.proofs.Common.{◌≡◌, ℕ, ◌+◌, ◌%◌, ◌⊎◌, inl, inr, Bool, true, false, List, [], ◌∷◌, ◌++◌, length, map, take, drop, min, Option, None, Some, Result, Ok, Err, append_assoc, append-nil, refl, sym, ap, ◌∙◌, arith, length-append, length-take}
use Rattle.std.specs.Prelude.{◌==◌, if◌then◌else◌}
use Rattle.std.specs.List.{list_all}
use Rattle.std.proofs.lemmas.Bool.{cases_lt}
use Rattle.std.proofs.lemmas.List.{map-append, take-append-drop, drop_all}
use Rattle.std.proofs.lemmas.Grind.{flat_map-append}
use Rattle.mc_base.specs.declared.base32.Case.{Case}
use Rattle.mc_base32.specs.declared.fault.Base32Fault.{Base32Fault}
use Rattle.mc_base32.specs.declared.fault.Base32Fault.TheVariants.{BadChar, BadLength, TailBits}
use Rattle.mc_base32.specs.declared.fault.Base32Error.{Base32Error}
use Rattle.mc_base32.specs.declared.fault.Base32Error.TheVariants.{Memory, Fault}
use Rattle.mc_base32.specs.Reading.{IsFaultOf, after, decode32_from, digit_value, eights, first_bad, five_bits, is_cut, is_digit32, reading32, text_bits, unused}

-- the first bad byte of two parts
bad_first : (case : Case) (at : ℕ) (front rest : List ℕ) (place : ℕ) → first_bad case at front ≡ Some place → first_bad case at (front ++ rest) ≡ Some place
bad_first case at [] rest place h = absurd (cc)
bad_first case at (byte ∷ front) rest place h = choose (is_digit32 case byte) (first_bad case (at + 1) front) (first_bad case (at + 1) (front ++ rest)) h (bad_first case (at + 1) front rest place)
  where
    choose : (test : Bool) (x y : Option ℕ) → (if test then x else Some at) ≡ Some place → (x ≡ Some place → y ≡ Some place) → (if test then y else Some at) ≡ Some place
    choose true x y h more = more h
    choose false x y h more = h

bad_later : (case : Case) (at : ℕ) (front rest : List ℕ) → first_bad case at front ≡ None → first_bad case at (front ++ rest) ≡ first_bad case (at + length front) rest
bad_later case at [] rest h = ap (λ (place : ℕ). first_bad case place rest) (omega arith)
bad_later case at (byte ∷ front) rest h =
    choose (is_digit32 case byte) (first_bad case (at + 1) front) (first_bad case (at + 1) (front ++ rest)) (first_bad case (at + length (byte ∷ front)) rest) h
    (λ none. bad_later case (at + 1) front rest none ∙ ap (λ (place : ℕ). first_bad case place rest) (omega arith))
  where
    choose : (test : Bool) (x y z : Option ℕ) → (if test then x else Some at) ≡ None → (x ≡ None → y ≡ z) → (if test then y else Some at) ≡ z
    choose true x y z h more = more h
    choose false x y z h more = absurd (cc)

-- eight digits in front are five bytes, and leave no bits
bits_of_eight : (case : Case) (front rest : List ℕ) → length front ≡ 8
    → (eights (text_bits case front ++ rest) ≡ eights (text_bits case front) ++ eights rest) × (unused (text_bits case front ++ rest) ≡ unused rest) × (unused (text_bits case front) ≡ [])
unfolding eights unused
bits_of_eight case [] rest h = absurd (omega arith)
bits_of_eight case (a ∷ []) rest h = absurd (omega arith)
bits_of_eight case (a ∷ b ∷ []) rest h = absurd (omega arith)
bits_of_eight case (a ∷ b ∷ c ∷ []) rest h = absurd (omega arith)
bits_of_eight case (a ∷ b ∷ c ∷ d ∷ []) rest h = absurd (omega arith)
bits_of_eight case (a ∷ b ∷ c ∷ d ∷ e ∷ []) rest h = absurd (omega arith)
bits_of_eight case (a ∷ b ∷ c ∷ d ∷ e ∷ f ∷ []) rest h = absurd (omega arith)
bits_of_eight case (a ∷ b ∷ c ∷ d ∷ e ∷ f ∷ g ∷ []) rest h = absurd (omega arith)
bits_of_eight case (a ∷ b ∷ c ∷ d ∷ e ∷ f ∷ g ∷ i ∷ []) rest h = (refl, refl, refl)
bits_of_eight case (a ∷ b ∷ c ∷ d ∷ e ∷ f ∷ g ∷ i ∷ j ∷ front) rest h = absurd (omega arith)

bits_of_parts : (case : Case) (front rest : List ℕ) → text_bits case (front ++ rest) ≡ text_bits case front ++ text_bits case rest
bits_of_parts case front rest = rw (map-append (digit_value case) front rest) (flat_map-append five_bits (map (digit_value case) front) (map (digit_value case) rest))

-- eight digits alone
read_eight : (case : Case) (at : ℕ) (front : List ℕ) → length front ≡ 8 → first_bad case at front ≡ None → decode32_from case at front ≡ Ok (eights (text_bits case front))
read_eight case at front eight none =
    let bits = bits_of_eight case front [] eight in
    rw (none, eight, bits.2) refl

-- a reading of eight digits and more
read_more : (case : Case) (bad : Option ℕ) (front rest : List ℕ) → length front ≡ 8 → reading32 case bad (front ++ rest) ≡ after (eights (text_bits case front)) (reading32 case bad rest)
read_more case (Some at) front rest eight = refl
read_more case None front rest eight =
    let bits = bits_of_eight case front (text_bits case rest) eight in
    let parts = bits_of_parts case front rest in
    let len : length (front ++ rest) % 8 ≡ length rest % 8 = omega (arith, length-append front rest) in
    rw (parts, len, bits.0, bits.1) (choose (is_cut (length rest % 8)) (list_all (λ bit. bit == 0) (unused (text_bits case rest))) (eights (text_bits case front)) (eights (text_bits case rest)))
  where
    choose : (cut zeros : Bool) (front bytes : List ℕ) → (if cut then Err BadLength else if zeros then Ok (front ++ bytes) else Err TailBits) ≡ after front (if cut then Err BadLength else if zeros then Ok bytes else Err TailBits)
    choose true zeros front bytes = refl
    choose false true front bytes = refl
    choose false false front bytes = refl

-- the bytes so far and those of what is left are those of the whole text
pub record IsDecoding (case : Case) (text bytes rest : List ℕ) (at : ℕ) : Type 0 where
  pub place : at + length rest ≡ length text
  pub so_far : after bytes (decode32_from case at rest) ≡ decode32_from case 0 text

fault_is_no_bytes : (bytes new : List ℕ) (fault : Base32Fault) → after bytes (Err fault) ≡ Ok new → ⊥
fault_is_no_bytes bytes new fault e = cc

ok_is : (x y : List ℕ) → ◌≡◌ {A = Result (List ℕ) Base32Fault} (Ok x) (Ok y) → x ≡ y
ok_is x y e = cc

after_after : (first second : List ℕ) (read : Result (List ℕ) Base32Fault) → after first (after second read) ≡ after (first ++ second) read
after_after first second (Ok bytes) = ap (λ (xs : List ℕ). Ok xs) (sym (append_assoc first second bytes))
after_after first second (Err fault) = refl

-- nothing spells no bytes
read_nothing : (case : Case) (at : ℕ) → decode32_from case at [] ≡ Ok []
unfolding eights unused
read_nothing case at = refl

-- what is left after eight digits
eight_next : (case : Case) (at : ℕ) (front rest bytes new : List ℕ) → length front ≡ 8 → after bytes (decode32_from case at front) ≡ Ok new
    → after bytes (decode32_from case at (front ++ rest)) ≡ after new (decode32_from case (at + length front) rest)
eight_next case at front rest bytes new eight read = by_bad (first_bad case at front) refl
  where
    by_bad : (bad : Option ℕ) → first_bad case at front ≡ bad → after bytes (decode32_from case at (front ++ rest)) ≡ after new (decode32_from case (at + length front) rest)
    by_bad (Some place) found = absurd (fault_is_no_bytes bytes new (BadChar place) (rw found at read))
    by_bad None found =
        let e : bytes ++ eights (text_bits case front) ≡ new = ok_is (bytes ++ eights (text_bits case front)) new (rw (read_eight case at front eight found) at read) in
        rw (bad_later case at front rest found, read_more case (first_bad case (at + length front) rest) front rest eight, after_after bytes (eights (text_bits case front)) (decode32_from case (at + length front) rest), e) refl

-- a fault in front is a fault of the whole
eight_fault : (case : Case) (at : ℕ) (front rest : List ℕ) (fault : Base32Fault) → length front ≡ 8 → decode32_from case at front ≡ Err fault → decode32_from case at (front ++ rest) ≡ Err fault
eight_fault case at front rest fault eight read = by_bad (first_bad case at front) refl
  where
    by_bad : (bad : Option ℕ) → first_bad case at front ≡ bad → decode32_from case at (front ++ rest) ≡ Err fault
    by_bad (Some place) found = rw (bad_first case at front rest place found) (rw found at read)
    by_bad None found = absurd (cc (read_eight case at front eight found, read))

-- a group is eight digits, or all that is left
record IsGroupOf (rest group others : List ℕ) : Type 0 where
  whole : rest ≡ group ++ others
  size : (length group ≡ 8) ⊎ (others ≡ [])

group_of_rest : (rest : List ℕ) → IsGroupOf rest (take (min (length rest) 8) rest) (drop (min (length rest) 8) rest)
group_of_rest rest = elim (cases_lt (length rest) 8) [
  | inl short ↦ record { whole = sym (take-append-drop (min (length rest) 8) rest); size = inr (drop_all (min (length rest) 8) rest (omega arith)) }
  | inr long ↦ record { whole = sym (take-append-drop (min (length rest) 8) rest); size = inl (omega (arith, length-take {A = ℕ})) }
]

-- one group more
pub decoding_next : (case : Case) (text bytes rest group others new : List ℕ) (at : ℕ) → IsDecoding case text bytes rest at → group ≡ take (min (length rest) 8) rest → others ≡ drop (min (length rest) 8) rest
    → after bytes (decode32_from case at group) ≡ Ok new → IsDecoding case text new others (at + length group)
decoding_next case text bytes rest group others new at decoding is_group is_others read =
    let parts : IsGroupOf rest group others = rw (is_group, is_others) (group_of_rest rest) in
    let len = length-append group others in
    record {
      place = omega (arith, decoding.place, ap length parts.whole, len);
      so_far = sym step ∙ decoding.so_far;
    }
  where
    by_size : (length group ≡ 8) ⊎ (others ≡ []) → after bytes (decode32_from case at (group ++ others)) ≡ after new (decode32_from case (at + length group) others)
    by_size (inl eight) = eight_next case at group others bytes new eight read
    by_size (inr none) = rw (none, append-nil, read_nothing case (at + length group), read, append-nil) refl

    step : after bytes (decode32_from case at rest) ≡ after new (decode32_from case (at + length group) others)
    step =
        let parts : IsGroupOf rest group others = rw (is_group, is_others) (group_of_rest rest) in
        rw parts.whole (by_size parts.size)

fault_of_all : (bytes : List ℕ) (read whole : Result (List ℕ) Base32Fault) (fault : Base32Fault) → after bytes read ≡ whole → read ≡ Err fault → whole ≡ Err fault
fault_of_all bytes read whole fault e h = sym e ∙ rw h refl

-- a fault in a group is the text's
pub decoding_fault : (case : Case) (text bytes rest group : List ℕ) (at : ℕ) (error : Base32Error) → IsDecoding case text bytes rest at → group ≡ take (min (length rest) 8) rest → IsFaultOf error (decode32_from case at group) → IsFaultOf error (decode32_from case 0 text)
decoding_fault case text bytes rest group at Memory decoding is h = tt
decoding_fault case text bytes rest group at (Fault fault) decoding is h =
    let parts : IsGroupOf rest group (drop (min (length rest) 8) rest) = rw is (group_of_rest rest) in
    fault_of_all bytes (decode32_from case at rest) (decode32_from case 0 text) fault decoding.so_far (rw parts.whole (by_size (drop (min (length rest) 8) rest) parts.size))
  where
    by_size : (others : List ℕ) → (length group ≡ 8) ⊎ (others ≡ []) → decode32_from case at (group ++ others) ≡ Err fault
    by_size others (inl eight) = eight_fault case at group others fault eight h
    by_size others (inr none) = rw (none, append-nil) h

-- nothing is left
pub decoding_done : (case : Case) (text bytes rest : List ℕ) (at : ℕ) → IsDecoding case text bytes rest at → length rest ≡ 0 → decode32_from case 0 text ≡ Ok bytes
decoding_done case text bytes [] at decoding none = sym decoding.so_far ∙ rw (read_nothing case at, append-nil) refl
decoding_done case text bytes (byte ∷ rest) at decoding none = absurd (omega arith)
