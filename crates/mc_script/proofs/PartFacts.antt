-- Which words say a part, and what is read of them.
use Rattle.std.proofs.Common.{◌≡◌, ℕ, zero, suc, ◌+◌, ◌-◌, ◌*◌, ◌/◌, ◌%◌, ◌<◌, ◌≤◌, ◌^◌, ◌==◌, ◌⊎◌, inl, inr, Bool, true, false, ◌&&◌, not, List, [], ◌∷◌, ◌++◌, length, slice_index, Option, Some, None, Result, Ok, Err, codes, refl, sym, ap, ◌∙◌, subst, arith}
use Rattle.std.specs.Prelude.{if◌then◌else◌, nat_le, nat_lt}
use Rattle.std.specs.Char.{is_ascii_digit, to_ascii_lowercase}
use Rattle.std.specs.Fmt.{decimal}
use Rattle.std.specs.List.{AllPass, list_all, repeat}
use Rattle.std.specs.Result.{result_ok, result_unwrap_or}
use Rattle.std.specs.Str.{IsAscii, IsUtf8, all_ascii_digits, bytes_eq, str_to_ascii_lowercase}
use Rattle.std.specs.Str.Parse.{digits_value}
use Rattle.std.proofs.lemmas.Bool.{and_parts, cases_lt, eqb-true, le-leb, leb-true, lt-ltb, ltb-true}
use Rattle.std.proofs.lemmas.Bool.Decides.{eqb_tells, nat_tests}
use Rattle.std.proofs.lemmas.Fmt.{IsAscii-decimal, decimal-digits_value, decimal_is_IsNumeral, length-decimal-le}
use Rattle.std.proofs.lemmas.List.{length-map}
use Rattle.std.proofs.lemmas.List.Elements.{All-head, All-tail}
use Rattle.std.proofs.lemmas.Slice.Eq.{bytes_eq-Decides}
use Rattle.std.proofs.lemmas.Str.{IsUtf8-from_ascii}
use Rattle.std.proofs.lemmas.Str.Ascii.{IsAscii-cons, IsAscii-nil}
use Rattle.std.proofs.lemmas.Str.Parse.{IsNumeralModel, numerals_by_value, tells_all_ascii_digits}
use Rattle.hex.specs.Hex.{IsBytes, decode_of, decode_pairs, digit_or_error, encode_lower, encode_with, hex_digit_value, is_hex_digit, lower_digits, pair_value, value_at, ◌>>=◌}
use Rattle.hex.specs.declared.error.FromHexError.{FromHexError}
use Rattle.hex.proofs.HexLemmas.{decode_of-encode_lower, decode_of-even, decode_of-ok, IsAscii-encode_with, length-encode_with}
use Rattle.hex.proofs.Pairs.{cons_byte, decode_pairs-ok_pair}
use Rattle.mc_cidtext.specs.CidText.{IsReadAgain, cid_text}
use Rattle.mc_script.specs.Grammar.{Part, Replica, Key, Prefix, Value, Number, Identifier, OtherThan, Way, UpTo, HasWord, Says, is_whole_word, word_of}
use Rattle.mc_script.specs.ReplyText.{hex_text}
use Rattle.mc_script.proofs.CidFacts.{cid_passes}
use Rattle.mc_script.specs.Words.{bytes_of_hex, is_number, number_of, replica_of}

-- ---- a replica

letter_found : (letter r : ℕ) → (if nat_le 97 letter && nat_le letter 104 then Some (letter - 97) else None) ≡ Some r → (r < 8) × (letter ≡ 97 + r)
letter_found letter r h = elim (cases_lt letter 97) [
  | inl low ↦ absurd (grind (arith, nat_tests))
  | inr high ↦ elim (cases_lt 104 letter) [
    | inl above ↦ absurd (grind (arith, nat_tests))
    | inr below ↦
        let is : Some (letter - 97) ≡ Some r = grind (arith, nat_tests) in
        let same : letter - 97 ≡ r = cc in
        (omega arith, omega arith)
  ]
]

pub replica_found : (word : List ℕ) (r : ℕ) → replica_of word ≡ Some r → Says word (Replica r)
replica_found [] r h = cc h
replica_found (letter ∷ []) r h = let is = letter_found letter r h in (is.0, rw is.1 refl)
replica_found (letter ∷ next ∷ rest) r h = cc h

pub replica_read : (word : List ℕ) (r : ℕ) → Says word (Replica r) → replica_of word ≡ Some r
replica_read word r says = rw says.1 (letter_read (97 + r) r says.0 refl)
  where
    letter_read : (letter r : ℕ) → r < 8 → letter ≡ 97 + r → replica_of (letter ∷ []) ≡ Some r
    letter_read letter r small is = grind (arith, nat_tests)

-- ---- words of digits have no space

digits_whole : (word : List ℕ) → all_ascii_digits word ≡ true → list_all (λ byte. not (byte == 32)) word ≡ true
digits_whole [] all = refl
digits_whole (byte ∷ word) all =
    let parts = and_parts (is_ascii_digit byte) (all_ascii_digits word) all in
    let low = and_parts (nat_le 48 byte) (nat_le byte 57) parts.0 in
    let one : not (byte == 32) ≡ true = grind (arith, nat_tests) in
    rw (one, digits_whole word parts.1) refl

hex_whole : (word : List ℕ) → AllPass is_hex_digit word → list_all (λ byte. not (byte == 32)) word ≡ true
hex_whole [] all = refl
hex_whole (byte ∷ word) all =
    let first = All-head (λ (byte : ℕ). is_hex_digit byte ≡ true) byte word all in
    rw (one byte first, hex_whole word (All-tail (λ (byte : ℕ). is_hex_digit byte ≡ true) byte word all)) refl
  where
    one : (byte : ℕ) → is_hex_digit byte ≡ true → not (byte == 32) ≡ true
    one byte digit = elim (cases_lt 32 byte) [ inl above ↦ grind (arith, nat_tests) | inr below ↦ absurd (grind (arith, nat_tests)) ]

-- ---- a number

own : IsNumeralModel (λ ds. all_ascii_digits ds ≡ true) (digits_value 10)
own = numerals_by_value _ tells_all_ascii_digits

-- digits are zeros and the number without them
spelled : (word : List ℕ) → all_ascii_digits word ≡ true → 0 < length word → digits_value 10 word < 2 ^ 64 → (zeros : ℕ) × (word ≡ repeat zeros (48 ∷ []) ++ decimal (digits_value 10 word))
spelled [] all some small = absurd (omega arith)
spelled (byte ∷ []) all some small = (0, sym (decimal-digits_value own (byte ∷ []) all some (λ _. refl) small))
spelled (byte ∷ next ∷ rest) all some small = elim (eqb_tells byte 48) [
  | inl zero_first ↦
      let is : byte ≡ 48 = zero_first.1 in
      let inner = spelled (next ∷ rest) (and_parts (is_ascii_digit byte) (all_ascii_digits (next ∷ rest)) all).1 (omega arith) (subst (λ b. digits_value 10 (b ∷ next ∷ rest) < 2 ^ 64) is small) in
      (suc inner.0, subst (λ b. b ∷ next ∷ rest ≡ 48 ∷ (repeat inner.0 (48 ∷ []) ++ decimal (digits_value 10 (b ∷ next ∷ rest)))) (sym is) (ap (λ (tail : List ℕ). 48 ∷ tail) inner.1))
  | inr other ↦ (0, sym (decimal-digits_value own (byte ∷ next ∷ rest) all some (λ e. absurd (other.1 e)) small))
]

-- which way a test went that gave something
pub chosen : {A : Type 0} (test : Bool) (first : A) (other : Option A) (value : A) → (if test then Some first else other) ≡ Some value → ((test ≡ true) × (first ≡ value)) ⊎ ((test ≡ false) × (other ≡ Some value))
chosen true first other value h = inl (refl, some_is h)
  where
    some_is : {A : Type 0} {x y : A} → Some x ≡ Some y → x ≡ y
    some_is h = cc h
chosen false first other value h = inr (refl, h)

pub no_other : {A B : Type 0} {value : A} → ◌≡◌ {A = Option A} None (Some value) → B
no_other h = cc h

pub number_found : (word : List ℕ) (number : ℕ) → number_of word ≡ Some number → Says word (Number number)
number_found word number h = elim (chosen (is_number word) (digits_value 10 word) None number h) [
  | inr other ↦ no_other other.1
  | inl went ↦
      let some = and_parts (nat_le 1 (length word)) (nat_le (length word) 20 && (all_ascii_digits word && nat_lt (digits_value 10 word) (2 ^ 64))) went.0 in
      let few = and_parts (nat_le (length word) 20) (all_ascii_digits word && nat_lt (digits_value 10 word) (2 ^ 64)) some.1 in
      let digits = and_parts (all_ascii_digits word) (nat_lt (digits_value 10 word) (2 ^ 64)) few.1 in
      let small = ltb-true (digits_value 10 word) (2 ^ 64) digits.1 in
      let zeros = spelled word digits.0 (leb-true 1 (length word) some.0) small in
      (rw went.1 at small, leb-true (length word) 20 few.0, rw went.1 at zeros)
]

zeros_digits : (zeros : ℕ) (digits : List ℕ) → all_ascii_digits (repeat zeros (48 ∷ []) ++ digits) ≡ all_ascii_digits digits
zeros_digits zero digits = refl
zeros_digits (suc zeros) digits = zeros_digits zeros digits

zeros_value : (zeros : ℕ) (digits : List ℕ) → digits_value 10 (repeat zeros (48 ∷ []) ++ digits) ≡ digits_value 10 digits
zeros_value zero digits = refl
zeros_value (suc zeros) digits = zeros_value zeros digits

zeros_more : (zeros : ℕ) (digits : List ℕ) → length digits ≤ length (repeat zeros (48 ∷ []) ++ digits)
zeros_more zero digits = omega arith
zeros_more (suc zeros) digits = omega (arith, zeros_more zeros digits)

-- the tests of a number
number_tests : (word : List ℕ) → 1 ≤ length word → length word ≤ 20 → all_ascii_digits word ≡ true → digits_value 10 word < 2 ^ 64 → is_number word ≡ true
number_tests word some few digits small = rw (le-leb 1 (length word) some, le-leb (length word) 20 few, digits, lt-ltb (digits_value 10 word) (2 ^ 64) small) refl

number_said : (word : List ℕ) (number : ℕ) → Says word (Number number) → (is_number word ≡ true) × (digits_value 10 word ≡ number) × (all_ascii_digits word ≡ true)
number_said word number says =
    let numeral = decimal_is_IsNumeral number says.0 in
    let digits : all_ascii_digits word ≡ true = ap all_ascii_digits says.2.1 ∙ zeros_digits says.2.0 (decimal number) ∙ own.from (decimal number) numeral.0.1 in
    let value : digits_value 10 word ≡ number = ap (digits_value 10) says.2.1 ∙ zeros_value says.2.0 (decimal number) ∙ numeral.1 in
    let len = ap length says.2.1 in
    (number_tests word (omega (arith, len, zeros_more says.2.0 (decimal number), numeral.0.0)) says.1 digits (omega (arith, value, says.0)), value, digits)

pub number_read : (word : List ℕ) (number : ℕ) → Says word (Number number) → number_of word ≡ Some number
number_read word number says = let said = number_said word number says in rw (said.0, said.1) refl

-- ---- a value

abbrev low_of : Option ℕ → ℕ → Bool
low_of (Some value) digit = slice_index lower_digits value == to_ascii_lowercase digit
low_of None digit = true

abbrev all_low : ℕ → Bool
all_low zero = true
all_low (suc n) = low_of (hex_digit_value n) n && all_low n

all_low-at : (n k : ℕ) → all_low n ≡ true → k < n → low_of (hex_digit_value k) k ≡ true
all_low-at zero k h lt = absurd (omega arith)
all_low-at (suc n) k h lt =
    let parts = and_parts (low_of (hex_digit_value n) n) (all_low n) h in
    elim (cases_lt k n) [
      | inl below ↦ all_low-at n k parts.1 below
      | inr top ↦
          let e : k ≡ n = omega arith in
          rw e parts.0
    ]

digit_small : (digit value : ℕ) → hex_digit_value digit ≡ Some value → (digit < 103) × (value < 16)
digit_small digit value h = (grind (arith), grind (arith))

-- the digit of a digit's value is the digit in lower case
digit_lower : (digit value : ℕ) → hex_digit_value digit ≡ Some value → slice_index lower_digits value ≡ to_ascii_lowercase digit
digit_lower digit value h = low_from (hex_digit_value digit) h (all_low-at 103 digit refl (digit_small digit value h).0)
  where
    low_from : (o : Option ℕ) → o ≡ Some value → low_of o digit ≡ true → slice_index lower_digits value ≡ to_ascii_lowercase digit
    low_from (Some v) h low =
        let same : v ≡ value = cc in
        ap (slice_index lower_digits) (sym same) ∙ eqb-true (slice_index lower_digits v) (to_ascii_lowercase digit) low
    low_from None h low = cc h

digit_either : (digit : ℕ) → hex_digit_value (to_ascii_lowercase digit) ≡ hex_digit_value digit
digit_either digit = grind (arith)

bind_ok : {A B : Type 0} (r : Result A FromHexError) (f : A → Result B FromHexError) (y : B) → (r >>= f) ≡ Ok y → (x : A) × (r ≡ Ok x) × (f x ≡ Ok y)
bind_ok (Ok x) f y h = (x, refl, h)
bind_ok (Err e) f y h = cc h

digit_read : (c i : ℕ) (o : Option ℕ) (v : ℕ) → digit_or_error c i o ≡ Ok v → o ≡ Some v
digit_read c i (Some w) v h = ap Some (ap (λ (r : Result ℕ FromHexError). result_unwrap_or r 0) h)
digit_read c i None v h = cc h

-- two digits that are read
pair_read : (high low i byte : ℕ) → pair_value high low i ≡ Ok byte → (h l : ℕ) × (hex_digit_value high ≡ Some h) × (hex_digit_value low ≡ Some l) × (h * 16 + l ≡ byte)
pair_read high low i byte is =
    let p1 = bind_ok (value_at high i) _ byte is in
    let p2 = bind_ok (value_at low (i + 1)) _ byte p1.2 in
    (p1.0, p2.0, digit_read high i (hex_digit_value high) p1.0 p1.1, digit_read low (i + 1) (hex_digit_value low) p2.0 p2.1, ap (λ (r : Result ℕ FromHexError). result_unwrap_or r 0) p2.2)

encode_pair : (high low h l byte : ℕ) (rest : List ℕ) → hex_digit_value high ≡ Some h → hex_digit_value low ≡ Some l → h * 16 + l ≡ byte → encode_lower (byte ∷ rest) ≡ to_ascii_lowercase high ∷ to_ascii_lowercase low ∷ encode_lower rest
unfolding encode_with
encode_pair high low h l byte rest first second is =
    let small = (digit_small high h first).1 in
    let little = (digit_small low l second).1 in
    let above : byte / 16 ≡ h = omega arith in
    let below : byte % 16 ≡ l = omega arith in
    rw (above, below, digit_lower high h first, digit_lower low l second) refl

-- the digits that are read as bytes are, in lower case, those that are written for them
lowered : (i : ℕ) (s bytes : List ℕ) → decode_pairs i s ≡ Ok bytes → str_to_ascii_lowercase s ≡ encode_lower bytes
unfolding decode_pairs encode_with
lowered i [] bytes h =
    let e : [] ≡ bytes = ap (λ (r : Result (List ℕ) FromHexError). result_unwrap_or r []) h in
    rw (← e) refl
lowered i (a ∷ []) bytes h = cc h
lowered i (a ∷ b ∷ rest) bytes h =
    let p0 = bind_ok (pair_value a b i) _ bytes h in
    let p3 = bind_ok (decode_pairs (i + 2) rest) _ bytes p0.2 in
    let e : p0.0 ∷ p3.0 ≡ bytes = ap (λ (r : Result (List ℕ) FromHexError). result_unwrap_or r []) p3.2 in
    let pair = pair_read a b i p0.0 p0.1 in
    sym (ap encode_lower (sym e) ∙ encode_pair a b pair.0 pair.1 p0.0 p3.0 pair.2 pair.3 pair.4 ∙ ap (λ (l : List ℕ). to_ascii_lowercase a ∷ to_ascii_lowercase b ∷ l) (sym (lowered (i + 2) rest p3.0 p3.1)))

-- digits of either case are read as in lower case
raised : (i : ℕ) (s bytes : List ℕ) → decode_pairs i (str_to_ascii_lowercase s) ≡ Ok bytes → decode_pairs i s ≡ Ok bytes
unfolding decode_pairs
raised i [] bytes h = h
raised i (a ∷ []) bytes h = cc h
raised i (a ∷ b ∷ rest) bytes h =
    let p0 = bind_ok (pair_value (to_ascii_lowercase a) (to_ascii_lowercase b) i) _ bytes h in
    let p3 = bind_ok (decode_pairs (i + 2) (str_to_ascii_lowercase rest)) _ bytes p0.2 in
    let pair = pair_read (to_ascii_lowercase a) (to_ascii_lowercase b) i p0.0 p0.1 in
    let first : hex_digit_value a ≡ Some pair.0 = sym (digit_either a) ∙ pair.2 in
    let second : hex_digit_value b ≡ Some pair.1 = sym (digit_either b) ∙ pair.3 in
    let value : pair_value a b i ≡ Ok p0.0 = rw (first, second) (ap Ok pair.4) in
    decode_pairs-ok_pair i a b p0.0 rest value ∙ ap (cons_byte p0.0) (raised (i + 2) rest p3.0 p3.1) ∙ p3.2

even_from_ok : (s bytes : List ℕ) → decode_of s ≡ Ok bytes → decode_pairs 0 s ≡ Ok bytes
even_from_ok s bytes h = sym (decode_of-even s (decode_of-ok s bytes h).0) ∙ h

ok_from_some : (r : Result (List ℕ) FromHexError) (bytes : List ℕ) → result_ok r ≡ Some bytes → r ≡ Ok bytes
ok_from_some (Ok read) bytes h = ap Ok (chosen_some read bytes h)
  where
    chosen_some : (read bytes : List ℕ) → Some read ≡ Some bytes → read ≡ bytes
    chosen_some read bytes h = cc h
ok_from_some (Err e) bytes h = cc h

-- what was read of a value: a dash, or digits
hex_went : (word bytes : List ℕ) → bytes_of_hex word ≡ Some bytes → ((word ≡ codes "-") × ([] ≡ bytes)) ⊎ ((1 ≤ length word) × (decode_of word ≡ Ok bytes))
hex_went word bytes h = elim (chosen (bytes_eq word (codes "-")) [] (if nat_le 1 (length word) then result_ok (decode_of word) else None) bytes h) [
  | inl dash ↦ inl ((bytes_eq-Decides word (codes "-")).0 dash.0, dash.1)
  | inr digits ↦ inr (digits_went (nat_le 1 (length word)) refl digits.1)
]
  where
    digits_went : (test : Bool) → nat_le 1 (length word) ≡ test → (if test then result_ok (decode_of word) else None) ≡ Some bytes → (1 ≤ length word) × (decode_of word ≡ Ok bytes)
    digits_went true is h = (leb-true 1 (length word) is, ok_from_some (decode_of word) bytes h)
    digits_went false is h = cc h

hex_text_some : (word bytes : List ℕ) → 1 ≤ length word → length word ≡ 2 * length bytes → hex_text bytes ≡ encode_lower bytes
hex_text_some word [] some len = absurd (omega arith)
hex_text_some word (byte ∷ bytes) some len = refl

pub value_found : (word bytes : List ℕ) → bytes_of_hex word ≡ Some bytes → Says word (Value bytes)
value_found word bytes h = elim (hex_went word bytes h) [
  | inl dash ↦ rw (dash.0, ← dash.1) (λ i. omega arith, refl)
  | inr digits ↦
      let ok = decode_of-ok word bytes digits.1 in
      (ok.3, lowered 0 word bytes (even_from_ok word bytes digits.1) ∙ sym (hex_text_some word bytes digits.0 ok.2))
]

dash_found : (word : List ℕ) → str_to_ascii_lowercase word ≡ codes "-" → word ≡ codes "-"
dash_found [] h = cc h
dash_found (byte ∷ []) h = ap (λ (b : ℕ). b ∷ []) (one byte (ap (λ (l : List ℕ). slice_index l 0) h))
  where
    one : (byte : ℕ) → to_ascii_lowercase byte ≡ 45 → byte ≡ 45
    one byte h = grind (arith)
dash_found (byte ∷ next ∷ word) h = absurd (omega (arith, ap length h))

-- a word of another length than a dash is no dash
no_dash : (word bytes : List ℕ) {other : Option (List ℕ)} (test : Bool) → bytes_eq word (codes "-") ≡ test → (length word ≡ 1 → ⊥) → other ≡ Some bytes → (if test then Some [] else other) ≡ Some bytes
no_dash word bytes true is long rest = absurd (long (ap length ((bytes_eq-Decides word (codes "-")).0 is)))
no_dash word bytes false is long rest = rest

pub value_read : (word bytes : List ℕ) → Says word (Value bytes) → bytes_of_hex word ≡ Some bytes
value_read word [] says = rw (dash_found word says.1) refl
value_read word (byte ∷ bytes) says =
    let len : length word ≡ 2 * length (byte ∷ bytes) = sym (length-map word to_ascii_lowercase) ∙ ap length says.1 ∙ length-encode_with lower_digits (byte ∷ bytes) in
    let low : decode_of (str_to_ascii_lowercase word) ≡ Ok (byte ∷ bytes) = ap decode_of says.1 ∙ decode_of-encode_lower (byte ∷ bytes) says.0 in
    let pairs = raised 0 word (byte ∷ bytes) (even_from_ok (str_to_ascii_lowercase word) (byte ∷ bytes) low) in
    let ok : decode_of word ≡ Ok (byte ∷ bytes) = decode_of-even word (omega (arith, len)) ∙ pairs in
    no_dash word (byte ∷ bytes) (bytes_eq word (codes "-")) refl (λ e. omega (arith, len, e)) (rw (le-leb 1 (length word) (omega (arith, len)), ok) refl)

-- ---- a word that says a part has no space

hex_is_whole : (word bytes : List ℕ) → bytes_of_hex word ≡ Some bytes → is_whole_word word ≡ true
hex_is_whole word bytes h = elim (hex_went word bytes h) [
  | inl dash ↦ rw dash.0 refl
  | inr digits ↦ rw (lt-ltb 0 (length word) (omega (arith, digits.0)), hex_whole word (decode_of-ok word bytes digits.1).1) refl
]

letter_is_whole : (letter r : ℕ) → letter ≡ 97 + r → is_whole_word (letter ∷ []) ≡ true
letter_is_whole letter r is = grind (arith, nat_tests)

number_is_whole : (word : List ℕ) (number : ℕ) → Says word (Number number) → is_whole_word word ≡ true
number_is_whole word number says =
    let said = number_said word number says in
    let some = and_parts (nat_le 1 (length word)) (nat_le (length word) 20 && (all_ascii_digits word && nat_lt (digits_value 10 word) (2 ^ 64))) said.0 in
    rw (lt-ltb 0 (length word) (omega (arith, leb-true 1 (length word) some.0)), digits_whole word said.2) refl

pub says_whole : (word : List ℕ) (part : Part) → Says word part → is_whole_word word ≡ true
says_whole word (Replica r) says = rw says.1 (letter_is_whole (97 + r) r refl)
says_whole word (Key key) says = rw says.0 says.1
says_whole word (Prefix prefix) says = rw says.0 says.1
says_whole word (Value bytes) says = hex_is_whole word bytes (value_read word bytes says)
says_whole word (Identifier cid) says = says.2
says_whole word (OtherThan r other) says = rw says.2 (letter_is_whole (97 + other) other refl)
says_whole word (Way true) says = rw says refl
says_whole word (Way false) says = rw says refl
says_whole word (UpTo most number) says = number_is_whole word number says.1
says_whole word (Number number) says = number_is_whole word number says

-- ---- a written word says its part

pub written_hex : (bytes : List ℕ) → IsBytes bytes → bytes_of_hex (hex_text bytes) ≡ Some bytes
written_hex [] are = refl
written_hex (byte ∷ bytes) are =
    let len = length-encode_with lower_digits (byte ∷ bytes) in
    no_dash (encode_lower (byte ∷ bytes)) (byte ∷ bytes) (bytes_eq (encode_lower (byte ∷ bytes)) (codes "-")) refl (λ e. omega (arith, len, e)) (rw (le-leb 1 (length (encode_lower (byte ∷ bytes))) (omega (arith, len)), decode_of-encode_lower (byte ∷ bytes) are) refl)

number_says : (number : ℕ) → number < 2 ^ 64 → Says (decimal number) (Number number)
number_says number small = (small, length-decimal-le 20 number (omega arith) (omega (arith, small)) small, (0, refl))

some_whole : (word : List ℕ) → 0 < length word → list_all (λ byte. not (byte == 32)) word ≡ true → is_whole_word word ≡ true
some_whole word some none = rw (lt-ltb 0 (length word) some, none) refl

pub word_says : IsReadAgain → (part : Part) → HasWord part → Says (word_of part) part
word_says again (Replica r) has = (has, refl)
word_says again (Key key) has = (refl, has.1)
word_says again (Prefix prefix) has = (refl, has.1)
word_says again (Value bytes) has = value_found (hex_text bytes) bytes (written_hex bytes has)
word_says again (Number number) has = number_says number has
word_says again (Identifier cid) has = (refl, again cid.0 has.0 has.1, some_whole (cid_text cid.0) (omega arith) (cid_passes (λ byte. not (byte == 32)) refl refl cid has))
word_says again (OtherThan r other) has = (has.0, has.1, refl)
word_says again (Way up) has = refl
word_says again (UpTo most number) has = (has.0, number_says number has.1)

-- ---- words are UTF-8

pub plain_ascii : (word : List ℕ) → list_all (λ byte. nat_lt byte 128) word ≡ true → IsAscii word
plain_ascii [] all = IsAscii-nil
plain_ascii (byte ∷ word) all =
    let parts = and_parts (nat_lt byte 128) (list_all (λ byte. nat_lt byte 128) word) all in
    IsAscii-cons byte word (ltb-true byte 128 parts.0) (plain_ascii word parts.1)

letter_is_utf8 : (r : ℕ) → r < 8 → IsUtf8 ((97 + r) ∷ [])
letter_is_utf8 r small = IsUtf8-from_ascii ((97 + r) ∷ []) (IsAscii-cons (97 + r) [] (letter r small) IsAscii-nil)
  where
    letter : (r : ℕ) → r < 8 → 97 + r < 128
    letter r small = omega arith

pub word_is_utf8 : (part : Part) → HasWord part → IsUtf8 (word_of part)
word_is_utf8 (Replica r) has = letter_is_utf8 r has
word_is_utf8 (Key key) has = has.0
word_is_utf8 (Prefix prefix) has = has.0
word_is_utf8 (Value []) has = IsUtf8-from_ascii (codes "-") (plain_ascii (codes "-") refl)
word_is_utf8 (Value (byte ∷ bytes)) has = IsUtf8-from_ascii (encode_lower (byte ∷ bytes)) (IsAscii-encode_with lower_digits (byte ∷ bytes) (plain_ascii lower_digits refl))
word_is_utf8 (Number number) has = IsUtf8-from_ascii (decimal number) (IsAscii-decimal number has)
word_is_utf8 (Identifier cid) has = IsUtf8-from_ascii (cid_text cid.0) (plain_ascii (cid_text cid.0) (cid_passes (λ byte. nat_lt byte 128) refl refl cid has))
word_is_utf8 (OtherThan r other) has = letter_is_utf8 other has.1
word_is_utf8 (Way true) has = IsUtf8-from_ascii (codes "up") (plain_ascii (codes "up") refl)
word_is_utf8 (Way false) has = IsUtf8-from_ascii (codes "down") (plain_ascii (codes "down") refl)
word_is_utf8 (UpTo most number) has = IsUtf8-from_ascii (decimal number) (IsAscii-decimal number has.1)
