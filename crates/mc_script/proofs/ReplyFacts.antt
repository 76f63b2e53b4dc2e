-- The text of a reply tells it.
use Rattle.std.proofs.Common.{◌≡◌, ℕ, zero, suc, ◌+◌, ◌*◌, ◌/◌, ◌%◌, ◌<◌, ◌≤◌, ◌==◌, Bool, true, false, ◌&&◌, not, List, [], ◌∷◌, ◌++◌, length, Option, Some, None, Result, Ok, Err, inl, inr, codes, refl, sym, ap, ◌∙◌, arith, unwrap_or, append_assoc}
use Rattle.std.specs.Prelude.{IfSome, if◌then◌else◌, nat_le, nat_lt}
use Rattle.std.specs.Char.{is_ascii_digit}
use Rattle.std.specs.Fmt.{decimal, digit_glyph}
use Rattle.std.specs.List.{AllByRecursion, AllPass, flat_map, join_with_byte, list_all}
use Rattle.std.specs.Str.{all_ascii_digits, bytes_eq}
use Rattle.std.specs.Str.Parse.{digits_value}
use Rattle.std.proofs.lemmas.Bool.{and_parts, cases_lt, eqb-true, lt-ltb, ltb-true}
use Rattle.std.proofs.lemmas.Bool.Decides.{nat_tests}
use Rattle.std.proofs.lemmas.Fmt.{decimal_is_IsNumeral}
use Rattle.std.proofs.lemmas.List.Elements.{All-head, All-tail}
use Rattle.std.proofs.lemmas.Str.Parse.{IsNumeralModel, numerals_by_value, tells_all_ascii_digits}
use Rattle.hex.specs.Hex.{IsBytes, decode_pairs, encode_lower, hex_digit_value, is_hex_digit}
use Rattle.hex.proofs.HexLemmas.{decode_of-encode_lower, decode_of-ok}
use Rattle.percent_encoding.specs.Percent.{percent_encode_byte}
use Rattle.mc_base.specs.declared.cid.Cid.{Cid}
use Rattle.mc_cidtext.specs.CidText.{IsReadAgain, cid_text, read_cid_text}
use Rattle.mc_cidtext.specs.declared.fault.CidTextFault.{CidTextFault}
use Rattle.mc_script.specs.KeyText.{byte_text, is_plain, key_text}
use Rattle.mc_script.specs.ReplyText.{IsDigest, IsTyped, IsTypedEvent, IsWide, clear_or_set, count_words, counts_text, event_text, head_text, hex_text, mark_words, number_line, pair_line, reply_text, row_text, value_text, yes_or_no}
use Rattle.mc_script.specs.Words.{bytes_of_hex, words_of}
use Rattle.mc_script.specs.declared.reply.Reply.{Reply}
use Rattle.mc_script.specs.declared.reply.Reply.TheVariants.{Done, Priority, Deleted, Value, Has, Rows, Heads, Message, Queued, Processed, Missing, Bad, Idle, Worked, Again, Clean, OpenGaps, Stormed, State, Same, Stopped, FaultKeeper, FaultPeer, RefusedKey, RefusedValue, RefusedSize, RefusedPriority, RefusedClash, RefusedBatch, RefusedCast, RefusedOpen, Car, Imported, Events, RefusedRoots, RefusedCar, RefusedView}
use Rattle.mc_script.proofs.CidFacts.{cid_passes}
use Rattle.mc_script.proofs.GrammarFacts.{joined_is_split}
use Rattle.mc_script.proofs.PartFacts.{written_hex}

-- ---- bytes up to a space or a line feed

-- what stands before the first byte c, and after it
abbrev cut : ℕ → List ℕ → List ℕ × List ℕ
cut c [] = ([], [])
cut c (byte ∷ bytes) = if byte == c then ([], bytes) else (byte ∷ (cut c bytes).0, (cut c bytes).1)

-- every byte is above the space
abbrev pub is_graphic : List ℕ → Bool
is_graphic word = list_all (λ byte. nat_lt 32 byte) word

cut_at : (c : ℕ) (word rest : List ℕ) → c ≤ 32 → is_graphic word ≡ true → cut c (word ++ c ∷ rest) ≡ (word, rest)
cut_at c [] rest low all = cut_now (c == c) (grind (arith, nat_tests))
  where
    cut_now : (test : Bool) → test ≡ true → ◌≡◌ {A = List ℕ × List ℕ} (if test then ([], rest) else (c ∷ (cut c rest).0, (cut c rest).1)) ([], rest)
    cut_now true is = refl
    cut_now false is = cc is
cut_at c (byte ∷ word) rest low all =
    let parts = and_parts (nat_lt 32 byte) (is_graphic word) all in
    let above = ltb-true 32 byte parts.0 in
    let other : (byte == c) ≡ false = grind (arith, nat_tests) in
    rw (other, cut_at c word rest low parts.1) refl

graphic_append : (first second : List ℕ) → is_graphic first ≡ true → is_graphic second ≡ true → is_graphic (first ++ second) ≡ true
graphic_append [] second a b = b
graphic_append (byte ∷ first) second a b =
    let parts = and_parts (nat_lt 32 byte) (is_graphic first) a in
    rw (parts.0, graphic_append first second parts.1 b) refl

graphic_digits : (word : List ℕ) → all_ascii_digits word ≡ true → is_graphic word ≡ true
graphic_digits [] all = refl
graphic_digits (byte ∷ word) all =
    let parts = and_parts (is_ascii_digit byte) (all_ascii_digits word) all in
    let low = and_parts (nat_le 48 byte) (nat_le byte 57) parts.0 in
    let one : nat_lt 32 byte ≡ true = lt-ltb 32 byte (grind (arith, nat_tests)) in
    rw (one, graphic_digits word parts.1) refl

own : IsNumeralModel (λ ds. all_ascii_digits ds ≡ true) (digits_value 10)
own = numerals_by_value _ tells_all_ascii_digits

pub graphic_decimal : (number : ℕ) → IsWide number → is_graphic (decimal number) ≡ true
graphic_decimal number wide = graphic_digits (decimal number) (own.from (decimal number) (decimal_is_IsNumeral number wide).0.1)

graphic_hex_digits : (word : List ℕ) → AllPass is_hex_digit word → is_graphic word ≡ true
graphic_hex_digits [] all = refl
graphic_hex_digits (byte ∷ word) all =
    rw (one byte (All-head (λ (byte : ℕ). is_hex_digit byte ≡ true) byte word all), graphic_hex_digits word (All-tail (λ (byte : ℕ). is_hex_digit byte ≡ true) byte word all)) refl
  where
    one : (byte : ℕ) → is_hex_digit byte ≡ true → nat_lt 32 byte ≡ true
    one byte digit = elim (cases_lt 32 byte) [ inl above ↦ lt-ltb 32 byte above | inr below ↦ absurd (grind (arith, nat_tests)) ]

pub graphic_hex : (bytes : List ℕ) → IsBytes bytes → is_graphic (hex_text bytes) ≡ true
graphic_hex [] are = refl
graphic_hex (byte ∷ bytes) are = graphic_hex_digits (encode_lower (byte ∷ bytes)) (decode_of-ok (encode_lower (byte ∷ bytes)) (byte ∷ bytes) (decode_of-encode_lower (byte ∷ bytes) are)).1

graphic_cid : (cid : Cid) → IsDigest cid → is_graphic (cid_text cid.0) ≡ true
graphic_cid cid is = cid_passes (λ byte. nat_lt 32 byte) refl refl cid is

-- ---- keys

abbrev digit_of : ℕ → ℕ
digit_of digit = unwrap_or (hex_digit_value digit) 0

-- the key of a text
abbrev key_of : List ℕ → List ℕ
key_of [] = []
key_of (byte ∷ []) = if byte == 37 then [] else byte ∷ []
key_of (byte ∷ high ∷ []) = byte ∷ (if high == 37 then [] else high ∷ [])
key_of (byte ∷ high ∷ low ∷ rest) = if byte == 37 then (16 * digit_of high + digit_of low) ∷ key_of rest else byte ∷ key_of (high ∷ low ∷ rest)

key_first : (byte : ℕ) (rest : List ℕ) → (byte == 37) ≡ false → key_of (byte ∷ rest) ≡ byte ∷ key_of rest
key_first byte [] plain = rw plain refl
key_first byte (high ∷ []) plain = refl
key_first byte (high ∷ low ∷ rest) plain = rw plain refl

-- the escape of a byte is read as it, and has no space
abbrev high_glyph : ℕ → ℕ
high_glyph byte = digit_glyph true (byte / 16 % 16)

abbrev low_glyph : ℕ → ℕ
low_glyph byte = digit_glyph true (byte % 16)

abbrev is_escaped : ℕ → Bool
is_escaped byte = (16 * digit_of (high_glyph byte) + digit_of (low_glyph byte) == byte) && (nat_lt 32 (high_glyph byte) && nat_lt 32 (low_glyph byte))

abbrev all_escaped : ℕ → Bool
all_escaped zero = true
all_escaped (suc n) = is_escaped n && all_escaped n

escaped_at : (n k : ℕ) → all_escaped n ≡ true → k < n → is_escaped k ≡ true
escaped_at zero k h lt = absurd (omega arith)
escaped_at (suc n) k h lt =
    let parts = and_parts (is_escaped n) (all_escaped n) h in
    elim (cases_lt k n) [
      | inl below ↦ escaped_at n k parts.1 below
      | inr top ↦
          let e : k ≡ n = omega arith in
          rw e parts.0
    ]

all_bytes_escaped : all_escaped 256 ≡ true
all_bytes_escaped = refl

record EscapeOf (byte : ℕ) : Type 0 where
  high : ℕ
  low : ℕ
  text : percent_encode_byte byte ≡ 37 ∷ high ∷ low ∷ []
  value : 16 * digit_of high + digit_of low ≡ byte
  graphic : is_graphic (37 ∷ high ∷ low ∷ []) ≡ true

escape_of : (byte : ℕ) → byte < 256 → EscapeOf byte
unfolding percent_encode_byte
escape_of byte small =
    let parts = and_parts (16 * digit_of (high_glyph byte) + digit_of (low_glyph byte) == byte) (nat_lt 32 (high_glyph byte) && nat_lt 32 (low_glyph byte)) (escaped_at 256 byte all_bytes_escaped small) in
    let glyphs = and_parts (nat_lt 32 (high_glyph byte)) (nat_lt 32 (low_glyph byte)) parts.1 in
    record { high = high_glyph byte; low = low_glyph byte; text = refl; value = eqb-true (16 * digit_of (high_glyph byte) + digit_of (low_glyph byte)) byte parts.0; graphic = rw (glyphs.0, glyphs.1) refl }

plain_is : (byte : ℕ) → is_plain byte ≡ true → ((byte == 37) ≡ false) × (nat_lt 32 byte ≡ true)
plain_is byte plain = (grind (arith, nat_tests), grind (arith, nat_tests))

-- the text of a byte, before other text
byte_is_read : (byte : ℕ) (rest : List ℕ) → byte < 256 → (key_of (byte_text byte ++ rest) ≡ byte ∷ key_of rest) × (is_graphic (byte_text byte) ≡ true)
byte_is_read byte rest small = by_test (is_plain byte) refl
  where
    by_test : (test : Bool) → is_plain byte ≡ test → (key_of ((if test then byte ∷ [] else percent_encode_byte byte) ++ rest) ≡ byte ∷ key_of rest) × (is_graphic (if test then byte ∷ [] else percent_encode_byte byte) ≡ true)
    by_test true is = let plain = plain_is byte is in (key_first byte rest plain.0, rw plain.1 refl)
    by_test false is =
        let escape = escape_of byte small in
        (rw escape.text (ap (λ (b : ℕ). b ∷ key_of rest) escape.value), rw escape.text escape.graphic)

bytes_are_read : (bytes : List ℕ) → IsBytes bytes → (key_of (flat_map byte_text bytes) ≡ bytes) × (is_graphic (flat_map byte_text bytes) ≡ true)
bytes_are_read [] are = (refl, refl)
bytes_are_read (byte ∷ bytes) are =
    let first = byte_is_read byte (flat_map byte_text bytes) (are 0) in
    let rest = bytes_are_read bytes (λ i. are (suc i)) in
    (first.0 ∙ ap (λ (key : List ℕ). byte ∷ key) rest.0, graphic_append (byte_text byte) (flat_map byte_text bytes) first.1 rest.1)

key_is_read : (key : List ℕ) → IsBytes key → (key_of (key_text key) ≡ key) × (is_graphic (key_text key) ≡ true)
key_is_read [] are = (refl, refl)
key_is_read (byte ∷ key) are = bytes_are_read (byte ∷ key) are

-- ---- lines

-- a line of a word and a graphic text, after what stands in front
abbrev value_of : List ℕ → List ℕ
value_of word = unwrap_or (bytes_of_hex word) []

value_is_read : (bytes : List ℕ) → IsBytes bytes → value_of (hex_text bytes) ≡ bytes
value_is_read bytes are = ap (λ (o : Option (List ℕ)). unwrap_or o []) (written_hex bytes are)

number_is_read : (number : ℕ) → IsWide number → digits_value 10 (decimal number) ≡ number
number_is_read number wide = (decimal_is_IsNumeral number wide).1

-- the digest of the text of an identifier
abbrev ok_or_none : Result (List ℕ) CidTextFault → List ℕ
ok_or_none (Ok digest) = digest
ok_or_none (Err fault) = []

abbrev cid_of : List ℕ → Cid
cid_of text = record { 0 = ok_or_none (read_cid_text text) }

cid_is_read : IsReadAgain → (cid : Cid) → IsDigest cid → cid_of (cid_text cid.0) ≡ cid
cid_is_read again cid is = ap (λ (digest : List ℕ). record { 0 = digest }) (ap ok_or_none (again cid.0 is.0 is.1))

pair_is_cut : (first second rest : List ℕ) → is_graphic first ≡ true → cut 32 (pair_line first second ++ rest) ≡ (first, second ++ 10 ∷ rest)
pair_is_cut first second rest graphic =
    let flat : pair_line first second ++ rest ≡ first ++ 32 ∷ (second ++ 10 ∷ rest) =
    append_assoc (first ++ 32 ∷ second) (10 ∷ []) rest ∙ append_assoc first (32 ∷ second) (10 ∷ rest) in
    ap (cut 32) flat ∙ cut_at 32 first (second ++ 10 ∷ rest) (omega arith) graphic

-- ---- rows and heads

abbrev rows_from : ℕ → List ℕ → List (List ℕ × List ℕ) × List ℕ
rows_from zero text = ([], text)
rows_from (suc n) text =
    let key = cut 32 text in
    let value = cut 10 key.1 in
    let rest = rows_from n value.1 in
    ((key_of key.0, value_of value.0) ∷ rest.0, rest.1)

abbrev heads_from : ℕ → List ℕ → List (Cid × ℕ) × List ℕ
heads_from zero text = ([], text)
heads_from (suc n) text =
    let cid = cut 32 text in
    let height = cut 10 cid.1 in
    let rest = heads_from n height.1 in
    ((cid_of cid.0, digits_value 10 height.0) ∷ rest.0, rest.1)

rows_are_read : (rows : List (List ℕ × List ℕ)) (after : List ℕ) → AllByRecursion (λ row. IsBytes row.0 × IsBytes row.1) rows → rows_from (length rows) (flat_map row_text rows ++ after) ≡ (rows, after)
rows_are_read [] after all = refl
rows_are_read (row ∷ rows) after all =
    let key = key_is_read row.0 all.0.0 in
    let flat = append_assoc (row_text row) (flat_map row_text rows) after in
    let first = pair_is_cut (key_text row.0) (hex_text row.1) (flat_map row_text rows ++ after) key.1 in
    let second = cut_at 10 (hex_text row.1) (flat_map row_text rows ++ after) (omega arith) (graphic_hex row.1 all.0.1) in
    let cut_first : cut 32 (flat_map row_text (row ∷ rows) ++ after) ≡ (key_text row.0, hex_text row.1 ++ 10 ∷ (flat_map row_text rows ++ after)) = ap (cut 32) flat ∙ first in
    row_step (cut 32 (flat_map row_text (row ∷ rows) ++ after)) cut_first second (rows_are_read rows after all.1)
  where
    row_step : (key : List ℕ × List ℕ) → key ≡ (key_text row.0, hex_text row.1 ++ 10 ∷ (flat_map row_text rows ++ after)) → cut 10 (hex_text row.1 ++ 10 ∷ (flat_map row_text rows ++ after)) ≡ (hex_text row.1, flat_map row_text rows ++ after) → rows_from (length rows) (flat_map row_text rows ++ after) ≡ (rows, after)
        → ◌≡◌ {A = List (List ℕ × List ℕ) × List ℕ} ((key_of key.0, value_of (cut 10 key.1).0) ∷ (rows_from (length rows) (cut 10 key.1).1).0, (rows_from (length rows) (cut 10 key.1).1).1) (row ∷ rows, after)
    row_step key is second more = rw (is, second, (key_is_read row.0 all.0.0).0, value_is_read row.1 all.0.1, more) refl

heads_are_read : (heads : List (Cid × ℕ)) (after : List ℕ) → IsReadAgain → AllByRecursion (λ head. IsDigest head.0 × IsWide head.1) heads → heads_from (length heads) (flat_map head_text heads ++ after) ≡ (heads, after)
heads_are_read [] after again all = refl
heads_are_read (head ∷ heads) after again all =
    let flat = append_assoc (head_text head) (flat_map head_text heads) after in
    let first = pair_is_cut (cid_text head.0.0) (decimal head.1) (flat_map head_text heads ++ after) (graphic_cid head.0 all.0.0) in
    let second = cut_at 10 (decimal head.1) (flat_map head_text heads ++ after) (omega arith) (graphic_decimal head.1 all.0.1) in
    let cut_first : cut 32 (flat_map head_text (head ∷ heads) ++ after) ≡ (cid_text head.0.0, decimal head.1 ++ 10 ∷ (flat_map head_text heads ++ after)) = ap (cut 32) flat ∙ first in
    head_step (cut 32 (flat_map head_text (head ∷ heads) ++ after)) cut_first second (heads_are_read heads after again all.1)
  where
    head_step : (cid : List ℕ × List ℕ) → cid ≡ (cid_text head.0.0, decimal head.1 ++ 10 ∷ (flat_map head_text heads ++ after)) → cut 10 (decimal head.1 ++ 10 ∷ (flat_map head_text heads ++ after)) ≡ (decimal head.1, flat_map head_text heads ++ after) → heads_from (length heads) (flat_map head_text heads ++ after) ≡ (heads, after)
        → ◌≡◌ {A = List (Cid × ℕ) × List ℕ} ((cid_of cid.0, digits_value 10 (cut 10 cid.1).0) ∷ (heads_from (length heads) (cut 10 cid.1).1).0, (heads_from (length heads) (cut 10 cid.1).1).1) (head ∷ heads, after)
    head_step cid is second more = rw (is, second, cid_is_read again head.0 all.0.0, number_is_read head.1 all.0.1, more) refl

-- ---- changes

value_is_graphic : (value : Option (List ℕ)) → IfSome value IsBytes → is_graphic (value_text value) ≡ true
value_is_graphic None are = refl
value_is_graphic (Some bytes) are = graphic_hex bytes are

-- the text of no value has no bytes
none_or_value_is_read : (value : Option (List ℕ)) → IfSome value IsBytes → bytes_of_hex (value_text value) ≡ value
unfolding decode_pairs
none_or_value_is_read None are = refl
none_or_value_is_read (Some bytes) are = written_hex bytes are

abbrev events_from : ℕ → List ℕ → List (ℕ × List ℕ × Option (List ℕ)) × List ℕ
events_from zero text = ([], text)
events_from (suc n) text =
    let position = cut 32 text in
    let key = cut 32 position.1 in
    let value = cut 10 key.1 in
    let rest = events_from n value.1 in
    ((digits_value 10 position.0, key_of key.0, bytes_of_hex value.0) ∷ rest.0, rest.1)

events_are_read : (events : List (ℕ × List ℕ × Option (List ℕ))) (after : List ℕ) → AllByRecursion IsTypedEvent events → events_from (length events) (flat_map event_text events ++ after) ≡ (events, after)
events_are_read [] after all = refl
events_are_read (event ∷ events) after all =
    let others : List ℕ = flat_map event_text events ++ after in
    let key = key_is_read event.1 all.0.1 in
    let flat = append_assoc (event_text event) (flat_map event_text events) after in
    let first = pair_is_cut (decimal event.0) (key_text event.1 ++ 32 ∷ value_text event.2) others (graphic_decimal event.0 all.0.0) in
    let behind = ap (cut 32) (append_assoc (key_text event.1) (32 ∷ value_text event.2) (10 ∷ others)) ∙ cut_at 32 (key_text event.1) (value_text event.2 ++ 10 ∷ others) (omega arith) key.1 in
    let last = cut_at 10 (value_text event.2) others (omega arith) (value_is_graphic event.2 all.0.2) in
    event_step (cut 32 (flat_map event_text (event ∷ events) ++ after)) (ap (cut 32) flat ∙ first) behind last (events_are_read events after all.1)
  where
    event_step : (position : List ℕ × List ℕ) → position ≡ (decimal event.0, (key_text event.1 ++ 32 ∷ value_text event.2) ++ 10 ∷ (flat_map event_text events ++ after))
        → cut 32 ((key_text event.1 ++ 32 ∷ value_text event.2) ++ 10 ∷ (flat_map event_text events ++ after)) ≡ (key_text event.1, value_text event.2 ++ 10 ∷ (flat_map event_text events ++ after))
        → cut 10 (value_text event.2 ++ 10 ∷ (flat_map event_text events ++ after)) ≡ (value_text event.2, flat_map event_text events ++ after) → events_from (length events) (flat_map event_text events ++ after) ≡ (events, after)
        → ◌≡◌ {A = List (ℕ × List ℕ × Option (List ℕ)) × List ℕ} ((digits_value 10 position.0, key_of (cut 32 position.1).0, bytes_of_hex (cut 10 (cut 32 position.1).1).0) ∷ (events_from (length events) (cut 10 (cut 32 position.1).1).1).0, (events_from (length events) (cut 10 (cut 32 position.1).1).1).1) (event ∷ events, after)
    event_step position is second third more = rw (is, second, third, number_is_read event.0 all.0.0, (key_is_read event.1 all.0.1).0, none_or_value_is_read event.2 all.0.2, more) refl

-- ---- the reply of a text

graphic_no_space : (word : List ℕ) → is_graphic word ≡ true → list_all (λ byte. not (byte == 32)) word ≡ true
graphic_no_space [] all = refl
graphic_no_space (byte ∷ word) all =
    let parts = and_parts (nat_lt 32 byte) (is_graphic word) all in
    let above = ltb-true 32 byte parts.0 in
    let one : not (byte == 32) ≡ true = grind (arith, nat_tests) in
    rw (one, graphic_no_space word parts.1) refl

abbrev has_no_feed : List ℕ → Bool
has_no_feed word = list_all (λ byte. not (byte == 10)) word

is_not : (b : Bool) → not b ≡ true → b ≡ false
is_not true e = cc e
is_not false e = refl

feed_is_cut : (text rest : List ℕ) → has_no_feed text ≡ true → cut 10 (text ++ 10 ∷ rest) ≡ (text, rest)
feed_is_cut [] rest none = refl
feed_is_cut (byte ∷ text) rest none =
    let parts = and_parts (not (byte == 10)) (has_no_feed text) none in
    rw (is_not (byte == 10) parts.0, feed_is_cut text rest parts.1) refl

graphic_no_feed : (word : List ℕ) → is_graphic word ≡ true → has_no_feed word ≡ true
graphic_no_feed [] all = refl
graphic_no_feed (byte ∷ word) all =
    let parts = and_parts (nat_lt 32 byte) (is_graphic word) all in
    let above = ltb-true 32 byte parts.0 in
    let one : not (byte == 10) ≡ true = grind (arith, nat_tests) in
    rw (one, graphic_no_feed word parts.1) refl

no_feed_append : (first second : List ℕ) → has_no_feed first ≡ true → has_no_feed second ≡ true → has_no_feed (first ++ second) ≡ true
no_feed_append [] second a b = b
no_feed_append (byte ∷ first) second a b =
    let parts = and_parts (not (byte == 10)) (has_no_feed first) a in
    rw (parts.0, no_feed_append first second parts.1 b) refl

line_is_cut : (word text rest : List ℕ) → has_no_feed word ≡ true → is_graphic text ≡ true → cut 10 (pair_line word text ++ rest) ≡ (word ++ 32 ∷ text, rest)
line_is_cut [] text rest none graphic = rw (append_assoc text (10 ∷ []) rest, cut_at 10 text rest (omega arith) graphic) refl
line_is_cut (byte ∷ word) text rest none graphic =
    let parts = and_parts (not (byte == 10)) (has_no_feed word) none in
    let other : (byte == 10) ≡ false = is_not (byte == 10) parts.0 in
    rw (other, line_is_cut word text rest parts.1 graphic) refl

abbrev of_one_word : Option (List ℕ) → List ℕ → Reply
of_one_word (Some bytes) word = Value (Some bytes)
of_one_word None word =
    if bytes_eq word (codes "ok") then Done
    else (if bytes_eq word (codes "none") then Value None
    else (if bytes_eq word (codes "yes") then Has true
    else (if bytes_eq word (codes "no") then Has false
    else (if bytes_eq word (codes "processed") then Processed
    else (if bytes_eq word (codes "missing") then Missing
    else (if bytes_eq word (codes "idle") then Idle
    else (if bytes_eq word (codes "clean") then Clean
    else Stopped)))))))

-- the two words of a refusal or a fault
abbrev of_second : List ℕ → Reply
of_second second =
    if bytes_eq second (codes "keeper") then FaultKeeper
    else (if bytes_eq second (codes "peer") then FaultPeer
    else (if bytes_eq second (codes "value") then RefusedValue
    else (if bytes_eq second (codes "priority") then RefusedPriority
    else (if bytes_eq second (codes "cast") then RefusedCast
    else (if bytes_eq second (codes "open") then RefusedOpen
    else (if bytes_eq second (codes "view") then RefusedView
    else RefusedBatch))))))

-- the words of a state behind the first two, each count behind its name
abbrev of_state : List (List ℕ) → Reply
of_state (processed ∷ stored_name ∷ stored ∷ waiting_name ∷ waiting ∷ missing_name ∷ missing ∷ bad_name ∷ bad ∷ mark_name ∷ mark ∷ whole_name ∷ whole ∷ []) =
    State (digits_value 10 processed) (digits_value 10 stored) (digits_value 10 waiting) (digits_value 10 missing) (digits_value 10 bad) (bytes_eq mark (codes "set")) (bytes_eq whole (codes "yes"))
of_state words = Done

-- the numbers of finished work
abbrev of_worked : List ℕ → List ℕ → List (List ℕ) → Reply
of_worked processed missing (bad ∷ []) = Worked (digits_value 10 processed) (digits_value 10 missing) (digits_value 10 bad)
of_worked processed missing words = Done

abbrev of_words : List (List ℕ) → List ℕ → Reply × List ℕ
of_words [] rest = (Done, rest)
of_words (word ∷ []) rest = (of_one_word (bytes_of_hex word) word, rest)
of_words (word ∷ second ∷ []) rest =
    if bytes_eq word (codes "ok") then (Priority (digits_value 10 second), rest)
    else (if bytes_eq word (codes "deleted") then (Deleted (digits_value 10 second), rest)
    else (if bytes_eq word (codes "rows") then (Rows (rows_from (digits_value 10 second) rest).0, (rows_from (digits_value 10 second) rest).1)
    else (if bytes_eq word (codes "heads") then (Heads (heads_from (digits_value 10 second) rest).0, (heads_from (digits_value 10 second) rest).1)
    else (if bytes_eq word (codes "feed") then (Events (events_from (digits_value 10 second) rest).0, (events_from (digits_value 10 second) rest).1)
    else (if bytes_eq word (codes "message") then (Message (digits_value 10 second), rest)
    else (if bytes_eq word (codes "queued") then (Queued (digits_value 10 second), rest)
    else (if bytes_eq word (codes "bad") then (Bad (digits_value 10 second), rest)
    else (if bytes_eq word (codes "again") then (Again (digits_value 10 second), rest)
    else (if bytes_eq word (codes "open") then (OpenGaps (digits_value 10 second), rest)
    else (if bytes_eq word (codes "same") then (Same (bytes_eq second (codes "yes")), rest)
    else (of_second second, rest)))))))))))
of_words (word ∷ second ∷ third ∷ words) rest =
    if bytes_eq word (codes "worked") then (of_worked second third words, rest)
    else (if bytes_eq word (codes "stormed") then (Stormed (digits_value 10 second) (digits_value 10 third), rest)
    else (if bytes_eq word (codes "car") then (Car (digits_value 10 second) (digits_value 10 third), rest)
    else (if bytes_eq word (codes "imported") then (Imported (digits_value 10 second) (digits_value 10 third), rest)
    else (if bytes_eq second (codes "key") then (RefusedKey (digits_value 10 third), rest)
    else (if bytes_eq second (codes "size") then (RefusedSize (digits_value 10 third), rest)
    else (if bytes_eq second (codes "clash") then (RefusedClash (cid_of third), rest)
    else (if bytes_eq second (codes "roots") then (RefusedRoots (digits_value 10 third), rest)
    else (if bytes_eq second (codes "car") then (RefusedCar (digits_value 10 third), rest)
    else (of_state (third ∷ words), rest)))))))))

-- the reply at the front of a text, and what follows it
abbrev told : List ℕ → Reply × List ℕ
told text = of_words (words_of (cut 10 text).0) (cut 10 text).1

told_of_one : (word text rest : List ℕ) → has_no_feed word ≡ true → list_all (λ byte. not (byte == 32)) word ≡ true → is_graphic text ≡ true → told (pair_line word text ++ rest) ≡ of_words (word ∷ text ∷ []) rest
told_of_one word text rest none one graphic =
    rw (line_is_cut word text rest none graphic) (ap (λ words. of_words words rest) (joined_is_split word (text ∷ []) one (rw (graphic_no_space text graphic) refl)))

told_refused : (word text rest : List ℕ) → has_no_feed word ≡ true → list_all (λ byte. not (byte == 32)) word ≡ true → is_graphic text ≡ true → told (pair_line (codes "refused " ++ word) text ++ rest) ≡ of_words (codes "refused" ∷ word ∷ text ∷ []) rest
told_refused word text rest none one graphic =
    ap (λ (p : List ℕ × List ℕ). of_words (words_of p.0) p.1) (line_is_cut (codes "refused " ++ word) text rest none graphic)
    ∙ ap (λ words. of_words words rest) (joined_is_split (codes "refused") (word ∷ text ∷ []) refl (rw (one, graphic_no_space text graphic) refl))

told_value : (bytes rest : List ℕ) → IsBytes bytes → told (reply_text (Value (Some bytes)) ++ rest) ≡ (Value (Some bytes), rest)
told_value bytes rest are =
    let graphic = graphic_hex bytes are in
    let flat = append_assoc (hex_text bytes) (10 ∷ []) rest in
    let text : cut 10 (reply_text (Value (Some bytes)) ++ rest) ≡ (hex_text bytes, rest) = ap (cut 10) flat ∙ cut_at 10 (hex_text bytes) rest (omega arith) graphic in
    ap (λ (p : List ℕ × List ℕ). of_words (words_of p.0) p.1) text
    ∙ ap (λ words. of_words words rest) (joined_is_split (hex_text bytes) [] (graphic_no_space (hex_text bytes) graphic) refl)
    ∙ ap (λ (o : Option (List ℕ)). (of_one_word o (hex_text bytes), rest)) (written_hex bytes are)

-- words that are joined, with a line feed at the end
joined_has_no_feed : (word : List ℕ) (words : List (List ℕ)) → is_graphic word ≡ true → list_all is_graphic words ≡ true → has_no_feed (join_with_byte 32 (word ∷ words)) ≡ true
joined_has_no_feed word [] first all = graphic_no_feed word first
joined_has_no_feed word (next ∷ words) first all =
    let parts = and_parts (is_graphic next) (list_all is_graphic words) all in
    no_feed_append word (32 ∷ join_with_byte 32 (next ∷ words)) (graphic_no_feed word first) (joined_has_no_feed next words parts.0 parts.1)

all_no_space : (words : List (List ℕ)) → list_all is_graphic words ≡ true → list_all (λ word. list_all (λ byte. not (byte == 32)) word) words ≡ true
all_no_space [] all = refl
all_no_space (word ∷ words) all =
    let parts = and_parts (is_graphic word) (list_all is_graphic words) all in
    rw (graphic_no_space word parts.0, all_no_space words parts.1) refl

told_words : (word : List ℕ) (words : List (List ℕ)) (rest : List ℕ) → is_graphic word ≡ true → list_all is_graphic words ≡ true → told (join_with_byte 32 (word ∷ words) ++ 10 ∷ rest) ≡ of_words (word ∷ words) rest
told_words word words rest first all =
    let text = join_with_byte 32 (word ∷ words) in
    ap (λ (p : List ℕ × List ℕ). of_words (words_of p.0) p.1) (feed_is_cut text rest (joined_has_no_feed word words first all))
    ∙ ap (λ words. of_words words rest) (joined_is_split word words (graphic_no_space word first) (all_no_space words all))

graphic_mark : (mark : Bool) → is_graphic (clear_or_set mark) ≡ true
graphic_mark true = refl
graphic_mark false = refl

graphic_yes : (yes : Bool) → is_graphic (yes_or_no yes) ≡ true
graphic_yes true = refl
graphic_yes false = refl

mark_is_read : (mark : Bool) → bytes_eq (clear_or_set mark) (codes "set") ≡ mark
mark_is_read true = refl
mark_is_read false = refl

yes_is_read : (yes : Bool) → bytes_eq (yes_or_no yes) (codes "yes") ≡ yes
yes_is_read true = refl
yes_is_read false = refl

told_state : (processed stored waiting missing bad : ℕ) (mark whole : Bool) (rest : List ℕ) → IsTyped (State processed stored waiting missing bad mark whole) → told (reply_text (State processed stored waiting missing bad mark whole) ++ rest) ≡ (State processed stored waiting missing bad mark whole, rest)
told_state processed stored waiting missing bad mark whole rest typed =
    let words : List (List ℕ) = codes "processed" ∷ decimal processed ∷ codes "stored" ∷ decimal stored ∷ codes "waiting" ∷ decimal waiting ∷ codes "missing" ∷ decimal missing ∷ codes "bad" ∷ decimal bad ∷ mark_words mark whole in
    let graphic : list_all is_graphic words ≡ true = rw (graphic_decimal processed typed.0, graphic_decimal stored typed.1, graphic_decimal waiting typed.2, graphic_decimal missing typed.3, graphic_decimal bad typed.4, graphic_mark mark, graphic_yes whole) refl in
    ap told (append_assoc (join_with_byte 32 (codes "state" ∷ words)) (10 ∷ []) rest)
    ∙ told_words (codes "state") words rest refl graphic
    ∙ state_is_read
  where
    state_is_read : of_words (count_words processed stored waiting missing bad ++ mark_words mark whole) rest ≡ (State processed stored waiting missing bad mark whole, rest)
    state_is_read = rw (number_is_read processed typed.0, number_is_read stored typed.1, number_is_read waiting typed.2, number_is_read missing typed.3, number_is_read bad typed.4, mark_is_read mark, yes_is_read whole) refl

told_worked : (processed missing bad : ℕ) (rest : List ℕ) → IsTyped (Worked processed missing bad) → told (reply_text (Worked processed missing bad) ++ rest) ≡ (Worked processed missing bad, rest)
told_worked processed missing bad rest typed =
    let words : List (List ℕ) = decimal processed ∷ decimal missing ∷ decimal bad ∷ [] in
    let graphic : list_all is_graphic words ≡ true = rw (graphic_decimal processed typed.0, graphic_decimal missing typed.1, graphic_decimal bad typed.2) refl in
    ap told (append_assoc (join_with_byte 32 (codes "worked" ∷ words)) (10 ∷ []) rest)
    ∙ told_words (codes "worked") words rest refl graphic
    ∙ worked_is_read
  where
    worked_is_read : of_words (codes "worked" ∷ decimal processed ∷ decimal missing ∷ decimal bad ∷ []) rest ≡ (Worked processed missing bad, rest)
    worked_is_read = rw (number_is_read processed typed.0, number_is_read missing typed.1, number_is_read bad typed.2) refl

told_stormed : (made same : ℕ) (rest : List ℕ) → IsTyped (Stormed made same) → told (reply_text (Stormed made same) ++ rest) ≡ (Stormed made same, rest)
told_stormed made same rest typed =
    let words : List (List ℕ) = decimal made ∷ decimal same ∷ [] in
    let graphic : list_all is_graphic words ≡ true = rw (graphic_decimal made typed.0, graphic_decimal same typed.1) refl in
    ap told (append_assoc (join_with_byte 32 (codes "stormed" ∷ words)) (10 ∷ []) rest)
    ∙ told_words (codes "stormed") words rest refl graphic
    ∙ stormed_is_read
  where
    stormed_is_read : of_words (codes "stormed" ∷ decimal made ∷ decimal same ∷ []) rest ≡ (Stormed made same, rest)
    stormed_is_read = rw (number_is_read made typed.0, number_is_read same typed.1) refl

-- a word and two numbers
told_counts : (word : List ℕ) (first second : ℕ) (rest : List ℕ) → is_graphic word ≡ true → IsWide first → IsWide second → told (counts_text word first second ++ 10 ∷ rest) ≡ of_words (word ∷ decimal first ∷ decimal second ∷ []) rest
told_counts word first second rest graphic wide also = told_words word (decimal first ∷ decimal second ∷ []) rest graphic (rw (graphic_decimal first wide, graphic_decimal second also) refl)

told_car : (number len : ℕ) (rest : List ℕ) → IsTyped (Car number len) → told (reply_text (Car number len) ++ rest) ≡ (Car number len, rest)
told_car number len rest typed =
    ap told (append_assoc (counts_text (codes "car") number len) (10 ∷ []) rest)
    ∙ told_counts (codes "car") number len rest refl typed.0 typed.1
    ∙ car_is_read
  where
    car_is_read : of_words (codes "car" ∷ decimal number ∷ decimal len ∷ []) rest ≡ (Car number len, rest)
    car_is_read = rw (number_is_read number typed.0, number_is_read len typed.1) refl

told_imported : (stored queued : ℕ) (rest : List ℕ) → IsTyped (Imported stored queued) → told (reply_text (Imported stored queued) ++ rest) ≡ (Imported stored queued, rest)
told_imported stored queued rest typed =
    ap told (append_assoc (counts_text (codes "imported") stored queued) (10 ∷ []) rest)
    ∙ told_counts (codes "imported") stored queued rest refl typed.0 typed.1
    ∙ imported_is_read
  where
    imported_is_read : of_words (codes "imported" ∷ decimal stored ∷ decimal queued ∷ []) rest ≡ (Imported stored queued, rest)
    imported_is_read = rw (number_is_read stored typed.0, number_is_read queued typed.1) refl

told_reply : (reply : Reply) (rest : List ℕ) → IsReadAgain → IsTyped reply → told (reply_text reply ++ rest) ≡ (reply, rest)
unfolding decode_pairs
told_reply Done rest again typed = refl
told_reply (Priority priority) rest again typed =
    told_of_one (codes "ok") (decimal priority) rest refl refl (graphic_decimal priority typed) ∙ ap (λ (n : ℕ). (Priority n, rest)) (number_is_read priority typed)
told_reply (Deleted blocks) rest again typed =
    told_of_one (codes "deleted") (decimal blocks) rest refl refl (graphic_decimal blocks typed) ∙ ap (λ (n : ℕ). (Deleted n, rest)) (number_is_read blocks typed)
told_reply (Value (Some bytes)) rest again typed = told_value bytes rest typed
told_reply (Value None) rest again typed = refl
told_reply (Has true) rest again typed = refl
told_reply (Has false) rest again typed = refl
told_reply (Rows rows) rest again typed =
    ap told (append_assoc (number_line (codes "rows") (length rows)) (flat_map row_text rows) rest)
    ∙ told_of_one (codes "rows") (decimal (length rows)) (flat_map row_text rows ++ rest) refl refl (graphic_decimal (length rows) typed.0)
    ∙ ap (λ (n : ℕ). (Rows (rows_from n (flat_map row_text rows ++ rest)).0, (rows_from n (flat_map row_text rows ++ rest)).1)) (number_is_read (length rows) typed.0)
    ∙ ap (λ (p : List (List ℕ × List ℕ) × List ℕ). (Rows p.0, p.1)) (rows_are_read rows rest typed.1)
told_reply (Heads heads) rest again typed =
    ap told (append_assoc (number_line (codes "heads") (length heads)) (flat_map head_text heads) rest)
    ∙ told_of_one (codes "heads") (decimal (length heads)) (flat_map head_text heads ++ rest) refl refl (graphic_decimal (length heads) typed.0)
    ∙ ap (λ (n : ℕ). (Heads (heads_from n (flat_map head_text heads ++ rest)).0, (heads_from n (flat_map head_text heads ++ rest)).1)) (number_is_read (length heads) typed.0)
    ∙ ap (λ (p : List (Cid × ℕ) × List ℕ). (Heads p.0, p.1)) (heads_are_read heads rest again typed.1)
told_reply (Message number) rest again typed =
    told_of_one (codes "message") (decimal number) rest refl refl (graphic_decimal number typed) ∙ ap (λ (n : ℕ). (Message n, rest)) (number_is_read number typed)
told_reply (Queued count) rest again typed =
    told_of_one (codes "queued") (decimal count) rest refl refl (graphic_decimal count typed) ∙ ap (λ (n : ℕ). (Queued n, rest)) (number_is_read count typed)
told_reply Processed rest again typed = refl
told_reply Missing rest again typed = refl
told_reply (Bad damage) rest again typed =
    told_of_one (codes "bad") (decimal damage) rest refl refl (graphic_decimal damage typed) ∙ ap (λ (n : ℕ). (Bad n, rest)) (number_is_read damage typed)
told_reply Idle rest again typed = refl
told_reply (Worked processed missing bad) rest again typed = told_worked processed missing bad rest typed
told_reply (Again processed) rest again typed =
    told_of_one (codes "again") (decimal processed) rest refl refl (graphic_decimal processed typed) ∙ ap (λ (n : ℕ). (Again n, rest)) (number_is_read processed typed)
told_reply Clean rest again typed = refl
told_reply (OpenGaps gaps) rest again typed =
    told_of_one (codes "open") (decimal gaps) rest refl refl (graphic_decimal gaps typed) ∙ ap (λ (n : ℕ). (OpenGaps n, rest)) (number_is_read gaps typed)
told_reply (Stormed made same) rest again typed = told_stormed made same rest typed
told_reply (State processed stored waiting missing bad mark whole) rest again typed = told_state processed stored waiting missing bad mark whole rest typed
told_reply (Same true) rest again typed = refl
told_reply (Same false) rest again typed = refl
told_reply (Car number len) rest again typed = told_car number len rest typed
told_reply (Imported stored queued) rest again typed = told_imported stored queued rest typed
told_reply (Events events) rest again typed =
    ap told (append_assoc (number_line (codes "feed") (length events)) (flat_map event_text events) rest)
    ∙ told_of_one (codes "feed") (decimal (length events)) (flat_map event_text events ++ rest) refl refl (graphic_decimal (length events) typed.0)
    ∙ ap (λ (n : ℕ). (Events (events_from n (flat_map event_text events ++ rest)).0, (events_from n (flat_map event_text events ++ rest)).1)) (number_is_read (length events) typed.0)
    ∙ ap (λ (p : List (ℕ × List ℕ × Option (List ℕ)) × List ℕ). (Events p.0, p.1)) (events_are_read events rest typed.1)
told_reply Stopped rest again typed = refl
told_reply FaultKeeper rest again typed = refl
told_reply FaultPeer rest again typed = refl
told_reply (RefusedKey number) rest again typed =
    told_refused (codes "key") (decimal number) rest refl refl (graphic_decimal number typed) ∙ ap (λ (n : ℕ). (RefusedKey n, rest)) (number_is_read number typed)
told_reply RefusedValue rest again typed = refl
told_reply (RefusedSize len) rest again typed =
    told_refused (codes "size") (decimal len) rest refl refl (graphic_decimal len typed) ∙ ap (λ (n : ℕ). (RefusedSize n, rest)) (number_is_read len typed)
told_reply RefusedPriority rest again typed = refl
told_reply (RefusedClash cid) rest again typed =
    told_refused (codes "clash") (cid_text cid.0) rest refl refl (graphic_cid cid typed) ∙ ap (λ (c : Cid). (RefusedClash c, rest)) (cid_is_read again cid typed)
told_reply RefusedBatch rest again typed = refl
told_reply RefusedCast rest again typed = refl
told_reply RefusedOpen rest again typed = refl
told_reply (RefusedRoots number) rest again typed =
    told_refused (codes "roots") (decimal number) rest refl refl (graphic_decimal number typed) ∙ ap (λ (n : ℕ). (RefusedRoots n, rest)) (number_is_read number typed)
told_reply (RefusedCar number) rest again typed =
    told_refused (codes "car") (decimal number) rest refl refl (graphic_decimal number typed) ∙ ap (λ (n : ℕ). (RefusedCar n, rest)) (number_is_read number typed)
told_reply RefusedView rest again typed = refl

pub told_apart : (reply other : Reply) (after behind : List ℕ) → IsReadAgain → IsTyped reply → IsTyped other → reply_text reply ++ after ≡ reply_text other ++ behind → (reply ≡ other) × (after ≡ behind)
told_apart reply other after behind again typed also same =
    let both : (reply, after) ≡ (other, behind) = sym (told_reply reply after again typed) ∙ ap told same ∙ told_reply other behind again also in
    (ap (λ (p : Reply × List ℕ). p.0) both, ap (λ (p : Reply × List ℕ). p.1) both)

-- ---- the replies of a text

line_has_bytes : (text rest : List ℕ) → (text ++ 10 ∷ []) ++ rest ≡ [] → ⊥
line_has_bytes [] rest h = cc h
line_has_bytes (byte ∷ text) rest h = cc h

has_bytes : (reply : Reply) (rest : List ℕ) → reply_text reply ++ rest ≡ [] → ⊥
has_bytes (Value (Some bytes)) rest h = line_has_bytes (hex_text bytes) rest h
has_bytes (Value None) rest h = cc h
has_bytes (Has true) rest h = cc h
has_bytes (Has false) rest h = cc h
has_bytes (Same true) rest h = cc h
has_bytes (Same false) rest h = cc h
has_bytes reply rest h = cc h

pub all_told_apart : (replies others : List Reply) → IsReadAgain → AllByRecursion IsTyped replies → AllByRecursion IsTyped others → flat_map reply_text replies ≡ flat_map reply_text others → replies ≡ others
all_told_apart [] [] again typed also same = refl
all_told_apart [] (other ∷ others) again typed also same = absurd (has_bytes other (flat_map reply_text others) (sym same))
all_told_apart (reply ∷ replies) [] again typed also same = absurd (has_bytes reply (flat_map reply_text replies) same)
all_told_apart (reply ∷ replies) (other ∷ others) again typed also same =
    let apart = told_apart reply other (flat_map reply_text replies) (flat_map reply_text others) again typed.0 also.0 same in
    let rest = all_told_apart replies others again typed.1 also.1 apart.1 in
    λ i. apart.0 i ∷ rest i
