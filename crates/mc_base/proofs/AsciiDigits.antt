-- Base32 texts are ASCII.
use Rattle.std.proofs.Common.{◌≡◌, ℕ, true, List, [], ◌∷◌, ◌++◌, map, refl, subst, sym}
use Rattle.std.specs.List.{flat_map, list_all, slice_index}
use Rattle.std.specs.Prelude.{nat_lt}
use Rattle.std.specs.Str.{IsAscii, IsUtf8}
use Rattle.std.proofs.lemmas.Bool.{and_parts, ltb-true}
use Rattle.std.proofs.lemmas.Str.{IsUtf8-append, IsUtf8-from_ascii}
use Rattle.std.proofs.lemmas.Str.Ascii.{IsAscii-nil, IsAscii-cons}
use Rattle.mc_base.specs.Base32.{alphabet32, base32_of, byte_bits, fives}
use Rattle.mc_base.specs.declared.base32.Case.{Case}
use Rattle.mc_base.specs.declared.base32.Case.TheVariants.{Upper, Lower}

-- bytes that pass the test, which computes on literals
ascii_from_test : (bytes : List ℕ) → list_all (λ byte. nat_lt byte 128) bytes ≡ true → IsAscii bytes
ascii_from_test [] h = IsAscii-nil
ascii_from_test (byte ∷ bytes) h =
    let parts = and_parts (nat_lt byte 128) (list_all (λ b. nat_lt b 128) bytes) h in
    IsAscii-cons byte bytes (ltb-true byte 128 parts.0) (ascii_from_test bytes parts.1)

ascii_alphabet : (case : Case) → IsAscii (alphabet32 case)
ascii_alphabet Upper = ascii_from_test (alphabet32 Upper) refl
ascii_alphabet Lower = ascii_from_test (alphabet32 Lower) refl

ascii_by_table : (table values : List ℕ) → IsAscii table → IsAscii (map (slice_index table) values)
ascii_by_table table [] h = IsAscii-nil
ascii_by_table table (value ∷ values) h = IsAscii-cons (slice_index table value) (map (slice_index table) values) (h value) (ascii_by_table table values h)

-- a base32 text is ASCII
pub ascii_base32 : (case : Case) (bytes : List ℕ) → IsAscii (base32_of case bytes)
ascii_base32 case bytes = ascii_by_table (alphabet32 case) (fives (flat_map byte_bits bytes)) (ascii_alphabet case)

-- after a text in UTF-8 it makes one
pub utf8_base32 : (prefix bytes : List ℕ) (case : Case) → IsUtf8 prefix → IsUtf8 (prefix ++ base32_of case bytes)
utf8_base32 prefix bytes case h = IsUtf8-append prefix (base32_of case bytes) h (IsUtf8-from_ascii (base32_of case bytes) (ascii_base32 case bytes))

-- what is written in two parts
pub utf8_parts : (prefix bytes part empty first whole : List ℕ) (case : Case) → IsUtf8 prefix → part ≡ prefix → empty ≡ [] → first ≡ empty ++ part → whole ≡ first ++ base32_of case bytes → IsUtf8 whole
utf8_parts prefix bytes part empty first whole case h same none begun done =
    subst (λ (text : List ℕ). IsUtf8 text) (sym (rw (done, begun, none, same) refl)) (utf8_base32 prefix bytes case h)
