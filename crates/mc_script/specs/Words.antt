-- The words of a line.
use Rattle.std.specs.Prelude.{ℕ, ◌-◌, ◌^◌, List, [], ◌∷◌, length, Option, Some, None, Bool, true, false, nat_le, nat_lt}
use Rattle.std.specs.Prelude.{if◌then◌else◌, ◌==◌, ◌&&◌, codes, map}
use denote.Ref.{Bor}
use Rattle.std.specs.List.{slice_split}
use Rattle.std.specs.Option.{option_map}
use Rattle.std.specs.Result.{result_ok}
use Rattle.std.specs.Str.{all_ascii_digits, bytes_eq}
use Rattle.std.specs.Str.Parse.{digits_value}
use Rattle.hex.specs.Hex.{decode_of}
use Rattle.mc_base.specs.declared.cid.Cid.{Cid}
use Rattle.mc_cidtext.specs.CidText.{read_cid_text}

-- the value goes on to what follows, where there is one
infixl 10 ◌>>=◌
abbrev pub ◌>>=◌ : {A B : Type 0} → Option A → (A → Option B) → Option B
None >>= next = None
Some value >>= next = next value

-- the bytes of a borrowed text, and of some
abbrev pub text_of : Bor (List ℕ) → List ℕ
text_of text = text.now

abbrev pub texts_of : List (Bor (List ℕ)) → List (List ℕ)
texts_of texts = map (λ text. text.now) texts

-- what stands before, between and after the spaces of a line
abbrev pub words_of : List ℕ → List (List ℕ)
words_of line = slice_split (λ byte. byte == 32) line

-- a word isn't empty, so one space stands between two words, and none at either end
abbrev pub is_word : List ℕ → Bool
is_word word = nat_lt 0 (length word)

-- the number of a replica, from 0 for `a` to 7 for `h`
abbrev pub replica_of : List ℕ → Option ℕ
replica_of (letter ∷ []) = if nat_le 97 letter && nat_le letter 104 then Some (letter - 97) else None
replica_of word = None

-- one to twenty decimal digits, with a value below 2^64
abbrev pub is_number : List ℕ → Bool
is_number word =
    nat_le 1 (length word)
    && (nat_le (length word) 20 && (all_ascii_digits word && nat_lt (digits_value 10 word) (2 ^ 64)))

abbrev pub number_of : List ℕ → Option ℕ
number_of word = if is_number word then Some (digits_value 10 word) else None

-- a dash for no bytes, or two hexadecimal digits (RFC 4648, section 8, in either case) for each byte, and at least two
abbrev pub bytes_of_hex : List ℕ → Option (List ℕ)
bytes_of_hex word =
    if bytes_eq word (codes "-") then Some []
    else (if nat_le 1 (length word) then result_ok (decode_of word) else None)

-- the number of a replica other than `r`
abbrev pub other_of : ℕ → List ℕ → Option ℕ
other_of r word = do
  other ← replica_of word
  if r == other then None else Some other

-- whether a link is up or down
abbrev pub way_of : List ℕ → Option Bool
way_of word =
    if bytes_eq word (codes "up") then Some true
    else (if bytes_eq word (codes "down") then Some false else None)

-- a number from 1 to `most`
abbrev pub is_up_to : ℕ → ℕ → Bool
is_up_to most number = nat_le 1 number && nat_le number most

abbrev pub up_to_of : ℕ → List ℕ → Option ℕ
up_to_of most word = do
  number ← number_of word
  if is_up_to most number then Some number else None

-- the identifier of a digest
abbrev pub cid_of : List ℕ → Cid
cid_of digest = record { 0 = digest }

-- the identifier of its text
abbrev pub identifier_of : List ℕ → Option Cid
identifier_of word = option_map cid_of (result_ok (read_cid_text word))
