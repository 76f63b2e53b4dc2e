-- What is said of the output of a generated script.
use Rattle.std.specs.Prelude.{◌≡◌, ℕ, ◌+◌, ◌==◌, ◌||◌, Bool, if◌then◌else◌, List, [], ◌∷◌, ◌++◌, length, codes}
use Rattle.std.specs.Fmt.{decimal}
use Rattle.std.specs.List.{count_by, flat_map}
use Rattle.hex.specs.Hex.{encode_lower}
use Rattle.sha2.specs.Hashers.{Holds256}
use Rattle.sha2.specs.Sha256.{sha256}
use Rattle.mc_gen.specs.declared.summary.Summary.{Summary}

-- the output of a script: the replies to its lines, one after another
abbrev pub output_of : List (List ℕ) → List ℕ
output_of replies = flat_map (λ reply. reply) replies

abbrev pub is_feed : ℕ → Bool
is_feed byte = byte == 10

-- how many lines an output has, each with a line feed at its end
abbrev pub lines_in : List ℕ → ℕ
lines_in text = count_by is_feed text

-- The numbers, from 0 on, of the two `same` lines of a script with so many drawn lines: before them stand the drawn
-- ones, three `cast`s, and three times three `hear`s and a `work`.
abbrev pub is_same_line : ℕ → ℕ → Bool
is_same_line count number = number == count + 15 || number == count + 16

-- the replies to the lines whose numbers pass, where the first has this number
abbrev pub replies_at : (ℕ → Bool) → ℕ → List (List ℕ) → List ℕ
replies_at test number [] = []
replies_at test number (reply ∷ replies) = (if test number then reply else []) ++ replies_at test (number + 1) replies

-- a line of a summary
abbrev pub named_line : List ℕ → List ℕ → List ℕ
named_line name value = name ++ 32 ∷ value ++ 10 ∷ []

-- the numbers of lines and of bytes of the output, its SHA-256 in lower-case hexadecimal digits, and the replies to the
-- two `same` lines
abbrev pub summary_text : ℕ → List (List ℕ) → List ℕ
summary_text count replies =
    named_line (codes "lines") (decimal (lines_in (output_of replies)))
    ++ named_line (codes "bytes") (decimal (length (output_of replies)))
    ++ named_line (codes "sha256") (encode_lower (sha256 (output_of replies)))
    ++ replies_at (is_same_line count) 0 replies

-- a summary is one of these replies, to the first lines of a script with so many drawn ones
pub record Sums (count : ℕ) (summary : Summary) (replies : List (List ℕ)) : Type 0 where
  pub same_from : summary.first_same ≡ count + 15
  pub answered : summary.replies ≡ length replies
  pub lines : summary.lines ≡ lines_in (output_of replies)
  pub bytes : summary.bytes ≡ length (output_of replies)
  pub digest : Holds256 summary.hasher (output_of replies)
  pub same : summary.same ≡ replies_at (is_same_line count) 0 replies
