-- How a key is printed.
use Rattle.std.specs.Prelude.{ℕ, List, [], ◌∷◌, Bool, ◌&&◌, ◌==◌, not, if◌then◌else◌, codes}
use Rattle.std.specs.Char.{is_ascii_graphic}
use Rattle.std.specs.List.{flat_map}
use Rattle.percent_encoding.specs.Percent.{percent_encode_byte}

-- from `!` (21) to `~` (7e), but not `%` (25)
abbrev pub is_plain : ℕ → Bool
is_plain byte = is_ascii_graphic byte && not (byte == 37)

-- a plain byte as it is, and any other as `%` and two upper-case hexadecimal digits (URL Standard, section 1.3)
abbrev pub byte_text : ℕ → List ℕ
byte_text byte = if is_plain byte then byte ∷ [] else percent_encode_byte byte

-- the text of a key, `%` for the empty one
abbrev pub key_text : List ℕ → List ℕ
key_text [] = codes "%"
key_text (byte ∷ bytes) = flat_map byte_text (byte ∷ bytes)
