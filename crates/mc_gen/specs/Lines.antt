-- The lines of a generated script.
use Rattle.std.specs.Prelude.{ℕ, ◌+◌, ◌/◌, ◌%◌, ◌^◌, List, [], ◌∷◌, ◌++◌, Bool, if◌then◌else◌, ◌==◌, ◌&&◌, ◌||◌, nat_lt}
use Rattle.std.specs.Prelude.{codes}
use Rattle.std.specs.Fmt.{decimal}
use Rattle.std.specs.Int.{to_be_bytes, w32}
use Rattle.hex.specs.Hex.{encode_lower}

-- the letter of a replica, from `a` for 0
abbrev pub letter : ℕ → List ℕ
letter replica = (97 + replica) ∷ []

-- one of 64 keys
abbrev pub key_of : ℕ → List ℕ
key_of draw = codes "/k/" ++ decimal (draw % 64)

-- the eight lower-case hexadecimal digits of a draw
abbrev pub value_of : ℕ → List ℕ
value_of draw = encode_lower (to_be_bytes w32 draw)

-- a name, a replica, and what comes behind it
abbrev pub command_of : List ℕ → ℕ → List ℕ → List ℕ
command_of name replica rest = name ++ 32 ∷ letter replica ++ rest

abbrev pub put_line : ℕ → ℕ → List ℕ
put_line replica draw = command_of (codes "put") replica (32 ∷ key_of draw ++ 32 ∷ value_of draw ++ 10 ∷ [])

abbrev pub del_line : ℕ → ℕ → List ℕ
del_line replica draw = command_of (codes "del") replica (32 ∷ key_of draw ++ 10 ∷ [])

abbrev pub cast_line : ℕ → List ℕ
cast_line replica = command_of (codes "cast") replica (10 ∷ [])

abbrev pub hear_line : ℕ → ℕ → List ℕ
hear_line replica message = command_of (codes "hear") replica (32 ∷ decimal message ++ 10 ∷ [])

abbrev pub work_line : ℕ → ℕ → List ℕ
work_line replica workers = command_of (codes "work") replica (32 ∷ decimal workers ++ 10 ∷ [])

-- whether the third draw makes a line a `cast`: by itself, or since there is no message to hear
abbrev pub is_cast : ℕ → ℕ → Bool
is_cast third sent = third % 8 == 5 || third % 8 == 6 && sent == 0

-- the line of three draws, where `sent` messages were sent
abbrev pub line_of_draws : ℕ → ℕ → ℕ → ℕ → List ℕ
line_of_draws first second third sent =
    if nat_lt (third % 8) 4 then put_line (first % 3) second
    else (if third % 8 == 4 then del_line (first % 3) second
    else (if is_cast third sent then cast_line (first % 3)
    else (if third % 8 == 6 then hear_line (first % 3) (second % sent + 1)
    else work_line (first % 3) (second % 4 + 1))))

-- the last messages are heard at a replica, and what is wanted is fetched
abbrev pub meeting_lines : ℕ → ℕ → List ℕ
meeting_lines replica sent =
    hear_line replica (sent + 1) ++ hear_line replica (sent + 2) ++ hear_line replica (sent + 3) ++ work_line replica 4

-- each replica sends its heads, each hears all three, and they are compared
abbrev pub last_lines : ℕ → List ℕ
last_lines sent =
    cast_line 0 ++ cast_line 1 ++ cast_line 2
    ++ meeting_lines 0 sent ++ meeting_lines 1 sent ++ meeting_lines 2 sent
    ++ codes "same a b\nsame b c\nquery a / 0 100\n"
