-- The names of files.
use Rattle.std.specs.Prelude.{ℕ, ◌+◌, min, List, [], ◌∷◌, ◌++◌, codes}

-- the letter of a replica: `a` for 0, and so on, up to `h`
abbrev pub letter_text : ℕ → List ℕ
letter_text index = (97 + min index 7) ∷ []

-- the file of a replica in a folder
abbrev pub name_text : List ℕ → ℕ → List ℕ
name_text dir index = dir ++ codes "/" ++ letter_text index ++ codes ".db"
