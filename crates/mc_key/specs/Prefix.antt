-- Which keys a prefix selects.
use Rattle.std.specs.Prelude.{ℕ, ◌==◌, ◌++◌, if◌then◌else◌, Bool, true, List, [], ◌∷◌, nat_eq}
use Rattle.std.specs.List.{starts_with}

-- a byte before a text without slashes at its end: a slash before nothing is one at the end too
abbrev pub onto_trimmed : ℕ → List ℕ → List ℕ
onto_trimmed byte [] = if byte == 47 then [] else byte ∷ []
onto_trimmed byte (next ∷ text) = byte ∷ next ∷ text

-- a text without the slashes at its end
abbrev pub without_slashes : List ℕ → List ℕ
without_slashes [] = []
without_slashes (byte ∷ text) = onto_trimmed byte (without_slashes text)

-- whether a key lies below a text without slashes at its end: below nothing does every key, and else it begins with the
-- text and a slash
abbrev pub is_below : List ℕ → List ℕ → Bool
is_below [] key = true
is_below (byte ∷ text) key = starts_with nat_eq key ((byte ∷ text) ++ 47 ∷ [])

-- whether a prefix selects a key: the slashes at the prefix's end don't count; nothing selects every key, and else the
-- key begins with the prefix and a slash
abbrev pub is_under : List ℕ → List ℕ → Bool
is_under prefix key = is_below (without_slashes prefix) key
