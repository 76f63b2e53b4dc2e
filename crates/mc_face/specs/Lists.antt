-- Words on lists.
use Rattle.std.specs.Prelude.{◌≡◌, nat_le, if◌then◌else◌, List, length, take}

-- ys begins with xs
abbrev pub Starts : {A : Type 0} → List A → List A → Type 0
Starts ys xs = take (length xs) ys ≡ xs

-- the longer of two lists, the first where neither is
abbrev pub longer : {A : Type 0} → List A → List A → List A
longer xs ys = if nat_le (length ys) (length xs) then xs else ys
