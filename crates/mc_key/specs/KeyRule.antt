-- The key rule: a key is slashes, each with a segment after it, in at most 1,024 bytes.
use Rattle.std.specs.Prelude.{◌≡◌, ◌↔◌, ℕ, ◌==◌, ◌&&◌, not, nat_lt, nat_le, if◌then◌else◌, Bool, true, false, List, []}
use Rattle.std.specs.Prelude.{◌∷◌, drop, length, Option, None, Some}
use Rattle.std.specs.List.{list_all, list_any, slice_split}
use Rattle.mc_key.specs.declared.fault.KeyFault.{KeyFault}
use Rattle.mc_key.specs.declared.fault.KeyFault.TheVariants.{Empty, NoSlash, TooLong, EmptySegment, DotSegment}

-- the parts of a text between its slashes, before the first and after the last
abbrev pub parts : List ℕ → List (List ℕ)
parts text = slice_split (λ byte. byte == 47) text

-- the segments: the parts between slashes and after the last one
abbrev pub segments : List ℕ → List (List ℕ)
segments text = drop 1 (parts text)

-- nothing
abbrev pub is_empty : List ℕ → Bool
is_empty [] = true
is_empty (byte ∷ segment) = false

-- `.` or `..`
abbrev pub is_dots : List ℕ → Bool
is_dots (byte ∷ []) = byte == 46
is_dots (byte ∷ next ∷ []) = (byte == 46) && (next == 46)
is_dots segment = false

-- a text that begins with a slash
abbrev pub begins : List ℕ → Bool
begins [] = false
begins (byte ∷ text) = byte == 47

-- whether a text is a key: it begins with a slash, has at most 1,024 bytes, and no segment that is empty, `.` or `..`
abbrev pub is_key : List ℕ → Bool
is_key text =
    begins text && nat_le (length text) 1024
    && list_all (λ segment. not (is_empty segment) && not (is_dots segment)) (segments text)

-- an empty segment, and then one of dots
abbrev pub segments_fault : List (List ℕ) → Option KeyFault
segments_fault list =
    if list_any is_empty list then Some EmptySegment
    else if list_any is_dots list then Some DotSegment
    else None

-- the first fault, where there is one, in the order of the list of faults
abbrev pub key_fault : List ℕ → Option KeyFault
key_fault text =
    if is_empty text then Some Empty
    else if not (begins text) then Some NoSlash
    else if nat_lt 1024 (length text) then Some TooLong
    else segments_fault (segments text)

-- the number of a fault
abbrev pub fault_number : KeyFault → ℕ
fault_number Empty = 1
fault_number NoSlash = 2
fault_number TooLong = 3
fault_number EmptySegment = 4
fault_number DotSegment = 5

-- a text has no fault exactly where it is a key
abbrev pub IsWithoutFault : Type 0
IsWithoutFault = (text : List ℕ) → (key_fault text ≡ None) ↔ (is_key text ≡ true)
