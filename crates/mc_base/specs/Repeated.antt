-- Bytes that come over and over.
use Rattle.std.specs.Prelude.{◌≡◌, ℕ, ◌+◌, ◌%◌, ◌<◌, List, length, slice_index}

-- this text is what comes from a place on where these bytes are repeated
abbrev pub IsRepeated : List ℕ → ℕ → List ℕ → Type 0
IsRepeated bytes at text = (i : ℕ) → i < length text → slice_index text i ≡ slice_index bytes ((at + i) % length bytes)
