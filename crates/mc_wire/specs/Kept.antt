-- Bytes that were only added to.
use Rattle.std.specs.Prelude.{◌≡◌, ℕ, List, length, take}

-- the first bytes are the old ones
abbrev pub Keeps : List ℕ → List ℕ → Type 0
Keeps old new = take (length old) new ≡ old
