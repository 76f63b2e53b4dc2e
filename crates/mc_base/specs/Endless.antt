-- A source whose reads never end.
use Rattle.std.specs.Prelude.{◌≡◌, ◌<◌, ℕ, List, length, Bool, true, Result, IfOk}

-- a read that answers Ok gave at least one byte where it had room, and the source stays endless
abbrev pub StaysEndless : {E : Type 0} → Bool → Bool → Result ℕ E → List ℕ → Type 0
StaysEndless old new result into = old ≡ true → (new ≡ true) × IfOk result (λ count. 0 < length into → 0 < count)
