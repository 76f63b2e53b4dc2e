-- What a read that doesn't wait does.
use Rattle.std.specs.Prelude.{◌≡◌, ◌≢◌, ⊤, [], ◌∷◌, ◌++◌, Result, Ok, Err}
use Rattle.mc_turn.specs.declared.view.View.{View}
use Rattle.mc_core.specs.declared.CoreError.{CoreError}
use Rattle.mc_node.specs.declared.error.TryError.{TryError}
use Rattle.mc_node.specs.declared.error.TryError.TheVariants.{Core, Busy}

-- what the exchange found is noted: 0, or the word of the answer, which isn't 0
abbrev pub Tries : {E T : Type 0} → Result T TryError → View E → View E → Type 0
Tries (Ok value) before after = after.tried ≡ before.tried ++ 0 ∷ []
Tries (Err (Core error)) before after = after.tried ≡ before.tried ++ 0 ∷ []
Tries (Err (Busy word)) before after = (word ≢ 0) × (after ≡ record before { tried = before.tried ++ word ∷ [] })

-- and where that is 0, it is a call like one that waits
abbrev pub IfFree : {T : Type 0} → Result T TryError → (Result T CoreError → Type 0) → Type 0
IfFree (Ok value) P = P (Ok value)
IfFree (Err (Core error)) P = P (Err error)
IfFree (Err (Busy word)) P = ⊤
