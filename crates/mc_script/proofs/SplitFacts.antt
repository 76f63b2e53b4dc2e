-- The words that a split gives, in a vector with places of its own.
use Rattle.std.proofs.Common.{◌≡◌, ◌∙◌, List, map, Option, Result, Ok, Err, IfOk, ap}
use Rattle.std.specs.Bool.{⊤}
use Rattle.std.specs.Iterator.{DrainsIf}
use Rattle.std.specs.Result.{MatchResult}
use Rattle.std.proofs.lemmas.Iterator.{YieldsList, items_from_drains}
use Rattle.smallvec.specs.SmallVec.{SmallVec}

pub small_from_collect : {S A B E : Type 0} {steps : S → Option A → S → Type 0} {v : A → B} {s : S} {all : List B} (r : Result (SmallVec A) E) → MatchResult r (λ w. (xs : List A) × DrainsIf steps ⊤ s xs × (w.items ≡ xs)) (λ _. ⊤) → YieldsList steps v s all → IfOk r (λ w. map v w.items ≡ all)
small_from_collect {v = v} (Ok w) d e = ap (map v) d.2 ∙ items_from_drains d.0 d.1 e
small_from_collect (Err x) d e = tt
