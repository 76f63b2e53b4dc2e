-- The first thing is taken out, and one is put before all.
use Rattle.std.proofs.Common.{◌≡◌, ◌≤◌, Bool, true, List, [], ◌∷◌, Result, Ok, Err, IsOk, length, true≢false, sym, arith}
use Rattle.std.specs.Prelude.{is_ok, slice_index_or, if◌then◌else◌}
use Rattle.std.specs.List.{insert, remove}

pub first_taken : {T : Type 0} (old new : List T) (first : T) → 1 ≤ length old → first ≡ slice_index_or old 0 first → new ≡ remove old 0 → old ≡ first ∷ new
first_taken [] new first some value items = absurd (omega (arith, some))
first_taken (x ∷ xs) new first some value items = λ i. sym value i ∷ sym items i

pub put_before : {T A E : Type 0} (result : Result A E) (old new : List T) (first : T) → IsOk result → new ≡ (if is_ok result then insert old 0 first else old) → new ≡ first ∷ old
put_before (Ok done) old new first ok items = items
put_before (Err failed) old new first ok items = absurd (true≢false (sym ok))
