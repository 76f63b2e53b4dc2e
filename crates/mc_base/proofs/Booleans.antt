-- Tests: what std's lemmas on Booleans don't say.
use Rattle.std.proofs.Common.{◌≡◌, Bool, true, false, cond, ◌||◌, Option, None, Some, refl, sym}
use Rattle.std.specs.Prelude.{is_some}

-- two tests that are true together are equal
pub same_truth : (a b : Bool) → (a ≡ true → b ≡ true) → (b ≡ true → a ≡ true) → a ≡ b
same_truth true b e f = sym (e refl)
same_truth false true e f = f refl
same_truth false false e f = refl

pub or_shift : (a b c : Bool) → (a || (b || c)) ≡ (b || (a || c))
or_shift true true c = refl
or_shift true false c = refl
or_shift false b c = refl

-- the same, where the first two stand together
pub or_after : (a b c : Bool) → ((a || b) || c) ≡ (b || (a || c))
or_after true true c = refl
or_after true false c = refl
or_after false b c = refl

pub cond_or : (a b : Bool) → cond a true b ≡ (a || b)
cond_or true b = refl
cond_or false b = refl

pub none_there : {A : Type 0} (found : Option A) → is_some found ≡ false → found ≡ None
none_there None e = refl
none_there (Some x) e = absurd (let f : true ≡ false = e in cc)
