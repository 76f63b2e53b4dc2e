-- What holds where a keeper tells, over reads one after another.
use Rattle.std.proofs.Common.{◌≡◌, subst, Option, Some, None}
use Rattle.std.specs.Prelude.{IfSome}

-- what holds of all is so where it is told
pub told_all : {A : Type 0} {P : A → Type 0} (told : Option A) → ((kept : A) → P kept) → IfSome told P
told_all None all = tt
told_all (Some kept) all = all kept

-- two facts of what is told, as it was and as it still is
pub told_both : {A : Type 0} {P Q R : A → Type 0} (old told : Option A) → told ≡ old → IfSome old P → IfSome told Q → ((kept : A) → P kept → Q kept → R kept) → IfSome old R
told_both None told same p q both = tt
told_both {Q = Q} (Some kept) told same p q both = both kept p (subst (λ (t : Option _). IfSome t Q) same q)
