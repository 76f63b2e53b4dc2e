-- One call after another of an object that may tell.
use Rattle.std.proofs.Common.{Option, Some, None}
use Rattle.mc_base.specs.Told.{Told}

pub told_then : {A B C : Type 0} (P : A → B → Type 0) (Q : B → C → Type 0) (R : A → C → Type 0) → ((x : A) (y : B) (z : C) → P x y → Q y z → R x z) → (a : Option A) (b : Option B) (c : Option C) → Told a b P → Told b c Q → Told a c R
told_then P Q R join None b c p q = tt
told_then P Q R join (Some x) None c p q = absurd p
told_then P Q R join (Some x) (Some y) None p q = absurd q
told_then P Q R join (Some x) (Some y) (Some z) p q = join x y z p q

pub told_weaker : {A B : Type 0} (P Q : A → B → Type 0) → ((x : A) (y : B) → P x y → Q x y) → (a : Option A) (b : Option B) → Told a b P → Told a b Q
told_weaker P Q weaker None b p = tt
told_weaker P Q weaker (Some x) None p = absurd p
told_weaker P Q weaker (Some x) (Some y) p = weaker x y p

pub told_same : {A : Type 0} (P : A → A → Type 0) → ((x : A) → P x x) → (a : Option A) → Told a a P
told_same P same None = tt
told_same P same (Some x) = same x
