-- What follows of a result where a call succeeds.
use Rattle.std.proofs.Common.{Result, Ok, Err, IfOk, OnOk}

pub if_ok : {T E : Type 0} (P Q : T → Type 0) (D : Type 0) (r : Result T E) → IfOk r P → OnOk r D → ((x : T) → P x → D → Q x) → IfOk r Q
if_ok P Q D (Ok x) p d f = f x p d
if_ok P Q D (Err e) p d f = p
