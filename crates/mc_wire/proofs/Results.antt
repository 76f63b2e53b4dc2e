-- Readings that are equal.
use Rattle.std.proofs.Common.{◌≡◌, ℕ, ap, sym, Result, Ok, Err}
use Rattle.mc_base.specs.WireRead.{WireFault}

ok_is : {A : Type 0} (x y : A) → ◌≡◌ {A = Result A WireFault} (Ok x) (Ok y) → x ≡ y
ok_is x y e = cc

pub pair_is : {A : Type 0} (a value : A) (b len : ℕ) → ◌≡◌ {A = Result (A × ℕ) WireFault} (Ok (a, b)) (Ok (value, len)) → (value ≡ a) × (len ≡ b)
pair_is {A} a value b len e =
    let same : ◌≡◌ {A = A × ℕ} (a, b) (value, len) = ok_is (a, b) (value, len) e in
    (sym (ap (λ (pair : A × ℕ). pair.0) same), sym (ap (λ (pair : A × ℕ). pair.1) same))

pub err_is_no_ok : {A : Type 0} {P : Type 0} (fault : WireFault) (x : A) → ◌≡◌ {A = Result A WireFault} (Err fault) (Ok x) → P
err_is_no_ok fault x e = absurd (cc)
