-- Identifiers of one digest.
use Rattle.std.proofs.Common.{◌≡◌, ℕ, List, ap}
use Rattle.mc_base.specs.declared.cid.Cid.{Cid}

pub cid_same : (a b : Cid) → a.0 ≡ b.0 → a ≡ b
cid_same a b e = ap (λ (digest : List ℕ). record { 0 = digest }) e
