-- Of none of the places it is known what they offer.
use Rattle.std.proofs.Common.{ℕ, ◌≤◌, arith}

pub few_none : (places : ℕ) → 0 ≤ places
few_none places = omega arith
