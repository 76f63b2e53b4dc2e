-- Of no more places than there are it is known what they offer: of none, and of all.
use Rattle.std.proofs.Common.{ℕ, ◌≤◌, arith}

pub few_none : (places : ℕ) → 0 ≤ places
few_none places = omega arith

pub few_all : (places : ℕ) → places ≤ places
few_all places = omega arith
