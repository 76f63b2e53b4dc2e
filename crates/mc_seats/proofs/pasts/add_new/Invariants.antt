use Rattle.std.proofs.Common.{◌≡◌, ◌≤◌, length, vec_capacity}
use Rattle.mc_seats.specs.Pasts.{AreNew}
use Rattle.mc_seats.proofs.pasts.add_new.Given as goal

abbrev pub invariant-loop-added : goal.invariant-loop-added
invariant-loop-added l = AreNew l.pasts.items × (length l.pasts.items ≡ l._added) × (l.count ≤ vec_capacity l.pasts)
