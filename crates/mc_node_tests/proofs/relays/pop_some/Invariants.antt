use Rattle.std.proofs.Common.{◌≡◌}
use Rattle.mc_relay.specs.Ends.{IsTakerOf, taker_knows}
use Rattle.mc_node_tests.proofs.relays.pop_some.Given as goal

abbrev pub invariant-loop : goal.invariant-loop
invariant-loop g l = IsTakerOf l.relay l.taker × ((taker_knows l.taker).made ≡ (taker_knows l.fn.taker).made)
