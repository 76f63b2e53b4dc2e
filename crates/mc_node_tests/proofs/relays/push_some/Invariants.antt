use Rattle.mc_relay.specs.Ends.{IsGiverOf}
use Rattle.mc_node_tests.proofs.relays.push_some.Given as goal

abbrev pub invariant-loop-priority : goal.invariant-loop-priority
invariant-loop-priority g l = IsGiverOf l.relay l.giver
