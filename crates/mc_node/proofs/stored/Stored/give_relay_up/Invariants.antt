use Rattle.std.proofs.Common.{◌≡◌, ◌≤◌}
use Rattle.std.specs.Prelude.{is_some}
use Rattle.mc_node.specs.Fillings.{empties}
use Rattle.mc_node.proofs.stored.Stored.give_relay_up.Given as goal

abbrev pub invariant-loop : goal.invariant-loop
invariant-loop g l = record {
  log : l.self.log.items ≡ l.fn.self.log.items;
  relay : is_some l.self.taker ≡ is_some l.fn.self.taker;
  noted : empties l.fn.self.taker ≤ empties l.self.taker;
}
