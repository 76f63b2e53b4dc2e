use Rattle.mc_tables.proofs.ChainFacts.{same_chains}
use Rattle.mc_tables.specs.Places.{last_in}
use Rattle.std.proofs.Common.{refl}
use Rattle.mc_tables.proofs.values.drop_value.Goals as goal

pub invariant_of-elements : goal.invariant_of-elements
invariant_of-elements g c = record {
  chains = same_chains c.args.elements.now.nodes.items c.args.elements.now.nodes.items (last_in c.args.elements.now.keys) (last_in c.set_value-had.new.keys) refl c.set_value-had.ensures.lasts c.args.elements.now.chains;
}
