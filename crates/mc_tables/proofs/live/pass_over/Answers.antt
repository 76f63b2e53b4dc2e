use Rattle.std.proofs.Common.{◌∙◌, ap}
use Rattle.mc_tables.specs.Places.{last_in}
use Rattle.mc_tables.specs.Chains.{led_to}
use Rattle.mc_tables.proofs.PruneFacts.{chains_passed}
use Rattle.mc_tables.proofs.live.pass_over.Goals as goal

pub invariant_of-elements : goal.invariant_of-elements
invariant_of-elements g c = record {
  chains = chains_passed c.args.elements.now.nodes.items c.lead.new.nodes.items (last_in c.args.elements.now.keys) c.args.place c.args.next c.args.elements.now.chains c.requires.leads
      (c.lead.ensures.items ∙ ap (led_to c.args.elements.now.nodes.items c.args.place) c.spot_of-before.ensures);
}
