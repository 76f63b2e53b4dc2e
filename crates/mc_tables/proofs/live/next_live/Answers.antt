use Rattle.std.specs.HashMap.{keys}
use Rattle.std.proofs.Common.{◌∙◌, ap, not, sym, subst}
use Rattle.mc_tables.specs.Places.{last_in}
use Rattle.mc_tables.specs.Chains.{AreChains}
use Rattle.mc_tombs.specs.Tombs.{has_tomb_in}
use Rattle.mc_tables.proofs.PruneFacts.{got_in, leads_before, next_is_live, one_passed, pruning_goes}
use Rattle.mc_tables.proofs.live.next_live.Goals as goal

pub returns-then-not-branch-clause-live : goal.returns-then-not-branch-clause-live
returns-then-not-branch-clause-live g c =
    next_is_live (keys c.args.graph.now.blocks) (has_tomb_in c.args.tombs.now.keys.keys c.args.tombs.now.ids.keys c.args.tombs.now.pairs.keys c.args.key.now) c.args.key.now c.loop-next.elements.nodes.items (last_in c.args.elements.now.keys) c.args.place c.in-Some.next c.in-Some-get.node.now
    (subst (λ z. AreChains c.loop-next.elements.nodes.items (last_in z)) c.loop-next.invariant.keys c.loop-next.elements.chains) c.loop-next.invariant.pruning.on (sym c.before_of.ensures ∙ c.in-Some.is)
    (got_in c.loop-next.elements.nodes.items c.deref.result.now c.in-Some.next c.in-Some-get.node.now c.deref.ensures.value c.in-Some-get.ensures.lookup.0 c.in-Some-get.ensures.lookup.1) (ap not (sym c.in_ok-is_node_hidden.ensures ∙ c.if-not-branch.true))

pub returns-then-not-branch-clause-back : goal.returns-then-not-branch-clause-back
returns-then-not-branch-clause-back g c = leads_before c.loop-next.elements.nodes.items (last_in c.loop-next.elements.keys) c.args.place c.in-Some.next c.loop-next.elements.chains (sym c.before_of.ensures ∙ c.in-Some.is)

pub loop-next-smaller : goal.loop-next-smaller
loop-next-smaller g c = (one_passed (keys c.args.graph.now.blocks) (has_tomb_in c.args.tombs.now.keys.keys c.args.tombs.now.ids.keys c.args.tombs.now.pairs.keys) c.args.key.now c.loop-next.elements.nodes.items c.pass_over.new.elements.nodes.items (last_in c.args.elements.now.keys) c.args.place c.in-Some.next c.in-Some-get.node.now
    (subst (λ z. AreChains c.loop-next.elements.nodes.items (last_in z)) c.loop-next.invariant.keys c.loop-next.elements.chains) c.loop-next.invariant.pruning.on (sym c.before_of.ensures ∙ c.in-Some.is)
    (got_in c.loop-next.elements.nodes.items c.deref.result.now c.in-Some.next c.in-Some-get.node.now c.deref.ensures.value c.in-Some-get.ensures.lookup.0 c.in-Some-get.ensures.lookup.1) (ap not (sym c.in_ok-is_node_hidden.ensures ∙ c.if-not-branch.false)) c.pass_over.ensures.nodes).fewer

pub loop-next-preserved : goal.loop-next-preserved
loop-next-preserved g c = record {
  pruning = pruning_goes c.loop-next.invariant.pruning (one_passed (keys c.args.graph.now.blocks) (has_tomb_in c.args.tombs.now.keys.keys c.args.tombs.now.ids.keys c.args.tombs.now.pairs.keys) c.args.key.now c.loop-next.elements.nodes.items c.pass_over.new.elements.nodes.items (last_in c.args.elements.now.keys) c.args.place c.in-Some.next c.in-Some-get.node.now
      (subst (λ z. AreChains c.loop-next.elements.nodes.items (last_in z)) c.loop-next.invariant.keys c.loop-next.elements.chains) c.loop-next.invariant.pruning.on (sym c.before_of.ensures ∙ c.in-Some.is)
      (got_in c.loop-next.elements.nodes.items c.deref.result.now c.in-Some.next c.in-Some-get.node.now c.deref.ensures.value c.in-Some-get.ensures.lookup.0 c.in-Some-get.ensures.lookup.1) (ap not (sym c.in_ok-is_node_hidden.ensures ∙ c.if-not-branch.false)) c.pass_over.ensures.nodes);
  keys = c.pass_over.ensures.keys ∙ c.loop-next.invariant.keys;
  len = c.pass_over.ensures.len ∙ c.loop-next.invariant.len;
  capacity = c.pass_over.ensures.capacity ∙ c.loop-next.invariant.capacity;
}
