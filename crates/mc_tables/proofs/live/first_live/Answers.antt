use Rattle.std.specs.HashMap.{keys}
use Rattle.std.proofs.Common.{◌≡◌, ◌∙◌, ap, not, sym, subst, IfOk}
use Rattle.mc_tables.specs.Places.{last_in}
use Rattle.mc_tables.specs.Chains.{live_from}
use Rattle.mc_tombs.specs.Tombs.{has_tomb_in}
use Rattle.mc_tables.proofs.PruneFacts.{got_in, last_is_gone}
use Rattle.mc_tables.proofs.live.first_live.Goals as goal

pub returns-clause-rest : goal.returns-clause-rest
returns-clause-rest g c =
    let hidden = has_tomb_in c.args.tombs.now.keys.keys c.args.tombs.now.ids.keys c.args.tombs.now.pairs.keys c.args.key.now in
    subst (λ z. IfOk c.next_live.result (λ at. live_from (keys c.args.graph.now.blocks) hidden c.next_live.new.elements.nodes.items c.args.key.now at ≡ z))
    (last_is_gone (keys c.args.graph.now.blocks) hidden c.args.key.now c.args.elements.now.nodes.items (last_in c.args.elements.now.keys) c.in-Some.last c.in-Some-get.node.now c.args.elements.now.chains
    (sym c.last_of.ensures ∙ c.in-Some.is)
    (got_in c.args.elements.now.nodes.items c.deref.result.now c.in-Some.last c.in-Some-get.node.now c.deref.ensures.value c.in-Some-get.ensures.lookup.0 c.in-Some-get.ensures.lookup.1)
    (ap not (sym c.in_ok-is_node_hidden.ensures ∙ c.if-not-branch.false)))
    c.next_live.ensures.rest
