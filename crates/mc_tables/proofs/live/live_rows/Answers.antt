use Rattle.std.specs.HashMap.{keys}
use Rattle.std.proofs.Common.{◌∙◌, ◌++◌, ◌∷◌, [], ap, subst}
use Rattle.mc_keep.specs.declared.rows.ElementRow.{ElementRow}
use Rattle.mc_tables.specs.Places.{last_in}
use Rattle.mc_tables.specs.Chains.{AreChains, IsLiveAt, Pruned}
use Rattle.mc_tombs.specs.Tombs.{has_tomb_in}
use Rattle.mc_tables.proofs.PruneFacts.{got_in, listing_goes, IsListing}
use Rattle.mc_tables.proofs.live.live_rows.Goals as goal

pub loop-at-preserved : goal.loop-at-preserved
loop-at-preserved g c =
    let hidden = has_tomb_in c.args.tombs.now.keys.keys c.args.tombs.now.ids.keys c.args.tombs.now.pairs.keys in
    let nodes = c.loop-at.elements.nodes.items in
    let same = c.loop-at.invariant.keys in
    record {
      listing = listing_goes (subst (λ z. AreChains nodes (last_in z)) same c.loop-at.elements.chains)
          (subst (λ z. IsListing (keys c.args.graph.now.blocks) hidden c.args.key.now c.args.elements.now.nodes.items nodes (last_in c.args.elements.now.keys) c.loop-at.rows.items z) c.in-Some.is c.loop-at.invariant.listing)
          (got_in nodes c.deref.result.now c.in-Some.place c.in-Some-get.node.now c.deref.ensures.value c.in-Some-get.ensures.lookup.0 c.in-Some-get.ensures.lookup.1)
          (c.in_ok-push.ensures.items ∙ ap (λ (z : ElementRow). c.loop-at.rows.items ++ z ∷ []) c.in_ok-row_of.ensures)
          (subst (λ z. Pruned (keys c.args.graph.now.blocks) hidden nodes c.next_live.new.elements.nodes.items (last_in z)) same c.in_ok-at-2.ensures.pruned)
          (subst (λ z. IsLiveAt (keys c.args.graph.now.blocks) (hidden c.args.key.now) c.next_live.new.elements.nodes.items (last_in z) c.args.key.now c.in_ok-at-2.at) same c.in_ok-at-2.ensures.live)
          c.in_ok-at-2.ensures.rest;
      keys = c.in_ok-at-2.ensures.keys ∙ same;
      len = c.in_ok-at-2.ensures.len ∙ c.loop-at.invariant.len;
      capacity = c.in_ok-at-2.ensures.capacity ∙ c.loop-at.invariant.capacity;
    }
