use Rattle.std.proofs.Common.{◌≡◌, ◌∙◌, ◌++◌, ◌∷◌, [], not, true, false, ap, append_assoc, arith, length-append, subst, List}
use Rattle.std.specs.List.{list_any}
use Rattle.std.proofs.lemmas.Bool.{and_parts, not-true, or_parts}
use Rattle.mc_model.specs.declared.block.Stored.{Stored}
use Rattle.mc_model.specs.Ascending.{is_once}
use Rattle.mc_model.specs.Front.{same_cid}
use Rattle.mc_model.specs.Kept.{is_stored, cids_of}
use Rattle.mc_graph.specs.Graph.{graph_of}
use Rattle.mc_graph.proofs.GraphFacts.{still_new}
use Rattle.mc_graph.proofs.graph.put_blocks.Goals as goal

pub loop-stored-preserved : goal.loop-stored-preserved
loop-stored-preserved c =
    let held = graph_of c.loop-stored.graph.blocks in
    let rest = c.next.new.self.rest.items in
    let cid = c.in-Some.stored.cid in
    let new = or_parts (is_stored held cid) (list_any (λ (s : Stored). is_stored held s.cid) rest)
    (subst (λ (z : List Stored). list_any (λ (s : Stored). is_stored held s.cid) z ≡ false) c.in-Some.ensures.steps.0 c.loop-stored.invariant.new) in
    let once = and_parts (not (list_any (same_cid cid) (cids_of rest))) (is_once same_cid (cids_of rest))
    (subst (λ (z : List Stored). is_once same_cid (cids_of z) ≡ true) c.in-Some.ensures.steps.0 c.loop-stored.invariant.once) in
    record {
      graph = c.put_block.ensures.graph ∙ ap (λ z. z ++ c.in-Some.stored ∷ []) c.loop-stored.invariant.graph
          ∙ append_assoc (graph_of c.args.graph.now.blocks) c.loop-stored.yielded (c.in-Some.stored ∷ []);
      new = ap (λ z. list_any (λ (s : Stored). is_stored z s.cid) rest) c.put_block.ensures.graph
          ∙ still_new held c.in-Some.stored rest new.1 (not-true (list_any (same_cid cid) (cids_of rest)) once.0);
      once = once.1;
      order = c.put_block.ensures.order ∙ c.loop-stored.invariant.order;
      places = c.put_block.ensures.places ∙ c.loop-stored.invariant.places;
      spare =
          let before = c.loop-stored.invariant.spare in
          let step = c.put_block.ensures.spare in
          let longer = length-append c.loop-stored.yielded (c.in-Some.stored ∷ []) in
          omega (arith, before, step, longer);
    }
