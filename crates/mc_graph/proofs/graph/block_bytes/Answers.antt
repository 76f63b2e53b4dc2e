use Rattle.std.proofs.Common.{◌∙◌, Some, ap, sym, List, ℕ}
use Rattle.std.specs.Option.{option_map}
use Rattle.mc_graph.specs.declared.graph.BlockRow.{BlockRow}
use Rattle.mc_graph.proofs.GraphFacts.{bytes_at-graph}
use Rattle.mc_graph.proofs.graph.block_bytes.Goals as goal

pub returns-in_ok-try_clone-in-Some : goal.returns-in_ok-try_clone-in-Some
returns-in_ok-try_clone-in-Some c =
    ap (λ (bytes : List ℕ). Some bytes) c.in_ok-try_clone-in-Some.ensures ∙ ap (option_map (λ (row : BlockRow). row.bytes)) c.in-Some.ensures.value ∙ sym (bytes_at-graph c.args.cid.now c.args.graph.now.blocks)

pub returns-in-None : goal.returns-in-None
returns-in-None c = ap (option_map (λ (row : BlockRow). row.bytes)) c.in-None.ensures.value ∙ sym (bytes_at-graph c.args.cid.now c.args.graph.now.blocks)
