use Rattle.std.proofs.Common.{◌∙◌, ◌++◌, ap, sym, append_assoc, ℕ, List}
use Rattle.std.specs.List.{flat_map}
use Rattle.mc_base.specs.Node.{link_bytes}
use Rattle.mc_base.specs.Wire.{part_head_bytes}
use Rattle.mc_dagpb.proofs.write.begin_node.Goals as goal

pub returns : goal.returns
returns c = λ payload is.
    ap (λ (z : List ℕ). z ++ payload) (c.in_ok-put_part_head.ensures.ok ∙ ap (λ (z : List ℕ). z ++ part_head_bytes 1 c.args.len) (c.in_ok-push_links.ensures ∙ ap (λ (z : List ℕ). z ++ flat_map link_bytes c.args.links.now) c.in_ok-out.ensures))
    ∙ append_assoc (flat_map link_bytes c.args.links.now) (part_head_bytes 1 c.args.len) payload
    ∙ ap (λ (n : ℕ). flat_map link_bytes c.args.links.now ++ (part_head_bytes 1 n ++ payload)) (sym is)
