use Rattle.std.proofs.Common.{List, [], ap, subst, sym, ◌∙◌}
use Rattle.mc_live.specs.Prune.{Prunes}
use Rattle.mc_live.specs.Rows.{items_of}
use Rattle.mc_live.specs.declared.order.Row.{Row}
use Rattle.mc_tombs.specs.Tombs.{has_tomb_in}
use Rattle.mc_live.proofs.HeldFacts.{drops_one}
use Rattle.mc_live.proofs.prune.prune.Goals as goal

pub returns-else-counts : goal.returns-else-counts
returns-else-counts c =
    let hidden = has_tomb_in c.args.tombs.now.keys.keys c.args.tombs.now.ids.keys c.args.tombs.now.pairs.keys c.args.key.now in
    subst (λ (z : List Row). Prunes hidden c.args.calls.now z []) (sym (ap items_of c.in-One.is)) (drops_one hidden c.args.calls.now c.in-One.row (sym c.counts.ensures ∙ c.if-counts.false))
