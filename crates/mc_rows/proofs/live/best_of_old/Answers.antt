-- One more row.
use Rattle.std.proofs.Common.{ap, sym, ◌∙◌, take, ◌++◌, ◌∷◌, []}
use Rattle.std.specs.Prelude.{None}
use Rattle.std.proofs.lemmas.List.{take_more}
use Rattle.mc_keep.specs.declared.rows.ElementRow.{ElementRow}
use Rattle.mc_keep.specs.Changes.{has_tomb_row}
use Rattle.mc_rows.specs.Rows.{tombs_of}
use Rattle.mc_rows.specs.Values.{placed_best}
use Rattle.mc_rows.proofs.OneKey.{one_more}
use Rattle.mc_rows.proofs.live.best_of_old.Goals as goal

pub loop-row-preserved : goal.loop-row-preserved
loop-row-preserved c = record {
  best = one_more (has_tomb_row (tombs_of c.args.tombs.now) c.args.key.now) None (placed_best c.loop-row.best) (placed_best c.in_ok-best.best)
      (take c.loop-row.row-index c.args.rows.now) _ c.row-item.result
      (take_more c.args.rows.now c.loop-row.row-index c.row-item.result c.loop-row-test.true ∙ ap (λ (row : ElementRow). take c.loop-row.row-index c.args.rows.now ++ row ∷ []) (sym c.row-item.is))
      c.loop-row.invariant.best c.in_ok-best.ensures.best;
  last = c.in_ok-best.ensures.last;
}
