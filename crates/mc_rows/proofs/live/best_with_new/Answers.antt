-- One more element, over the same told blocks.
use Rattle.std.proofs.Common.{ap, sym, ◌∙◌, take, ◌++◌, ◌∷◌, []}
use Rattle.std.proofs.lemmas.List.{map_more}
use Rattle.mc_model.specs.Kept.{Kept, processed}
use Rattle.mc_keep.proofs.Frames.{read_more}
use Rattle.mc_rows.specs.declared.elements.NewElement.{NewElement}
use Rattle.mc_rows.specs.Rows.{row_of, rows_of, tombs_of}
use Rattle.mc_rows.specs.Hiding.{hides}
use Rattle.mc_rows.specs.Values.{placed_best}
use Rattle.mc_rows.proofs.OneKey.{row_more}
use Rattle.mc_rows.proofs.live.best_with_new.Goals as goal

pub loop-element-preserved : goal.loop-element-preserved
loop-element-preserved g c = record {
  reads = read_more c.loop-element.invariant.reads c.in_ok-best.ensures.reads;
  best = row_more (g.K.Keeper.told c.args.keeper.now) (λ (kept : Kept). hides (processed kept) (tombs_of c.args.tombs.now) c.args.key.now) (placed_best c.args.best) (placed_best c.loop-element.best) (placed_best c.in_ok-best.best)
      (rows_of (take c.loop-element.element-index c.args.elements.now)) _ (row_of c.element-item.result)
      (map_more row_of c.args.elements.now c.loop-element.element-index c.element-item.result c.loop-element-test.true
      ∙ ap (λ (element : NewElement). rows_of (take c.loop-element.element-index c.args.elements.now) ++ row_of element ∷ []) (sym c.element-item.is))
      c.loop-element.invariant.best (rw c.loop-element.invariant.reads.told_same at c.in_ok-best.ensures.best);
}
