-- One more key, over the same told blocks.
use Rattle.std.proofs.lemmas.List.{get_or_default}
use Rattle.mc_rows.specs.Rows.{rows_of, tombs_of}
use Rattle.mc_keep.proofs.Frames.{read_more}
use Rattle.mc_rows.proofs.OneKey.{of_all_told}
use Rattle.mc_rows.proofs.Step.{fit_more_told}
use Rattle.mc_rows.proofs.merging.top_changes.Goals as goal

pub loop-key-preserved : goal.loop-key-preserved
loop-key-preserved g c = record {
  reads = read_more c.loop-key.invariant.reads c.in_ok-change.ensures.reads;
  fit = fit_more_told (g.K.Keeper.told c.args.keeper.now) (rows_of c.args.elements.now) (tombs_of c.args.tombs.now) c.args.keys.now c.loop-key.key-index _ c.loop-key.tops _ _
      c.requires.keys c.loop-key-test.true (get_or_default c.args.keys.now c.loop-key.key-index _ _ c.loop-key-test.true) c.loop-key.invariant.fit
      (of_all_told (g.K.Keeper.told c.args.keeper.now) _ _ (tombs_of c.args.tombs.now) _ _ c.elements_with-next.ensures.own (rw c.loop-key.invariant.reads.told_same at c.in_ok-change.ensures.change))
      c.in_ok-push_change.ensures.values c.in_ok-push_change.ensures.winners;
}
