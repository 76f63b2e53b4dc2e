use Rattle.std.proofs.Common.{take}
use Rattle.std.specs.Prelude.{IfSome}
use Rattle.mc_model.specs.Kept.{processed}
use Rattle.mc_keep.specs.Calls.{HasRead}
use Rattle.mc_rows.specs.Rows.{rows_of, tombs_of}
use Rattle.mc_rows.specs.Values.{ChangesFit}
use Rattle.mc_rows.proofs.merging.top_changes.Given as goal

abbrev pub invariant-loop-key : goal.invariant-loop-key
invariant-loop-key g l = record {
  reads : HasRead g.K.Keeper g.K.Counted l.fn.keeper l.keeper;
  fit : IfSome (g.K.Keeper.told l.fn.keeper) (λ kept. ChangesFit (processed kept) (rows_of l.elements) (tombs_of l.tombs) (take l.key-index l.keys) l.tops);
}
