use Rattle.std.proofs.Common.{◌≡◌, take}
use Rattle.std.specs.Prelude.{IfSome, fold}
use Rattle.mc_model.specs.Kept.{processed}
use Rattle.mc_model.specs.Who.{higher}
use Rattle.mc_keep.specs.Calls.{HasRead}
use Rattle.mc_rows.specs.Rows.{rows_of, tombs_of}
use Rattle.mc_keep.specs.LiveRows.{place_rows}
use Rattle.mc_rows.specs.Hiding.{hides}
use Rattle.mc_rows.specs.Values.{placed_best}
use Rattle.mc_rows.proofs.live.best_with_new.Given as goal

abbrev pub invariant-loop-element : goal.invariant-loop-element
invariant-loop-element g l = record {
  reads : HasRead g.K.Keeper g.K.Counted l.fn.keeper l.keeper;
  best : IfSome (g.K.Keeper.told l.fn.keeper) (λ kept. placed_best l.best ≡ fold higher (placed_best l.fn.best) (place_rows (hides (processed kept) (tombs_of l.tombs) l.key) (rows_of (take l.element-index l.elements))));
}
