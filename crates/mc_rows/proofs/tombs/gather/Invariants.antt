use Rattle.std.proofs.Common.{◌≡◌, take}
use Rattle.std.specs.Prelude.{IfSome, filter}
use Rattle.mc_model.specs.Kept.{processed}
use Rattle.mc_keep.specs.Calls.{HasRead}
use Rattle.mc_rows.specs.Rows.{tombs_of, tomb_rows}
use Rattle.mc_rows.specs.Hiding.{is_unknown}
use Rattle.mc_rows.proofs.tombs.gather.Given as goal

abbrev pub invariant-loop-block : goal.invariant-loop-block
invariant-loop-block g l = record {
  reads : HasRead g.K.Keeper g.K.Counted l.fn.keeper l.keeper;
  rows : IfSome (g.K.Keeper.told l.fn.keeper) (λ kept. tombs_of l.tombs.items ≡ filter (is_unknown (processed kept)) (tomb_rows (take l.block-index l.blocks)));
}
