use Rattle.std.proofs.Common.{◌≡◌, ◌++◌, take, map}
use Rattle.std.specs.Prelude.{IfSome, filter}
use Rattle.mc_model.specs.Kept.{processed}
use Rattle.mc_keep.specs.Calls.{HasRead}
use Rattle.mc_rows.specs.Rows.{tombs_of, tomb_row}
use Rattle.mc_rows.specs.Hiding.{is_unknown}
use Rattle.mc_rows.proofs.tombs.gather_of.Given as goal

abbrev pub invariant-loop-tomb : goal.invariant-loop-tomb
invariant-loop-tomb g l = record {
  reads : HasRead g.K.Keeper g.K.Counted l.fn.keeper l.keeper;
  rows : IfSome (g.K.Keeper.told l.fn.keeper) (λ kept. tombs_of l.tombs.items ≡ tombs_of l.initial.tombs.items ++ filter (is_unknown (processed kept)) (map tomb_row (take l.tomb-index l.tombstones)));
}
