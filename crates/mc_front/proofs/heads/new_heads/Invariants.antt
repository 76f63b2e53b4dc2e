use Rattle.std.proofs.Common.{◌≡◌, take}
use Rattle.std.specs.Prelude.{IfSome}
use Rattle.mc_model.specs.Kept.{Kept, processed}
use Rattle.mc_keep.specs.Calls.{HasRead}
use Rattle.mc_front.specs.Steps.{rows_of_heads}
use Rattle.mc_front.specs.Distinct.{cids_in}
use Rattle.mc_front.proofs.heads.new_heads.Given as goal

abbrev pub invariant-loop-block : goal.invariant-loop-block
invariant-loop-block g l = record {
  reads : HasRead g.K.Keeper g.K.Counted l.fn.keeper l.keeper;
  rows : IfSome (g.K.Keeper.told l.fn.keeper) (λ (kept : Kept). l.heads ≡ rows_of_heads (processed kept) (cids_in l.links) (take l.block-index l.blocks));
}
