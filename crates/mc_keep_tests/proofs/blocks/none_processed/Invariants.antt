use Rattle.std.proofs.Common.{◌≡◌, false}
use Rattle.std.specs.Prelude.{take, IfSome}
use Rattle.std.specs.List.{list_any}
use Rattle.mc_model.specs.Front.{is_among}
use Rattle.mc_keep_tests.proofs.blocks.none_processed.Given as goal

abbrev pub invariant-loop-cid : goal.invariant-loop-cid
invariant-loop-cid g l =
    (g.K.Keeper.told l.keeper ≡ g.K.Keeper.told l.fn.keeper)
    × IfSome (g.K.Keeper.told l.fn.keeper) (λ kept. list_any (is_among kept.order) (take l.cid-index l.cids) ≡ false)
