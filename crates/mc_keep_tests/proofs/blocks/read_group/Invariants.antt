use Rattle.std.proofs.Common.{◌≡◌, true}
use Rattle.std.specs.Prelude.{take, IfSome}
use Rattle.std.specs.List.{list_all}
use Rattle.mc_model.specs.Kept.{blocks_in, is_stored}
use Rattle.mc_keep_tests.proofs.blocks.read_group.Given as goal

abbrev pub invariant-loop-cid : goal.invariant-loop-cid
invariant-loop-cid g l =
    (g.K.Keeper.told l.keeper ≡ g.K.Keeper.told l.fn.keeper)
    × IfSome (g.K.Keeper.told l.fn.keeper) (λ kept. l.blocks ≡ blocks_in kept.graph (take l.cid-index l.cids))
    × IfSome (g.K.Keeper.told l.fn.keeper) (λ kept. list_all (is_stored kept.graph) (take l.cid-index l.cids) ≡ true)
