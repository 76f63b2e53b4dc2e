use Rattle.std.proofs.Common.{◌≡◌, take}
use Rattle.std.specs.Prelude.{IfSome}
use Rattle.mc_keep.specs.Calls.{HasRead}
use Rattle.mc_group.specs.Planning.{open_links}
use Rattle.mc_group.proofs.planning.open_links.Given as goal

abbrev pub invariant-loop-block : goal.invariant-loop-block
invariant-loop-block g l = record {
  left : IfSome (g.K.Keeper.told l.fn.keeper) (λ kept. l.left ≡ open_links kept l.cids (take l.block-index l.blocks));
  reads : HasRead g.K.Keeper g.K.Counted l.fn.keeper l.keeper;
}
