use Rattle.std.proofs.Common.{◌≡◌, ◌-◌, ◌^◌}
use Rattle.mc_keep.specs.Calls.{HasRead}
use Rattle.mc_news.proofs.BlockFacts.{SoFar}
use Rattle.mc_news.proofs.blocks.blocks_from.Given as goal

abbrev pub invariant-loop-blocks : goal.invariant-loop-blocks
invariant-loop-blocks g l = record {
  so_far : SoFar (g.K.Keeper.told l.fn.keeper) l.blocks l.position l.fn.from;
  reads : HasRead g.K.Keeper g.K.Counted l.fn.keeper l.keeper;
}

abbrev pub decreases-loop-blocks : goal.decreases-loop-blocks
decreases-loop-blocks g l = 2 ^ 64 - l.position
