use Rattle.std.specs.Prelude.{IfSome}
use Rattle.mc_keep.specs.Calls.{HasRead}
use Rattle.mc_plan.proofs.DeleteFacts.{IsMaking}
use Rattle.mc_plan.proofs.deletes.make_blocks.Given as goal

abbrev pub invariant-loop-delta : goal.invariant-loop-delta
invariant-loop-delta g l = record {
  making : IfSome (g.K.Keeper.told l.fn.keeper) (λ kept. IsMaking kept l.fn.links l.yielded l.blocks l.links);
  reads : HasRead g.K.Keeper g.K.Counted l.fn.keeper l.keeper;
}
