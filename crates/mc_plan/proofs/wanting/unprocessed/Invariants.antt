use Rattle.std.proofs.Common.{◌≡◌, take, filter, not}
use Rattle.std.specs.Prelude.{IfSome}
use Rattle.mc_keep.specs.Calls.{HasRead}
use Rattle.mc_model.specs.Graph.{has}
use Rattle.mc_plan.specs.Hears.{AreSome}
use Rattle.mc_plan.proofs.wanting.unprocessed.Given as goal

abbrev pub invariant-loop-cid : goal.invariant-loop-cid
invariant-loop-cid g l = record {
  left : IfSome (g.K.Keeper.told l.fn.keeper) (λ kept. l.left ≡ filter (λ c. not (has c kept.order)) (take l.cid-index l.cids));
  some : AreSome (take l.cid-index l.cids) l.left;
  reads : HasRead g.K.Keeper g.K.Counted l.fn.keeper l.keeper;
}
