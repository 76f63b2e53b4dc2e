use Rattle.std.proofs.Common.{◌≡◌, ◌++◌, ◌∷◌, [], take, filter, not}
use Rattle.std.specs.Prelude.{IfSome}
use Rattle.mc_keep.specs.Calls.{HasRead}
use Rattle.mc_model.specs.Graph.{has}
use Rattle.mc_plan.proofs.wanting.open_among.Given as goal

abbrev pub invariant-loop-link : goal.invariant-loop-link
invariant-loop-link g l = record {
  left : IfSome (g.K.Keeper.told l.fn.keeper) (λ kept. l.left ≡ filter (λ c. not (has c (kept.order ++ l.cid ∷ []))) (take l.link-index l.links));
  reads : HasRead g.K.Keeper g.K.Counted l.fn.keeper l.keeper;
}
