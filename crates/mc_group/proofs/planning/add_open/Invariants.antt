use Rattle.std.proofs.Common.{◌≡◌, ◌++◌, take}
use Rattle.std.specs.Prelude.{IfSome}
use Rattle.mc_keep.specs.Calls.{HasRead}
use Rattle.mc_group.specs.Planning.{open_among}
use Rattle.mc_group.proofs.planning.add_open.Given as goal

abbrev pub invariant-loop-link : goal.invariant-loop-link
invariant-loop-link g l = record {
  left : IfSome (g.K.Keeper.told l.fn.keeper) (λ kept. l.left ≡ l.fn.left ++ open_among kept l.cids (take l.link-index l.links));
  reads : HasRead g.K.Keeper g.K.Counted l.fn.keeper l.keeper;
}
