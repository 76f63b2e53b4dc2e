use Rattle.std.proofs.Common.{◌≡◌, take}
use Rattle.std.specs.Prelude.{IfSome, filter}
use Rattle.mc_model.specs.Front.{is_among}
use Rattle.mc_model.specs.Kept.{Kept}
use Rattle.mc_keep.specs.Calls.{HasRead}
use Rattle.mc_front.proofs.links.old_heads.Given as goal

abbrev pub invariant-loop-link : goal.invariant-loop-link
invariant-loop-link g l = record {
  reads : HasRead g.K.Keeper g.K.Counted l.fn.keeper l.keeper;
  rows : IfSome (g.K.Keeper.told l.fn.keeper) (λ (kept : Kept). l.old ≡ filter (is_among kept.order) (take l.link-index l.links));
}
