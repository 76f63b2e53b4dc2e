use Rattle.std.proofs.Common.{◌≡◌, take}
use Rattle.std.specs.Prelude.{IfSome}
use Rattle.mc_model.specs.Kept.{Kept, processed}
use Rattle.mc_keep.specs.Calls.{HasRead}
use Rattle.mc_front.specs.Steps.{unlinked}
use Rattle.mc_front.proofs.links.new_links.Given as goal

abbrev pub invariant-loop-link : goal.invariant-loop-link
invariant-loop-link g l = record {
  reads : HasRead g.K.Keeper g.K.Counted l.fn.keeper l.keeper;
  rows : IfSome (g.K.Keeper.told l.fn.keeper) (λ (kept : Kept). l.new ≡ unlinked (processed kept) (take l.link-index l.links));
}
