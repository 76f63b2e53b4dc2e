use Rattle.std.proofs.Common.{◌≡◌, ◌-◌, ◌≤◌, true, false}
use Rattle.std.specs.Prelude.{IfSome}
use Rattle.mc_model.specs.Kept.{processed}
use Rattle.mc_keep.specs.Calls.{HasRead}
use Rattle.mc_keep.specs.Next.{is_past}
use Rattle.mc_query.specs.Places.{start_of}
use Rattle.mc_query.specs.Reads.{ReadsWithin}
use Rattle.mc_query.proofs.PairFacts.{IsPassing}
use Rattle.mc_query.proofs.range.pass_over.Given as goal

abbrev pub invariant-loop-left : goal.invariant-loop-left
invariant-loop-left g l = record {
  within : l.left ≤ l.skip;
  reads : HasRead g.K.Keeper g.K.Counted l.fn.keeper l.keeper;
  planned : ReadsWithin (l.skip - l.left) (g.K.Keeper.schedule l.fn.keeper) (g.K.Keeper.schedule l.keeper) false;
  past : is_past (start_of l.prefix) true l.place.bound ≡ true;
  done : IfSome (g.K.Keeper.told l.fn.keeper) (λ kept. IsPassing (processed kept) l.prefix l.place l.left l.skip);
}

abbrev pub decreases-loop-left : goal.decreases-loop-left
decreases-loop-left g l = l.left
