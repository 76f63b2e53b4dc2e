use Rattle.std.proofs.Common.{◌≡◌, true, false}
use Rattle.std.specs.Prelude.{IfSome}
use Rattle.mc_model.specs.Kept.{processed}
use Rattle.mc_keep.specs.Calls.{HasRead}
use Rattle.mc_keep.specs.Next.{is_past}
use Rattle.mc_query.specs.Ahead.{AreAhead}
use Rattle.mc_query.specs.Answers.{AreAnswers}
use Rattle.mc_query.specs.Places.{start_of, place_after}
use Rattle.mc_query.specs.Reads.{ReadsWithin}
use Rattle.mc_query.proofs.PairFacts.{IsTaken}
use Rattle.mc_query.proofs.range.take_rows.Given as goal

abbrev pub invariant-loop : goal.invariant-loop
invariant-loop g l = record {
  reads : HasRead g.K.Keeper g.K.Counted l.fn.keeper l.keeper;
  planned : ReadsWithin l.counter (g.K.Keeper.schedule l.fn.keeper) (g.K.Keeper.schedule l.keeper) false;
  past : is_past (start_of l.prefix) true (place_after l.place l.pairs).bound ≡ true;
  answers : AreAnswers l.place.bound l.place.inclusive l.prefix l.counter l.pairs;
  ahead : IfSome (g.K.Keeper.told l.fn.keeper) (λ kept. AreAhead (processed kept) (place_after l.place l.pairs).bound (place_after l.place l.pairs).inclusive l.ahead.rows.items);
  done : IfSome (g.K.Keeper.told l.fn.keeper) (λ kept. IsTaken (processed kept) l.prefix l.place l.pairs l.counter);
}
