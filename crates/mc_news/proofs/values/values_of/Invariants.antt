use Rattle.std.proofs.Common.{◌≡◌, take}
use Rattle.std.specs.Prelude.{IfSome}
use Rattle.mc_keep.specs.Calls.{HasRead}
use Rattle.mc_model.specs.Kept.{processed}
use Rattle.mc_face.specs.Exact.{AreValues}
use Rattle.mc_news.specs.Keys.{keys_of, texts_of}
use Rattle.mc_news.proofs.values.values_of.Given as goal

abbrev pub invariant-loop-key : goal.invariant-loop-key
invariant-loop-key g l = record {
  keys : keys_of l.changes ≡ texts_of (take l.key-index l.keys);
  values : IfSome (g.K.Keeper.told l.fn.keeper) (λ kept. AreValues (processed kept) l.changes);
  reads : HasRead g.K.Keeper g.K.Counted l.fn.keeper l.keeper;
}
