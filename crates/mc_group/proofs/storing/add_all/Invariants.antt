use Rattle.std.proofs.Common.{◌≡◌, ◌≤◌, [], length, map, true}
use Rattle.std.specs.Prelude.{IfSome}
use Rattle.std.specs.List.{list_all}
use Rattle.mc_keep.specs.Calls.{HasRead}
use Rattle.mc_model.specs.Kept.{cids_of}
use Rattle.mc_model.specs.Offer.{is_good}
use Rattle.mc_model.specs.State.{durable_of}
use Rattle.mc_model.specs.declared.block.Stored.{Stored}
use Rattle.mc_inbox.specs.Waiting.{as_stored}
use Rattle.mc_group.specs.Storing.{unstored}
use Rattle.mc_group.proofs.storing.add_all.Given as goal

abbrev pub invariant-loop-block : goal.invariant-loop-block
invariant-loop-block g l = record {
  stores : IfSome (g.K.Keeper.told l.fn.keeper) (λ kept. l.stores ≡ unstored (durable_of kept).graph (map as_stored l.yielded));
  seen : l.seen.keys ≡ cids_of l.stores;
  good : list_all (λ (item : Stored). is_good item.cid item.bytes) l.stores ≡ true;
  few : length l.stores ≤ length l.yielded;
  reads : HasRead g.K.Keeper g.K.Counted l.fn.keeper l.keeper;
}
