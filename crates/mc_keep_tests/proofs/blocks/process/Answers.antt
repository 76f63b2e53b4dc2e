use Rattle.std.proofs.Common.{◌≡◌, true, ◌∙◌}
use Rattle.mc_model.specs.Ascending.{is_once}
use Rattle.mc_model.specs.Front.{same_cid}
use Rattle.mc_keep_tests.proofs.GroupFacts.{new_now, process_now, takes}
use Rattle.mc_keep_tests.proofs.blocks.process.Goals as goal

pub process_changes-requires : goal.process_changes-requires
process_changes-requires g c =
    let once : is_once same_cid c.args.cids.now ≡ true = cc in
    new_now _ _ _ c.args.cids.now _ _ _ c.in_ok-blocks.ensures.told c.in_ok-none_processed.ensures.told c.as_slice.ensures c.in_ok-blocks.ensures.blocks once (cc) c.in_ok-none_processed.ensures.none

pub commit-requires-clause-fits : goal.commit-requires-clause-fits
commit-requires-clause-fits g c =
    let once : is_once same_cid c.args.cids.now ≡ true = cc in
    takes _ _ _ (process_now c.changes_fit.ensures.process
    _ _ _ _ _ c.args.cids.now _ _ _ _ c.in_ok-blocks.ensures.told c.in_ok-none_processed.ensures.told (c.in_ok-reserve.ensures.reserves.told_same ∙ c.in_ok-changes.ensures.reads.told_same) c.as_slice.ensures
    c.in_ok-blocks.ensures.blocks c.in_ok-blocks.ensures.stored once (cc) c.in_ok-none_processed.ensures.none c.in_ok-changes.ensures.process)
