use Rattle.std.proofs.Common.{◌≡◌, true}
use Rattle.mc_model.specs.declared.block.Block.{Block}
use Rattle.mc_model.specs.Ascending.{is_once}
use Rattle.mc_model.specs.Front.{same_cid}
use Rattle.mc_keep_mem.specs.Fits.{kept_in}
use Rattle.mc_keep_tests.proofs.FirstGroup.{first_group}
use Rattle.mc_keep_tests.proofs.rows.merged.Goals as goal

pub merged_in-requires : goal.merged_in-requires
merged_in-requires c =
    let once : is_once (λ (a b : Block). same_cid a.cid b.cid) c.args.blocks.now ≡ true = cc in
    record { new = first_group (kept_in c.in_ok-keeper.keeper.store.tables) c.args.blocks.now c.in_ok-keeper.ensures once }
