use Rattle.std.proofs.Common.{◌≡◌, drop}
use Rattle.mc_model.specs.Front.{is_processed}
use Rattle.mc_keep_tests.proofs.groups.has_block.Given as goal

abbrev pub invariant-loop-block : goal.invariant-loop-block
invariant-loop-block l = is_processed l.blocks l.cid ≡ is_processed (drop l.block-index l.blocks) l.cid
