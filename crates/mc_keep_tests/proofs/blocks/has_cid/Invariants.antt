use Rattle.std.proofs.Common.{◌≡◌, drop}
use Rattle.mc_model.specs.Front.{is_among}
use Rattle.mc_keep_tests.proofs.blocks.has_cid.Given as goal

abbrev pub invariant-loop-other : goal.invariant-loop-other
invariant-loop-other l = is_among l.cids l.cid ≡ is_among (drop l.other-index l.cids) l.cid
