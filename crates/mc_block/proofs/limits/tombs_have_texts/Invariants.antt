use Rattle.std.proofs.Common.{take}
use Rattle.std.specs.List.{list_all}
use Rattle.std.specs.Prelude.{IsTrue}
use Rattle.mc_delta.specs.Written.{tomb_has_text}
use Rattle.mc_block.proofs.limits.tombs_have_texts.Given as goal

abbrev pub invariant-loop-tomb : goal.invariant-loop-tomb
invariant-loop-tomb l = IsTrue (list_all tomb_has_text (take l.tomb-index l.tombstones))
