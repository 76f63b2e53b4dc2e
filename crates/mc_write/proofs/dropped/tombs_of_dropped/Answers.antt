use Rattle.std.proofs.Common.{List, Bor}
use Rattle.std.specs.Global.{Global}
use Rattle.std.specs.declared.string.String.{String}
use Rattle.mc_base.specs.declared.cid.Cid.{Cid}
use Rattle.mc_write.proofs.BatchFacts.{tombs_more}
use Rattle.mc_write.proofs.dropped.tombs_of_dropped.Goals as goal

pub loop-key-preserved : goal.loop-key-preserved
loop-key-preserved c =
    tombs_more (λ (entry : Bor (String Global) × Bor (List Cid)). (entry.0.now, entry.1.now)) c.loop-key.yielded (c.in-Some.key, c.in-Some.cids) c.loop-key.tombs c.push_tombs.new.tombs c.loop-key.invariant
    (rw (c.as_str.ensures.value, c.as_slice.ensures) at c.in_ok-push_tombs.ensures)
