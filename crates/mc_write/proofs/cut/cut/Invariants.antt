use Rattle.std.proofs.Common.{◌≡◌, true, length, List}
use Rattle.mc_base.specs.declared.cid.Cid.{Cid}
use Rattle.mc_write.specs.Cutting.{number}
use Rattle.mc_write.specs.Lengths.{capped, links_length}
use Rattle.mc_write.specs.Pairs.{all_seen, have_digests}
use Rattle.mc_write.proofs.CutFacts.{IsCutting}
use Rattle.mc_write.proofs.cut.cut.Given as goal

abbrev pub invariant-loop-rest : goal.invariant-loop-rest
invariant-loop-rest l = record {
  digests : have_digests (all_seen l.rest) ≡ true;
  cutting : (cids : List Cid) → l.fn.links ≡ capped (links_length cids) → IsCutting cids (number l.fn.priority) l.fn.key (all_seen l.fn.pairs) l.links (number l.priority) (all_seen l.rest) l.deltas;
}

abbrev pub decreases-loop-rest : goal.decreases-loop-rest
decreases-loop-rest l = length l.rest
