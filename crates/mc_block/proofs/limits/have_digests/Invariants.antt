use Rattle.std.proofs.Common.{take}
use Rattle.std.specs.List.{list_all}
use Rattle.std.specs.Prelude.{IsTrue}
use Rattle.mc_dagpb.specs.Written.{has_digest}
use Rattle.mc_block.proofs.limits.have_digests.Given as goal

abbrev pub invariant-loop-link : goal.invariant-loop-link
invariant-loop-link l = IsTrue (list_all has_digest (take l.link-index l.links))
