use Rattle.std.proofs.Common.{take}
use Rattle.mc_block.proofs.LinkFacts.{Named, texts}
use Rattle.mc_block.proofs.read.read_links.Given as goal

abbrev pub invariant-loop-link : goal.invariant-loop-link
invariant-loop-link l = Named (take l.link-index (texts l.links)) l.cids
