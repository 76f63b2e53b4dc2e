use Rattle.std.proofs.Common.{◌≡◌, [], take}
use Rattle.std.specs.Prelude.{fold}
use Rattle.mc_front.specs.Steps.{with_links}
use Rattle.mc_front.proofs.distinct.many_links.Given as goal

abbrev pub invariant-loop-block : goal.invariant-loop-block
invariant-loop-block l = l.links.keys ≡ fold with_links [] (take l.block-index l.blocks)
