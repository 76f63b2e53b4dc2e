use Rattle.std.proofs.Common.{◌-◌, length}
use Rattle.std.specs.Prelude.{option_map}
use Rattle.mc_cast.specs.Steps.{digest}
use Rattle.mc_cast.proofs.HeadFacts.{IsHeadRead}
use Rattle.mc_cast.proofs.head.read_head.Given as goal

abbrev pub invariant-loop-field : goal.invariant-loop-field
invariant-loop-field l = IsHeadRead l.body l.at (option_map digest l.cid)

abbrev pub decreases-loop-field : goal.decreases-loop-field
decreases-loop-field l = length l.body - l.at
