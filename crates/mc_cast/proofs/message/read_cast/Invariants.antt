use Rattle.std.proofs.Common.{◌-◌, length}
use Rattle.mc_cast.proofs.MessageFacts.{IsRead}
use Rattle.mc_cast.proofs.message.read_cast.Given as goal

abbrev pub invariant-loop-heads : goal.invariant-loop-heads
invariant-loop-heads l = IsRead l.bytes l.at l.heads

abbrev pub decreases-loop-heads : goal.decreases-loop-heads
decreases-loop-heads l = length l.bytes - l.at
