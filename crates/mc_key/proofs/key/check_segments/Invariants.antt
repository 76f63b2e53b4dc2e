use Rattle.mc_key.proofs.SegmentFacts.{SoFar, texts_of}
use Rattle.mc_key.proofs.key.check_segments.Given as goal

abbrev pub invariant-loop-segment : goal.invariant-loop-segment
invariant-loop-segment l = SoFar (texts_of l.yielded) l.has_dots
