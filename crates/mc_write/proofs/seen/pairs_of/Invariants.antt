use Rattle.std.proofs.Common.{◌≡◌, true, map}
use Rattle.mc_write.specs.Pairs.{all_seen, row_pair, have_digests}
use Rattle.mc_write.proofs.seen.pairs_of.Given as goal

abbrev pub invariant-loop-row : goal.invariant-loop-row
invariant-loop-row l = record {
  pairs : all_seen l.pairs.items ≡ map row_pair l.yielded;
  digests : have_digests (all_seen l.pairs.items) ≡ true;
}
