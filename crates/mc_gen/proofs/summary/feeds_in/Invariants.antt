use Rattle.std.proofs.Common.{◌≡◌, ◌≤◌, take}
use Rattle.mc_gen.specs.Summary.{lines_in}
use Rattle.mc_gen.proofs.summary.feeds_in.Given as goal

abbrev pub invariant-loop-byte : goal.invariant-loop-byte
invariant-loop-byte l = record {
  counted : l.count ≡ lines_in (take l.byte-index l.text);
  few : l.count ≤ l.byte-index;
}
