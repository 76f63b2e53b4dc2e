use Rattle.std.proofs.Common.{◌≡◌, ◌≤◌}
use Rattle.mc_gen.specs.Script.{lines_before, number_at, sent_before}
use Rattle.mc_gen.proofs.generate.script.Given as goal

abbrev pub invariant-loop : goal.invariant-loop
invariant-loop l = record {
  number : l.number ≡ number_at l.fn.start l.counter;
  sent : l.sent ≡ sent_before l.fn.start l.counter;
  text : l.text ≡ lines_before l.fn.start l.counter;
  few : l.sent ≤ l.counter;
}
