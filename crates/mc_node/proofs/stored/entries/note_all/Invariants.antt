use Rattle.std.proofs.Common.{◌≤◌, ◌+◌, vec_capacity, vec_len}
use Rattle.mc_node.specs.Entries.{AddsAll}
use Rattle.mc_node.proofs.stored.entries.note_all.Given as goal

abbrev pub invariant-loop : goal.invariant-loop
invariant-loop g l = record {
  adds : AddsAll l.counter l.replica l.fn.log.items l.log.items;
  room : vec_len l.log + l.count ≤ vec_capacity l.log + l.counter;
  few : l.counter ≤ l.count;
}
