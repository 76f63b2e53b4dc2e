use Rattle.std.proofs.Common.{◌≡◌, ◌++◌, take, drop}
use Rattle.mc_inbox.proofs.inbox.Inbox.turn.Given as goal

abbrev pub invariant-loop : goal.invariant-loop
invariant-loop l = record {
  items : l.self.items ≡ drop l.counter l.fn.self.items ++ take l.counter l.fn.self.items;
  room : l.self.room ≡ l.fn.self.room;
}
