use Rattle.std.proofs.Common.{sym}
use Rattle.std.proofs.lemmas.List.Sorted.{list_any-IsPermutation}
use Rattle.mc_tables.specs.Places.{texts_in, stands_at}
use Rattle.mc_tables.proofs.order.sort_waiting.Goals as goal

pub returns-clause-waits : goal.returns-clause-waits
returns-clause-waits g c = λ key. sym (list_any-IsPermutation (stands_at (texts_in c.args.keys.now) key) c.args.pending.now.items c.sort_unstable_by.new.self.items c.sort_unstable_by.ensures.permutation)
