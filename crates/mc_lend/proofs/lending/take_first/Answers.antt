use Rattle.std.proofs.Common.{arith, rules}
use Rattle.mc_lend.proofs.Firsts.{first_taken}
use Rattle.mc_lend.proofs.lending.take_first.Goals as goal

pub returns-clause-items : goal.returns-clause-items
returns-clause-items g c = first_taken c.args.things.now.items _ c.remove.result (search (rules, arith)) c.remove.ensures.value c.remove.ensures.items
