use Rattle.mc_live.proofs.HeldFacts.{one_heap}
use Rattle.mc_live.proofs.held.hold.Goals as goal

pub returns-in-Gone-clause-heap : goal.returns-in-Gone-clause-heap
returns-in-Gone-clause-heap c = λ was. one_heap c.args.row
