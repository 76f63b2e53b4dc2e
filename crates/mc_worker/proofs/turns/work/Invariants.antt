use Rattle.mc_fetch.specs.Calls.{HasAsked}
use Rattle.mc_worker.proofs.WorkerFacts.{IsWorking}
use Rattle.mc_worker.proofs.turns.work.Given as goal

abbrev pub invariant-loop : goal.invariant-loop
invariant-loop g l = IsWorking (g.S.Shop.owns l.shop l.seat) (g.S.Shop.out l.seat) (HasAsked g.F.Fetch g.F.Counted l.fn.fetch l.fetch)
