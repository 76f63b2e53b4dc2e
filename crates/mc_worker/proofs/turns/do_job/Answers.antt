use Rattle.std.proofs.Common.{subst, sym}
use Rattle.mc_worker.specs.Lookups.{FoundFits}
use Rattle.mc_worker.proofs.WorkerFacts.{looked_fits}
use Rattle.mc_worker.proofs.turns.do_job.Goals as goal

pub deliver-requires-clause-fits : goal.deliver-requires-clause-fits
deliver-requires-clause-fits g c = subst (λ cid. FoundFits g.S.Shop.found cid c.in-Ok.found) (sym c.look_up.ensures.cid)
    (looked_fits g.S.Shop.found g.S.Shop.kept _ _ _ _ c.requires.job c.requires.fits c.in-Ok.ensures.found)
