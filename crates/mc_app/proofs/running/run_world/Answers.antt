use Rattle.std.proofs.Common.{◌∙◌, ap, sym}
use Rattle.mc_app.specs.Outcome.{contents_of}
use Rattle.mc_app.proofs.EndFacts.{may_fresh}
use Rattle.mc_app.proofs.RunFacts.{outcome_told}
use Rattle.mc_app.proofs.running.run_world.Goals as goal

pub returns-clause-outcome : goal.returns-clause-outcome
returns-clause-outcome g c = outcome_told _ _ _ _ _ _ _ _ _ _ _ (λ w begins. begins) (λ lines answers may. may_fresh _ _ _ _ lines answers c.requires.counted c.requires.unarmed c.close.ensures.counted (λ calm. calm) may)
    (λ w is. ap contents_of is ∙ sym c.close.ensures.told) c.run_script-status.ensures.outcome

pub returns-clause-desks : goal.returns-clause-desks
returns-clause-desks g c = rw c.close.ensures.desks c.run_script-status.ensures.desks
