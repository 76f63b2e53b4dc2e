use Rattle.std.proofs.Common.{◌∙◌, ap, sym}
use Rattle.mc_app.specs.Outcome.{contents_of}
use Rattle.mc_app.proofs.EndFacts.{may_fresh}
use Rattle.mc_app.proofs.GeneratingFacts.{generates_map}
use Rattle.mc_app.proofs.generating.generate_world.Goals as goal

pub returns-clause-generated : goal.returns-clause-generated
returns-clause-generated g c = generates_map _ _ _ _ _ _ _ (λ w begins. begins) (λ lines answers may. may_fresh _ _ _ _ lines answers c.requires.counted c.requires.unarmed c.close.ensures.counted (λ calm. calm) may)
    (λ w is. ap contents_of is ∙ sym c.close.ensures.told) _ _ _ _ c.sum_and_say-status.ensures.generated

pub returns-clause-desks : goal.returns-clause-desks
returns-clause-desks g c = rw c.close.ensures.desks c.sum_and_say-status.ensures.desks
