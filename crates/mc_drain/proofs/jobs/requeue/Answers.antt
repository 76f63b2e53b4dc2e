use Rattle.std.proofs.Common.{[], ◌∷◌, refl}
use Rattle.mc_model.specs.Events.{Requeue}
use Rattle.mc_core.specs.Events.{HappensIn}
use Rattle.mc_core.proofs.Keeps.{still_on}
use Rattle.mc_drain.proofs.CallFacts.{requeue_leads}
use Rattle.mc_drain.proofs.JobFacts.{stored_same}
use Rattle.mc_drain.proofs.TurnFacts.{plain_told}
use Rattle.mc_drain.proofs.jobs.requeue.Goals as goal

pub returns-clause-leads : goal.returns-clause-leads
returns-clause-leads g c = plain_told (λ s new. HappensIn s.state.run (λ run. Requeue ∷ []) s new) _ _ (requeue_leads c.order_and_store_grow.ensures c.found_drains_go_on.ensures.goes c.parts_stay_right.ensures.stay) c.is_sound.ensures.state c.requeue.ensures.goes

pub returns-clause-keeps : goal.returns-clause-keeps
returns-clause-keeps g c = still_on c.requeue.ensures.keeper c.requeue.ensures.stops refl

pub returns-clause-stored : goal.returns-clause-stored
returns-clause-stored g c = stored_same g.K.Keeper.told g.K.Keeper.fuse _ _ _ _ c.requeue.ensures.keeper
