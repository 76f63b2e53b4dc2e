use Rattle.std.proofs.Common.{[], ◌∷◌, cond, refl}
use Rattle.mc_model.specs.Events.{GiveBack}
use Rattle.mc_model.specs.Graph.{has}
use Rattle.mc_core.specs.Events.{HappensIn}
use Rattle.mc_core.proofs.Keeps.{still_on}
use Rattle.mc_drain.proofs.CallFacts.{back_leads}
use Rattle.mc_drain.proofs.TurnFacts.{plain_told}
use Rattle.mc_drain.proofs.jobs.give_job_back.Goals as goal

pub returns-clause-leads : goal.returns-clause-leads
returns-clause-leads g c = plain_told (λ s new. HappensIn s.state.run (λ run. cond (has c.args.job.cid run.queue.flight) (GiveBack c.args.job.cid ∷ []) []) s new) _ _ (back_leads c.order_and_store_grow.ensures c.found_drains_go_on.ensures.goes c.parts_stay_right.ensures.stay c.args.job.cid) c.is_sound.ensures.state c.give_back.ensures.goes

pub returns-clause-keeps : goal.returns-clause-keeps
returns-clause-keeps g c = still_on c.give_back.ensures.keeper c.give_back.ensures.stops refl
