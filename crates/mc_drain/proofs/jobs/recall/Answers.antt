use Rattle.std.proofs.Common.{refl}
use Rattle.mc_model.specs.Draining.{all_given_back}
use Rattle.mc_core.specs.Events.{HappensIn}
use Rattle.mc_core.proofs.Keeps.{still_on}
use Rattle.mc_drain.proofs.CallFacts.{recall_leads}
use Rattle.mc_drain.proofs.TurnFacts.{plain_told}
use Rattle.mc_drain.proofs.jobs.recall.Goals as goal

pub returns-clause-leads : goal.returns-clause-leads
returns-clause-leads g c = plain_told (λ s new. HappensIn s.state.run (λ run. all_given_back run.queue.flight) s new) _ _ (recall_leads c.order_and_store_grow.ensures c.found_drains_go_on.ensures.goes c.parts_stay_right.ensures.stay c.recall_gives_back.ensures.takes c.recall_gives_back.ensures.says) c.is_sound.ensures.state c.recall.ensures.goes

pub returns-clause-keeps : goal.returns-clause-keeps
returns-clause-keeps g c = still_on c.recall.ensures.keeper c.recall.ensures.stops refl
