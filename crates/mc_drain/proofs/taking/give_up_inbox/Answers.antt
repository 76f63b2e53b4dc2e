use Rattle.std.proofs.Common.{refl}
use Rattle.mc_model.specs.Kept.{cids_of}
use Rattle.mc_group.specs.Inboxes.{given_back, taken_of}
use Rattle.mc_core.specs.Events.{HappensIn}
use Rattle.mc_core.proofs.Keeps.{still_on}
use Rattle.mc_drain.proofs.CallFacts.{given_leads}
use Rattle.mc_drain.proofs.TurnFacts.{plain_told}
use Rattle.mc_drain.proofs.taking.give_up_inbox.Goals as goal

pub returns-clause-leads : goal.returns-clause-leads
returns-clause-leads g c = plain_told (λ s new. HappensIn s.state.run (λ run. given_back run.queue c.args.replica.now.inbox.items) s new) _ _ (given_leads c.order_and_store_grow.ensures c.found_drains_go_on.ensures.goes c.parts_stay_right.ensures.stay c.recall_gives_back.ensures.takes c.recall_gives_back.ensures.says (λ run. cids_of (taken_of run.queue c.args.replica.now.inbox.items))) c.is_sound.ensures.state c.inbox_give_back.ensures.goes

pub returns-clause-keeps : goal.returns-clause-keeps
returns-clause-keeps g c = still_on c.inbox_give_back.ensures.keeper c.inbox_give_back.ensures.stops refl
