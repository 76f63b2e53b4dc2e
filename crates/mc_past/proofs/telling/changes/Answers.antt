use Rattle.std.proofs.Common.{◌≡◌, List, refl, sym, ◌∙◌}
use Rattle.mc_core.proofs.Keeps.{still_on}
use Rattle.mc_feed.specs.declared.event.Event.{Event}
use Rattle.mc_model.specs.Kept.{Kept, processed}
use Rattle.mc_past.specs.Past.{changes_between}
use Rattle.mc_past.proofs.LookFacts.{looked_call}
use Rattle.mc_past.proofs.telling.changes.Goals as goal

pub returns-then-has_stopped-clause-keeps : goal.returns-then-has_stopped-clause-keeps
returns-then-has_stopped-clause-keeps g c = still_on refl refl refl

pub returns-clause-call : goal.returns-clause-call
returns-clause-call g c =
    looked_call g.K.Keeper.told g.K.Keeper.fuse c.kept_is_durable.ensures.back (λ (kept : Kept) (events : List Event). events ≡ changes_between c.args.from c.args.count (processed kept)) c.args.replica.now c.events_between.new.replica c.events_between.result
    (sym c.has_stopped.ensures ∙ c.if-has_stopped.false) c.events_between.ensures.looks c.events_between.ensures.refused c.events_between.ensures.events
