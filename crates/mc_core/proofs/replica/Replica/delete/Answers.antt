use Rattle.mc_plan.proofs.CutFacts.{delete_made, none_deleted}
use Rattle.mc_plan.proofs.DeletedFacts.{delete_next, delete_call, delete_early}
use Rattle.mc_plan.proofs.ShortFacts.{short_call, short_early}
use Rattle.std.proofs.Common.{refl}
use Rattle.mc_core.proofs.Keeps.{continues_more, looks_on, still_on, stops_once}
use Rattle.mc_core.proofs.replica.Replica.delete.Goals as goal

pub take_up_all-requires-clause-next : goal.take_up_all-requires-clause-next
take_up_all-requires-clause-next g c =
    delete_next c.kept_is_durable.ensures.made_links _ _ c.args.key.now _ c.in-Ok.ensures.reads.told_same c.is_sound.ensures c.in-Ok.ensures.made

pub returns-in-Ok-clause-call : goal.returns-in-Ok-clause-call
returns-in-Ok-clause-call g c =
    delete_call c.kept_is_durable.ensures.back _ _ _ _ _ _ _ c.args.key.now _ _ _ _ _ c.if-self.false c.in-Ok.ensures.reads.told_same c.in-Ok.ensures.reads.fuse_same c.in-Ok.ensures.reads.own_goes.later c.in-Ok.ensures.allowed c.in-Ok.ensures.made
    c.take_up_all.ensures.takes

pub returns-in-Err-clause-call : goal.returns-in-Err-clause-call
returns-in-Err-clause-call g c =
    delete_early c.kept_is_durable.ensures.back _ _ _ _ _ _ _ c.args.key.now _ _ c.if-self.false c.in-Err.ensures.reads.told_same c.in-Err.ensures.reads.fuse_same c.stops-self.ensures c.in-Err.ensures.reads.own_goes.rose c.in-Err.ensures.refused

pub returns-in-Ok-clause-short : goal.returns-in-Ok-clause-short
returns-in-Ok-clause-short g c =
    short_call c.kept_is_durable.ensures.back c.commits_are_events.ensures.sound c.changes_fit.ensures.stored c.changes_fit.ensures.same c.kept_is_durable.ensures.made_links
    _ _ _ _ _ _ _ c.args.key.now _ _ _ c.if-self.false c.in-Ok.ensures.reads.told_same c.in-Ok.ensures.reads.fuse_same c.is_sound.ensures c.in-Ok.ensures.made c.take_up_all.ensures.takes

pub returns-in-Err-clause-short : goal.returns-in-Err-clause-short
returns-in-Err-clause-short g c = short_early _ _ _ _ _ _ c.args.key.now _ c.in-Err.ensures.reads.told_same

pub returns-in-Ok-clause-made : goal.returns-in-Ok-clause-made
returns-in-Ok-clause-made g c =
    delete_made c.kept_is_durable.ensures.back c.commits_are_events.ensures.sound c.changes_fit.ensures.stored c.changes_fit.ensures.same c.kept_is_durable.ensures.made_links
    _ _ _ _ _ _ _ c.args.key.now _ _ _ c.if-self.false c.in-Ok.ensures.reads.told_same c.in-Ok.ensures.reads.fuse_same c.is_sound.ensures c.in-Ok.ensures.made c.take_up_all.ensures.takes

pub returns-in-Err-clause-made : goal.returns-in-Err-clause-made
returns-in-Err-clause-made g c = none_deleted _ _ _ _ _ _ c.args.key.now _ c.in-Err.ensures.reads.told_same

pub returns-then-self-clause-keeps : goal.returns-then-self-clause-keeps
returns-then-self-clause-keeps g c = still_on refl refl refl

pub returns-in-Ok-clause-keeps : goal.returns-in-Ok-clause-keeps
returns-in-Ok-clause-keeps g c = continues_more (looks_on c.in-Ok.ensures.reads refl) c.take_up_all.ensures.keeps.continues

pub returns-in-Err-clause-keeps : goal.returns-in-Err-clause-keeps
returns-in-Err-clause-keeps g c = looks_on c.in-Err.ensures.reads (stops_once c.in-Err.error _ _ c.if-self.false c.stops-self.ensures)
