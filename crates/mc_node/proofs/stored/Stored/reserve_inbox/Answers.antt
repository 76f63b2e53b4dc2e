use Rattle.std.proofs.Common.{◌∙◌, ap, None}
use Rattle.mc_core.specs.Exact.{stop_front}
use Rattle.mc_node.specs.Entries.{shown_at}
use Rattle.mc_node.proofs.GroupFacts.{begins_not, shown_same}
use Rattle.mc_node.proofs.PieceFacts.{items_right}
use Rattle.mc_node.proofs.TieFacts.{tied_shown}
use Rattle.mc_node.proofs.stored.Stored.reserve_inbox.Goals as goal

pub invariant_of-self : goal.invariant_of-self
invariant_of-self g c = record {
  tied = tied_shown _ _ _ _ (shown_same g.K.Keeper.told g.K.Keeper.fuse g.K.Keeper.own g.K.Counted.faults g.K.Keeper.quiet g.K.Keeper.schedule c.deref_mut.result.now c.inbox_reserve.new.self c.inbox_reserve.ensures.keeper c.inbox_reserve.ensures.queue c.inbox_reserve.ensures.stops c.inbox_reserve.ensures.rest ∙ ap (shown_at g.K.Keeper.told g.K.Keeper.fuse g.K.Keeper.own g.K.Counted.faults g.K.Keeper.quiet g.K.Keeper.schedule) c.deref_mut.ensures.value) c.args.self.now.tied;
  right = items_right c.args.self.now.taker g.J.Naming.found _ _ (c.inbox_reserve.ensures.items ∙ ap (λ r. r.inbox.items) c.deref_mut.ensures.value) c.args.self.now.right;
}

pub returns-clause-shows : goal.returns-clause-shows
returns-clause-shows g c = shown_same g.K.Keeper.told g.K.Keeper.fuse g.K.Keeper.own g.K.Counted.faults g.K.Keeper.quiet g.K.Keeper.schedule c.deref_mut.result.now c.inbox_reserve.new.self c.inbox_reserve.ensures.keeper c.inbox_reserve.ensures.queue c.inbox_reserve.ensures.stops c.inbox_reserve.ensures.rest ∙ ap (shown_at g.K.Keeper.told g.K.Keeper.fuse g.K.Keeper.own g.K.Counted.faults g.K.Keeper.quiet g.K.Keeper.schedule) c.deref_mut.ensures.value

pub returns-clause-refused : goal.returns-clause-refused
returns-clause-refused g c = begins_not c.inbox_reserve.result c.args.self.now.replica.value.stopped (c.inbox_reserve.ensures.front ∙ ap (λ r. stop_front r.stopped None) c.deref_mut.ensures.value) c.inbox_reserve.ensures.no_fault c.inbox_reserve.ensures.seen
