use Rattle.std.proofs.Common.{◌∙◌, ◌<◌, ap, length, subst, sym}
use Rattle.mc_node.specs.Entries.{shown_at}
use Rattle.mc_node.proofs.GroupFacts.{shown_same}
use Rattle.mc_node.proofs.PieceFacts.{added_right, items_right, was_added}
use Rattle.mc_node.proofs.TieFacts.{tied_shown}
use Rattle.mc_node.proofs.stored.Stored.add.Goals as goal

pub invariant_of-self : goal.invariant_of-self
invariant_of-self g c = record {
  tied = tied_shown _ _ _ _ (shown_same g.K.Keeper.told g.K.Keeper.fuse g.K.Keeper.own g.K.Counted.faults g.K.Keeper.quiet g.K.Keeper.schedule c.deref_mut.result.now c.inbox_add.new.self c.inbox_add.ensures.keeper c.inbox_add.ensures.queue c.inbox_add.ensures.stops c.inbox_add.ensures.rest ∙ ap (shown_at g.K.Keeper.told g.K.Keeper.fuse g.K.Keeper.own g.K.Counted.faults g.K.Keeper.quiet g.K.Keeper.schedule) c.deref_mut.ensures.value) c.args.self.now.tied;
  right = added_right c.args.self.now.taker g.J.Naming.found _ _ c.args.item (was_added c.inbox_add.result _ _ c.args.item c.inbox_add.ensures.added c.inbox_add.ensures.full (subst (λ r. length r.inbox.items < 64) (sym c.deref_mut.ensures.value) c.requires.left)) c.requires.right (items_right c.args.self.now.taker g.J.Naming.found _ _ (ap (λ r. r.inbox.items) c.deref_mut.ensures.value) c.args.self.now.right);
}

pub returns-clause-shows : goal.returns-clause-shows
returns-clause-shows g c = shown_same g.K.Keeper.told g.K.Keeper.fuse g.K.Keeper.own g.K.Counted.faults g.K.Keeper.quiet g.K.Keeper.schedule c.deref_mut.result.now c.inbox_add.new.self c.inbox_add.ensures.keeper c.inbox_add.ensures.queue c.inbox_add.ensures.stops c.inbox_add.ensures.rest ∙ ap (shown_at g.K.Keeper.told g.K.Keeper.fuse g.K.Keeper.own g.K.Counted.faults g.K.Keeper.quiet g.K.Keeper.schedule) c.deref_mut.ensures.value
