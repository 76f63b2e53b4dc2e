use Rattle.std.proofs.Common.{refl, sym, subst}
use Rattle.std.specs.Prelude.{Ok}
use Rattle.mc_node.specs.Entries.{items_at, shown_at}
use Rattle.mc_node.specs.Ties.{IsTied}
use Rattle.mc_node.proofs.BoxFacts.{all_in}
use Rattle.mc_node.proofs.PieceFacts.{adds_fetched, all_items, tied_many}
use Rattle.mc_node.proofs.stored.Stored.take_group.Goals as goal

pub invariant_of-self : goal.invariant_of-self
invariant_of-self g c = record {
  tied =
      let now = shown_at g.K.Keeper.told g.K.Keeper.fuse g.K.Keeper.own g.K.Counted.faults g.K.Keeper.quiet g.K.Keeper.schedule c.commit_group.new.self.replica.value in
      let all = all_items g.K.Keeper.told g.K.Keeper.fuse g.K.Keeper.own g.K.Counted.faults g.K.Keeper.quiet g.K.Keeper.schedule c.in-Ok.grouped.processed c.commit_group.new.self.replica.value c.commit_group.new.self.log.items c.commit_group.new.self.log.items c.note_all.new.log.items refl (all_in c.in-Ok.grouped.processed _ _ _ _ c.deref.ensures c.note_all.ensures) in
      subst (IsTied _ now) (sym all) (tied_many _ c.in-Ok.grouped.processed (items_at g.K.Keeper.told g.K.Keeper.fuse g.K.Keeper.own g.K.Counted.faults g.K.Keeper.quiet g.K.Keeper.schedule c.commit_group.new.self.log.items) now c.commit_group.new.self.tied (c.in-Ok.ensures.runs refl));
  right = c.commit_group.new.self.right;
}

pub returns-in-Ok-clause-does : goal.returns-in-Ok-clause-does
returns-in-Ok-clause-does g c = record {
  does = record {
    items = c.in-Ok.ensures.does.group;
    answer = Ok c.in-Ok.grouped;
    is = refl;
    does = record {
      mid = items_at g.K.Keeper.told g.K.Keeper.fuse g.K.Keeper.own g.K.Counted.faults g.K.Keeper.quiet g.K.Keeper.schedule c.commit_group.new.self.log.items;
      does = c.in-Ok.ensures.does.does;
      notes = all_items g.K.Keeper.told g.K.Keeper.fuse g.K.Keeper.own g.K.Counted.faults g.K.Keeper.quiet g.K.Keeper.schedule c.in-Ok.grouped.processed c.commit_group.new.self.replica.value c.commit_group.new.self.log.items c.commit_group.new.self.log.items c.note_all.new.log.items refl (all_in c.in-Ok.grouped.processed _ _ _ _ c.deref.ensures c.note_all.ensures);
    };
  };
  takes = c.in-Ok.ensures.does.takes;
}

pub returns-in-Ok-clause-commits : goal.returns-in-Ok-clause-commits
returns-in-Ok-clause-commits g c = adds_fetched c.in-Ok.grouped.processed _ _ _ _ c.in-Ok.ensures.log (all_in c.in-Ok.grouped.processed _ _ _ _ c.deref.ensures c.note_all.ensures)
