use Rattle.std.proofs.Common.{ap}
use Rattle.mc_node.proofs.BoxFacts.{tied_in}
use Rattle.mc_node.proofs.CallFacts.{root_log, root_tied}
use Rattle.mc_node.proofs.PieceFacts.{items_right, none_right}
use Rattle.mc_node.proofs.stored.Stored.new.Goals as goal

pub invariant_of-result : goal.invariant_of-result
invariant_of-result g c = record {
  tied = tied_in g.K.Keeper.told g.K.Keeper.fuse g.K.Keeper.own g.K.Counted.faults g.K.Keeper.quiet g.K.Keeper.schedule _ _ _ _ c.in-Ok-new.ensures.ok
      (root_tied g.K.Keeper.told g.K.Keeper.fuse g.K.Keeper.own g.K.Counted.faults g.K.Keeper.quiet g.K.Keeper.schedule c.found_drains_go_on.ensures.begins _ c.args.sealed c.args.replica _ _ _
      c.about-entry.ensures.note c.about-entry.ensures.replica c.in-Ok.ensures.items c.add.ensures c.requires.runs c.requires.most c.requires.found);
  right = items_right c.args.taker g.J.Naming.found _ _ (ap (λ r. r.inbox.items) c.in-Ok-new.ensures.ok) (none_right c.args.taker g.J.Naming.found _ c.requires.inbox);
}

pub returns-clause-root : goal.returns-clause-root
returns-clause-root g c = root_log c.args.sealed c.args.replica _ _ _ c.about-entry.ensures.note c.about-entry.ensures.replica c.in-Ok.ensures.items c.add.ensures
