use Rattle.std.proofs.Common.{◌∙◌, ap, arith, refl, subst, sym}
use Rattle.mc_turn.specs.Lists.{Begins}
use Rattle.mc_worker.specs.declared.ends.ShopError.TheVariants.{KeeperFault}
use Rattle.mc_node.specs.Entries.{is_sealed_log, items_at}
use Rattle.mc_node.specs.Items.{is_sealing}
use Rattle.mc_node.proofs.PieceFacts.{adds_nothing}
use Rattle.mc_node.proofs.SeatFacts.{begins_on}
use Rattle.mc_node.proofs.TakeFacts.{groups_err, ons_broken, ons_from, ons_group, ons_lost, ons_nothing, ons_short}
use Rattle.mc_node.proofs.stored.Stored.take_added.Goals as goal

pub returns-in-Err-clause-does : goal.returns-in-Err-clause-does
returns-in-Err-clause-does g c = ons_from c.args.limit c.args.first c.args.item.cid _ _ _ _ _ _ _ (ap (items_at g.K.Keeper.told g.K.Keeper.fuse g.K.Keeper.own g.K.Counted.faults g.K.Keeper.quiet g.K.Keeper.schedule) (c.in-Err.ensures.log ∙ ap (λ v. v.items) c.add.ensures.log)) (c.in-Err.ensures.shows ∙ c.add.ensures.shows)
    (ons_short c.args.limit c.args.first c.args.item.cid _ _ _ _ c.give_back.ensures.does)

pub returns-then-processed-limit-clause-does : goal.returns-then-processed-limit-clause-does
returns-then-processed-limit-clause-does g c = ons_nothing c.args.limit c.args.first c.args.item.cid _ _ _ _ (ap (items_at g.K.Keeper.told g.K.Keeper.fuse g.K.Keeper.own g.K.Counted.faults g.K.Keeper.quiet g.K.Keeper.schedule) (c.in-Ok.ensures.log ∙ ap (λ v. v.items) c.add.ensures.log)) (c.in-Ok.ensures.shows ∙ c.add.ensures.shows)

pub returns-then-processed-limit-clause-commits : goal.returns-then-processed-limit-clause-commits
returns-then-processed-limit-clause-commits g c = (0, omega arith, adds_nothing _ _ (c.in-Ok.ensures.log ∙ ap (λ v. v.items) c.add.ensures.log))

pub give_back-requires-in-Err-take_round : goal.give_back-requires-in-Err-take_round
give_back-requires-in-Err-take_round g c = record { sealed = begins_on is_sealing _ _ (ap is_sealed_log (c.in-Ok.ensures.log ∙ ap (λ v. v.items) c.add.ensures.log) ∙ c.requires.sealed) c.take_round.ensures.extends }

pub returns-in-Ok-take_round-clause-does : goal.returns-in-Ok-take_round-clause-does
returns-in-Ok-take_round-clause-does g c = ons_from c.args.limit c.args.first c.args.item.cid _ _ _ _ _ _ _ (ap (items_at g.K.Keeper.told g.K.Keeper.fuse g.K.Keeper.own g.K.Counted.faults g.K.Keeper.quiet g.K.Keeper.schedule) (c.in-Ok.ensures.log ∙ ap (λ v. v.items) c.add.ensures.log)) (c.in-Ok.ensures.shows ∙ c.add.ensures.shows)
    (ons_group c.args.limit c.args.first c.args.item.cid c.in-Ok-take_round.count _ _ _ _ _ refl c.in-Ok-take_round.ensures.does.takes.does)

pub returns-in-Err-KeeperFault-clause-does : goal.returns-in-Err-KeeperFault-clause-does
returns-in-Err-KeeperFault-clause-does g c = ons_from c.args.limit c.args.first c.args.item.cid _ _ _ _ _ _ _ (ap (items_at g.K.Keeper.told g.K.Keeper.fuse g.K.Keeper.own g.K.Counted.faults g.K.Keeper.quiet g.K.Keeper.schedule) (c.in-Ok.ensures.log ∙ ap (λ v. v.items) c.add.ensures.log)) (c.in-Ok.ensures.shows ∙ c.add.ensures.shows)
    (ons_broken c.args.limit c.args.first c.args.item.cid _ _ _ _ (groups_err c.args.limit _ KeeperFault _ _ _ _ c.in-Err-KeeperFault.field-0-is c.in-Err-KeeperFault.ensures.does.takes.does))

pub returns-in-Err-take_round : goal.returns-in-Err-take_round
returns-in-Err-take_round g c = record {
  extends = subst (λ log. Begins log c.give_back-in-Err-take_round.new.self.log.items) (c.in-Ok.ensures.log ∙ ap (λ v. v.items) c.add.ensures.log)
      (subst (Begins c.begin_group.new.self.log.items) (sym c.give_back-in-Err-take_round.ensures.log) c.take_round.ensures.extends);
  does = ons_from c.args.limit c.args.first c.args.item.cid _ _ _ _ _ _ _ (ap (items_at g.K.Keeper.told g.K.Keeper.fuse g.K.Keeper.own g.K.Counted.faults g.K.Keeper.quiet g.K.Keeper.schedule) (c.in-Ok.ensures.log ∙ ap (λ v. v.items) c.add.ensures.log)) (c.in-Ok.ensures.shows ∙ c.add.ensures.shows)
      (ons_lost c.args.limit c.args.first c.args.item.cid _ _ _ _ _ _ _ c.in-Err-take_round.ensures.does.takes.does c.give_back-in-Err-take_round.ensures.does);
  commits = tt;
}
