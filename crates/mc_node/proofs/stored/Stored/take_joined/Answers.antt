use Rattle.std.proofs.Common.{◌≡◌, ◌∙◌, ◌++◌, ◌∷◌, [], ap, arith, length, refl, subst, sym}
use Rattle.std.specs.Prelude.{Err, IfSome, Ok}
use Rattle.mc_turn.specs.Lists.{Begins}
use Rattle.mc_core.specs.Counted.{capped}
use Rattle.mc_inbox.specs.Waiting.{as_stored}
use Rattle.mc_worker.specs.declared.ends.ShopError.TheVariants.{KeeperFault, Memory, Spent, Stopped}
use Rattle.mc_node.specs.Entries.{is_sealed_log, items_at, shown_at}
use Rattle.mc_node.specs.Handovers.{AddsFetched, is_of_fetched}
use Rattle.mc_node.specs.Items.{is_sealing}
use Rattle.mc_node.specs.Serves.{AnswersAt}
use Rattle.mc_node.proofs.FillFacts.{in_from, in_round, in_took}
use Rattle.mc_node.proofs.SeatFacts.{begins_on}
use Rattle.mc_node.proofs.TakeFacts.{at_short, at_spent, at_stopped, gathers_from, gathers_group, gathers_lost, gathers_nothing, groups_err, takes_broken, takes_ok, takes_short, takes_spent, takes_stopped}
use Rattle.mc_node.proofs.stored.Stored.take_joined.Goals as goal

pub returns-then-is_stopped-clause-does : goal.returns-then-is_stopped-clause-does
returns-then-is_stopped-clause-does g c = takes_stopped c.args.limit c.args.item.cid _ _ _ _ (gathers_nothing c.args.limit (Err Stopped) _ _ _ _ (at_stopped c.args.limit _ (sym c.is_stopped.ensures ∙ c.if-is_stopped.true)) c.args.self.now.tied.halted refl refl refl)

pub returns-in-Err-clause-does : goal.returns-in-Err-clause-does
returns-in-Err-clause-does g c = takes_short c.args.limit c.args.item.cid _ _ _ _ _ _
    (gathers_nothing c.args.limit (Err Memory) _ _ _ _ (at_short c.args.limit _ (sym c.is_stopped.ensures ∙ c.if-is_stopped.false)) c.args.self.now.tied.halted (ap (items_at g.K.Keeper.told g.K.Keeper.fuse g.K.Keeper.own g.K.Counted.faults g.K.Keeper.quiet g.K.Keeper.schedule) c.in-Err.ensures.log) c.in-Err.ensures.shows tt)
    c.give_back.ensures.does

pub returns-then-processed-limit-clause-does : goal.returns-then-processed-limit-clause-does
returns-then-processed-limit-clause-does g c = takes_spent c.args.limit c.args.item.cid _ _ _ _ _ _
    (gathers_nothing c.args.limit (Err Spent) _ _ _ _
    (subst (AnswersAt c.args.limit (Err Spent)) c.in-Ok.ensures.shows (at_spent c.args.limit c.in-Ok.processed (shown_at g.K.Keeper.told g.K.Keeper.fuse g.K.Keeper.own g.K.Counted.faults g.K.Keeper.quiet g.K.Keeper.schedule c.begin_group.new.self.replica.value) c.in-Ok.ensures.runs (omega (arith, c.if-processed-limit.true)) c.in-Ok.ensures.length))
    c.args.self.now.tied.halted (ap (items_at g.K.Keeper.told g.K.Keeper.fuse g.K.Keeper.own g.K.Counted.faults g.K.Keeper.quiet g.K.Keeper.schedule) c.in-Ok.ensures.log) c.in-Ok.ensures.shows refl)
    c.give_back-then-processed-limit.ensures.does

pub take_round-requires-clause-sealed : goal.take_round-requires-clause-sealed
take_round-requires-clause-sealed g c = ap is_sealed_log (ap (λ v. v.items) c.add.ensures.log ∙ c.in-Ok.ensures.log) ∙ c.requires.sealed

pub take_round-requires-clause-count : goal.take_round-requires-clause-count
take_round-requires-clause-count g c = subst (λ k. IfSome (g.K.Keeper.told k) (λ kept. c.in-Ok.processed ≡ capped (length kept.order))) (sym (c.add.ensures.keeper)) c.in-Ok.ensures.length

pub take_round-requires-clause-runs : goal.take_round-requires-clause-runs
take_round-requires-clause-runs g c = ap (λ s. s.stopped) (c.add.ensures.shows) ∙ c.in-Ok.ensures.runs

pub returns-in-Ok-take_round-clause-extends : goal.returns-in-Ok-take_round-clause-extends
returns-in-Ok-take_round-clause-extends g c = subst (λ log. Begins log c.take_round.new.self.log.items) (ap (λ v. v.items) c.add.ensures.log ∙ c.in-Ok.ensures.log) c.take_round.ensures.extends

pub returns-in-Ok-take_round-clause-does : goal.returns-in-Ok-take_round-clause-does
returns-in-Ok-take_round-clause-does g c = takes_ok c.args.limit c.args.item.cid c.in-Ok-take_round.count _ _ _ _
    (gathers_from c.args.limit (Ok c.in-Ok-take_round.count) _ _ _ _ _ _ (ap (items_at g.K.Keeper.told g.K.Keeper.fuse g.K.Keeper.own g.K.Counted.faults g.K.Keeper.quiet g.K.Keeper.schedule) (ap (λ v. v.items) c.add.ensures.log ∙ c.in-Ok.ensures.log)) (c.add.ensures.shows ∙ c.in-Ok.ensures.shows)
    (gathers_group c.args.limit (Ok c.in-Ok-take_round.count) _ _ _ _ c.add.new.self.tied.halted tt c.in-Ok-take_round.ensures.does.takes.does))

pub returns-in-Ok-take_round-clause-commits : goal.returns-in-Ok-take_round-clause-commits
returns-in-Ok-take_round-clause-commits g c = subst (λ log. AddsFetched is_of_fetched log c.take_round.new.self.log.items c.in-Ok-take_round.count) (ap (λ v. v.items) c.add.ensures.log ∙ c.in-Ok.ensures.log) c.in-Ok-take_round.ensures.commits

pub returns-in-Ok-take_round-clause-took : goal.returns-in-Ok-take_round-clause-took
returns-in-Ok-take_round-clause-took g c =
    let taker = c.add.ensures.relay ∙ c.in-Ok.ensures.relay in
    let waited = c.add.ensures.added ∙ ap (λ l. l ++ as_stored c.args.item ∷ []) c.in-Ok.ensures.inbox in
    in_took c.args.limit (Ok c.in-Ok-take_round.count) _ _ _ _ _ _ _ _
    (in_from c.args.limit (Ok c.in-Ok-take_round.count) _ _ _ _ _ _ _ _ _ _ _ _ taker waited (ap (items_at g.K.Keeper.told g.K.Keeper.fuse g.K.Keeper.own g.K.Counted.faults g.K.Keeper.quiet g.K.Keeper.schedule) (ap (λ v. v.items) c.add.ensures.log ∙ c.in-Ok.ensures.log)) (c.add.ensures.shows ∙ c.in-Ok.ensures.shows)
    (in_round c.args.limit c.in-Ok.processed (Ok c.in-Ok-take_round.count) _ _ _ _ _ _ _ _ c.add.new.self.tied.halted tt
    (subst (λ k. IfSome (g.K.Keeper.told k) (λ kept. c.in-Ok.processed ≡ capped (length kept.order))) (sym (c.add.ensures.keeper)) c.in-Ok.ensures.length)
    c.in-Ok-take_round.ensures.does))

pub returns-in-Err-KeeperFault-clause-extends : goal.returns-in-Err-KeeperFault-clause-extends
returns-in-Err-KeeperFault-clause-extends g c = subst (λ log. Begins log c.take_round.new.self.log.items) (ap (λ v. v.items) c.add.ensures.log ∙ c.in-Ok.ensures.log) c.take_round.ensures.extends

pub returns-in-Err-KeeperFault-clause-does : goal.returns-in-Err-KeeperFault-clause-does
returns-in-Err-KeeperFault-clause-does g c = takes_broken c.args.limit c.args.item.cid _ _ _ _
    (gathers_from c.args.limit (Err KeeperFault) _ _ _ _ _ _ (ap (items_at g.K.Keeper.told g.K.Keeper.fuse g.K.Keeper.own g.K.Counted.faults g.K.Keeper.quiet g.K.Keeper.schedule) (ap (λ v. v.items) c.add.ensures.log ∙ c.in-Ok.ensures.log)) (c.add.ensures.shows ∙ c.in-Ok.ensures.shows)
    (gathers_group c.args.limit (Err KeeperFault) _ _ _ _ c.add.new.self.tied.halted tt (groups_err c.args.limit _ KeeperFault _ _ _ _ c.in-Err-KeeperFault.field-0-is c.in-Err-KeeperFault.ensures.does.takes.does)))

pub give_back-requires-in-Err-take_round : goal.give_back-requires-in-Err-take_round
give_back-requires-in-Err-take_round g c = record { sealed = begins_on is_sealing _ _ (ap is_sealed_log (ap (λ v. v.items) c.add.ensures.log ∙ c.in-Ok.ensures.log) ∙ c.requires.sealed) c.take_round.ensures.extends }

pub returns-in-Err-take_round : goal.returns-in-Err-take_round
returns-in-Err-take_round g c = record {
  extends = subst (λ log. Begins log c.give_back-in-Err-take_round.new.self.log.items) (ap (λ v. v.items) c.add.ensures.log ∙ c.in-Ok.ensures.log)
      (subst (Begins c.add.new.self.log.items) (sym c.give_back-in-Err-take_round.ensures.log) c.take_round.ensures.extends);
  does = takes_short c.args.limit c.args.item.cid _ _ _ _ _ _
      (gathers_from c.args.limit (Err Memory) _ _ _ _ _ _ (ap (items_at g.K.Keeper.told g.K.Keeper.fuse g.K.Keeper.own g.K.Counted.faults g.K.Keeper.quiet g.K.Keeper.schedule) (ap (λ v. v.items) c.add.ensures.log ∙ c.in-Ok.ensures.log)) (c.add.ensures.shows ∙ c.in-Ok.ensures.shows)
      (gathers_lost c.args.limit _ _ _ _ _ c.add.new.self.tied.halted (ap (λ s. s.stopped) (c.add.ensures.shows) ∙ c.in-Ok.ensures.runs) c.in-Err-take_round.ensures.does.takes.does))
      c.give_back-in-Err-take_round.ensures.does;
  commits = tt;
  took = tt;
}
