use Rattle.std.proofs.Common.{◌≡◌, ◌∙◌, ap, arith, length, refl, subst, sym}
use Rattle.std.specs.Prelude.{Err, IfOk, Ok, is_some}
use Rattle.mc_turn.specs.Lists.{Begins}
use Rattle.mc_worker.specs.declared.ends.ShopError.TheVariants.{Memory, Spent, Stopped}
use Rattle.mc_node.specs.Entries.{is_sealed_log, items_at, shown_at}
use Rattle.mc_node.specs.Handovers.{AddsFetched, is_of_fetched}
use Rattle.mc_node.specs.Serves.{AnswersAt}
use Rattle.mc_node.proofs.FillFacts.{in_from, in_nothing, in_round}
use Rattle.mc_node.proofs.PieceFacts.{adds_nothing}
use Rattle.mc_node.proofs.TakeFacts.{at_below, at_short, at_spent, at_stopped, on_ok, on_ok_any}
use Rattle.mc_node.proofs.stored.Stored.gather.Goals as goal

pub returns-then-is_stopped-clause-does : goal.returns-then-is_stopped-clause-does
returns-then-is_stopped-clause-does g c = in_nothing c.args.limit (Err Stopped) _ _ _ _ _ _ _ _ (at_stopped c.args.limit _ (sym c.is_stopped.ensures ∙ c.if-is_stopped.true)) c.args.self.now.tied.halted refl refl refl tt

pub returns-in-Err-clause-does : goal.returns-in-Err-clause-does
returns-in-Err-clause-does g c = in_nothing c.args.limit (Err Memory) _ _ _ _ _ _ _ _ (at_short c.args.limit _ (sym c.is_stopped.ensures ∙ c.if-is_stopped.false)) c.args.self.now.tied.halted (ap (items_at g.K.Keeper.told g.K.Keeper.fuse g.K.Keeper.own g.K.Counted.faults g.K.Keeper.quiet g.K.Keeper.schedule) c.in-Err.ensures.log) c.in-Err.ensures.shows tt tt

pub returns-then-processed-limit-clause-does : goal.returns-then-processed-limit-clause-does
returns-then-processed-limit-clause-does g c = in_nothing c.args.limit (Err Spent) _ _ _ _ _ _ _ _
    (subst (AnswersAt c.args.limit (Err Spent)) c.in-Ok.ensures.shows (at_spent c.args.limit c.in-Ok.processed (shown_at g.K.Keeper.told g.K.Keeper.fuse g.K.Keeper.own g.K.Counted.faults g.K.Keeper.quiet g.K.Keeper.schedule c.begin_group.new.self.replica.value) c.in-Ok.ensures.runs (omega (arith, c.if-processed-limit.true)) c.in-Ok.ensures.length))
    c.args.self.now.tied.halted (ap (items_at g.K.Keeper.told g.K.Keeper.fuse g.K.Keeper.own g.K.Counted.faults g.K.Keeper.quiet g.K.Keeper.schedule) c.in-Ok.ensures.log) c.in-Ok.ensures.shows refl tt

pub returns-then-not-has_relay-clause-does : goal.returns-then-not-has_relay-clause-does
returns-then-not-has_relay-clause-does g c = in_nothing c.args.limit (Ok 0) _ _ _ _ _ _ _ _
    (subst (AnswersAt c.args.limit (Ok 0)) c.in-Ok.ensures.shows (at_below c.args.limit c.in-Ok.processed 0 (shown_at g.K.Keeper.told g.K.Keeper.fuse g.K.Keeper.own g.K.Counted.faults g.K.Keeper.quiet g.K.Keeper.schedule c.begin_group.new.self.replica.value) c.in-Ok.ensures.runs (omega (arith, c.if-processed-limit.false)) c.in-Ok.ensures.length))
    c.args.self.now.tied.halted (ap (items_at g.K.Keeper.told g.K.Keeper.fuse g.K.Keeper.own g.K.Counted.faults g.K.Keeper.quiet g.K.Keeper.schedule) c.in-Ok.ensures.log) c.in-Ok.ensures.shows refl (ap is_some (sym c.in-Ok.ensures.relay) ∙ sym c.has_relay.ensures ∙ c.if-not-has_relay.true)

pub returns-then-not-has_relay-clause-commits : goal.returns-then-not-has_relay-clause-commits
returns-then-not-has_relay-clause-commits g c = adds_nothing _ _ c.in-Ok.ensures.log

pub take_round-requires-clause-sealed : goal.take_round-requires-clause-sealed
take_round-requires-clause-sealed g c = ap is_sealed_log c.in-Ok.ensures.log ∙ c.requires.sealed

pub returns-clause-extends : goal.returns-clause-extends
returns-clause-extends g c = subst (λ log. Begins log c.take_round.new.self.log.items) c.in-Ok.ensures.log c.take_round.ensures.extends

pub returns-clause-does : goal.returns-clause-does
returns-clause-does g c = in_from c.args.limit c.take_round.result _ _ _ _ _ _ _ _ _ _ _ _ c.in-Ok.ensures.relay c.in-Ok.ensures.inbox (ap (items_at g.K.Keeper.told g.K.Keeper.fuse g.K.Keeper.own g.K.Counted.faults g.K.Keeper.quiet g.K.Keeper.schedule) c.in-Ok.ensures.log) c.in-Ok.ensures.shows
    (in_round c.args.limit c.in-Ok.processed c.take_round.result _ _ _ _ _ _ _ _ c.begin_group.new.self.tied.halted c.take_round.ensures.error c.in-Ok.ensures.length c.take_round.ensures.does)

pub returns-clause-commits : goal.returns-clause-commits
returns-clause-commits g c = subst (λ log. IfOk c.take_round.result (AddsFetched is_of_fetched log c.take_round.new.self.log.items)) c.in-Ok.ensures.log c.take_round.ensures.commits

pub returns-clause-room : goal.returns-clause-room
returns-clause-room g c = on_ok_any c.take_round.result _ c.take_round.ensures.room

pub returns-clause-left : goal.returns-clause-left
returns-clause-left g c = on_ok c.take_round.result _ _ (λ less some. less) c.take_round.ensures.left

pub returns-clause-relay : goal.returns-clause-relay
returns-clause-relay g c = c.take_round.ensures.relay ∙ sym (ap is_some (sym c.in-Ok.ensures.relay) ∙ sym c.has_relay.ensures ∙ c.if-not-has_relay.false)
