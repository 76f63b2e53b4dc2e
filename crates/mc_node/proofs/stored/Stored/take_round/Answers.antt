use Rattle.std.proofs.Common.{◌≡◌, ◌∙◌, ap, length, subst, sym}
use Rattle.std.specs.Prelude.{IfOk, IfSome}
use Rattle.mc_turn.specs.Lists.{Begins}
use Rattle.mc_core.specs.Counted.{capped}
use Rattle.mc_node.specs.Entries.{is_sealed_log, items_at}
use Rattle.mc_node.specs.Handovers.{AddsFetched, is_of_fetched}
use Rattle.mc_node.proofs.FillFacts.{round_of}
use Rattle.mc_node.proofs.stored.Stored.take_round.Goals as goal

pub take_group-requires-clause-sealed : goal.take_group-requires-clause-sealed
take_group-requires-clause-sealed g c = ap is_sealed_log (ap (λ v. v.items) c.fill.ensures.log) ∙ c.requires.sealed

pub take_group-requires-clause-count : goal.take_group-requires-clause-count
take_group-requires-clause-count g c = subst (λ k. IfSome (g.K.Keeper.told k) (λ kept. c.args.processed ≡ capped (length kept.order))) (sym c.fill.ensures.keeper) c.requires.count

pub take_group-requires-clause-runs : goal.take_group-requires-clause-runs
take_group-requires-clause-runs g c = ap (λ s. s.stopped) c.fill.ensures.shows ∙ c.requires.runs

pub returns-clause-extends : goal.returns-clause-extends
returns-clause-extends g c = subst (λ log. Begins log c.take_group.new.self.log.items) (ap (λ v. v.items) c.fill.ensures.log) c.take_group.ensures.extends

pub returns-clause-does : goal.returns-clause-does
returns-clause-does g c = round_of c.args.limit c.args.processed c.take_group.result _ _ _ _ _ _ _ _ _ _ _ _ c.take_group.ensures.relay (ap (items_at g.K.Keeper.told g.K.Keeper.fuse g.K.Keeper.own g.K.Counted.faults g.K.Keeper.quiet g.K.Keeper.schedule) (ap (λ v. v.items) c.fill.ensures.log)) c.fill.ensures.shows c.fill.ensures.moves (c.fill.ensures.emptied c.requires.relay) c.take_group.ensures.does

pub returns-clause-commits : goal.returns-clause-commits
returns-clause-commits g c = subst (λ log. IfOk c.take_group.result (AddsFetched is_of_fetched log c.take_group.new.self.log.items)) (ap (λ v. v.items) c.fill.ensures.log) c.take_group.ensures.commits
