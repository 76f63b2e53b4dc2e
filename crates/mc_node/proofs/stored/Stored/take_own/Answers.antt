use Rattle.std.proofs.Common.{◌∙◌, arith, sym}
use Rattle.mc_node.proofs.PieceFacts.{adds_nothing}
use Rattle.mc_node.proofs.TakeFacts.{ons_back}
use Rattle.mc_node.proofs.stored.Stored.take_own.Goals as goal

pub take_added-requires-clause-left : goal.take_added-requires-clause-left
take_added-requires-clause-left g c = c.requires.left (sym c.has_relay.ensures ∙ c.if-has_relay.true)

pub returns-clause-does : goal.returns-clause-does
returns-clause-does g c = ons_back c.args.limit c.args.first c.args.item.cid _ _ _ _ c.give_back.ensures.does

pub returns-clause-commits : goal.returns-clause-commits
returns-clause-commits g c = (0, omega arith, adds_nothing _ _ c.give_back.ensures.log)
