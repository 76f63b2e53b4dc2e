use Rattle.std.proofs.Common.{◌∙◌, sym}
use Rattle.std.proofs.lemmas.Bool.{false≢true}
use Rattle.mc_turn.proofs.Lists.{begins_trans}
use Rattle.mc_node.specs.Items.{is_sealing}
use Rattle.mc_node.proofs.PieceFacts.{adds_after}
use Rattle.mc_node.proofs.SeatFacts.{begins_on}
use Rattle.mc_node.proofs.TakeFacts.{takes_on}
use Rattle.mc_node.proofs.stored.Stored.take_with.Goals as goal

pub take_own-requires-clause-sealed : goal.take_own-requires-clause-sealed
take_own-requires-clause-sealed g c = begins_on is_sealing _ _ c.requires.sealed c.in-Ok.ensures.extends

pub returns-in-Ok-clause-extends : goal.returns-in-Ok-clause-extends
returns-in-Ok-clause-extends g c = begins_trans _ _ _ c.in-Ok.ensures.extends c.take_own.ensures.extends

pub returns-in-Ok-clause-does : goal.returns-in-Ok-clause-does
returns-in-Ok-clause-does g c = takes_on c.args.limit c.in-Ok.first c.args.item.cid c.take_own.result _ _ _ _ _ _ c.in-Ok.ensures.does c.take_own.ensures.does

pub returns-in-Ok-clause-commits : goal.returns-in-Ok-clause-commits
returns-in-Ok-clause-commits g c = adds_after c.take_own.result c.in-Ok.first _ _ _ c.in-Ok.ensures.commits c.take_own.ensures.commits

pub returns-then-has_place-clause-joined : goal.returns-then-has_place-clause-joined
returns-then-has_place-clause-joined g c = λ some less. c.take_joined.ensures.took

pub returns-in-Ok-clause-joined : goal.returns-in-Ok-clause-joined
returns-in-Ok-clause-joined g c = λ some less. absurd (false≢true (sym c.if-has_place.false ∙ c.has_place.ensures.place some less))

pub returns-in-Err-clause-joined : goal.returns-in-Err-clause-joined
returns-in-Err-clause-joined g c = λ some less. absurd (false≢true (sym c.if-has_place.false ∙ c.has_place.ensures.place some less))
