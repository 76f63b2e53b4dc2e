use Rattle.std.proofs.Common.{◌∙◌}
use Rattle.mc_turn.specs.Seats.{sight}
use Rattle.mc_node.proofs.FaceFacts.{tells_later}
use Rattle.mc_shown.proofs.TurnFacts.{turned_learned}
use Rattle.mc_shown.proofs.showing.Showing.show.Goals as goal

pub bring-result-requires-clause-begins : goal.bring-result-requires-clause-begins
bring-result-requires-clause-begins g c = record { first = sight c.args.self.glimpse.glimpse; rooted = c.args.self.glimpse.rooted; begins = c.learn.ensures.one.1; face = c.args.self.ties }

pub bring-result-requires-clause-tells : goal.bring-result-requires-clause-tells
bring-result-requires-clause-tells g c is = tells_later g.K.Keeper.told g.K.Keeper.fuse g.K.Keeper.own g.K.Counted.faults g.K.Keeper.quiet g.K.Keeper.schedule _ _ c.args.place.now.rooted c.learn.ensures.one.0 ∙ c.requires.tells is

pub returns-clause-turned : goal.returns-clause-turned
returns-clause-turned g c = turned_learned _ _ _ _ _ _ c.learn.ensures.learned c.learn.ensures.one.0 c.glimpse-glimpse.ensures.same c.bring-result.ensures.turned
