use Rattle.std.proofs.Common.{[], ◌∷◌}
use Rattle.std.proofs.lemmas.Bool.{and_from}
use Rattle.mc_model.proofs.Climb.{reach_least}
use Rattle.mc_model.proofs.events.reached_is_least.Goals as goal

pub returns-clause-starts : goal.returns-clause-starts
returns-clause-starts c graph start d e f = record { path = []; along = and_from _ _ e f }

pub returns-clause-goes : goal.returns-clause-goes
returns-clause-goes c graph start m d reached l f = record { path = m ∷ reached.path; along = and_from _ _ reached.along (and_from _ _ l f) }

pub returns-clause-least : goal.returns-clause-least
returns-clause-least c graph start test starts goes d reached = reach_least graph start test starts goes reached.path d reached.along
