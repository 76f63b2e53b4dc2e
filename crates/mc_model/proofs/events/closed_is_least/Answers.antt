use Rattle.std.proofs.Common.{inl}
use Rattle.mc_model.proofs.Found.{closed_least, closed_wanted, closed_linked}
use Rattle.mc_model.proofs.events.closed_is_least.Goals as goal

pub returns-clause-old : goal.returns-clause-old
returns-clause-old c found order start d e = inl e

pub returns-clause-starts : goal.returns-clause-starts
returns-clause-starts c = closed_wanted

pub returns-clause-goes : goal.returns-clause-goes
returns-clause-goes c = closed_linked

pub returns-clause-least : goal.returns-clause-least
returns-clause-least c found order start test old starts goes = closed_least found order start test starts goes old
