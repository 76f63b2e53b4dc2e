use Rattle.mc_pull.proofs.crew.laws.fetches_follow.Goals as goal

pub returns-clause-itself : goal.returns-clause-itself
returns-clause-itself g c = g.met.F.Fetch.follows_itself

pub returns-clause-on : goal.returns-clause-on
returns-clause-on g c = g.met.F.Fetch.follows_on
