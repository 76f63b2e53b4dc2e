use Rattle.std.proofs.Common.{rules}
use Rattle.mc_drain.specs.Words.{peer_failed}
use Rattle.mc_pull.proofs.Left.{calm_at, left_at}
use Rattle.mc_pull.proofs.crew.starting.start_first.Goals as goal

pub returns-clause-left : goal.returns-clause-left
returns-clause-left g c = left_at _ g.met.F.Fetch.follows_itself (peer_failed c.drain_alone.result) c.in-Some.fetch.now c.drain_alone.new.fetch c.in-Some._others.now c.args.fetches.now (search rules) c.drain_alone.ensures.asks

pub returns-clause-calm : goal.returns-clause-calm
returns-clause-calm g c = λ none. calm_at _ g.met.F.Fetch.follows_itself (peer_failed c.drain_alone.result) c.in-Some.fetch.now c.drain_alone.new.fetch c.in-Some._others.now c.args.fetches.now (search rules) c.drain_alone.ensures.asks none
