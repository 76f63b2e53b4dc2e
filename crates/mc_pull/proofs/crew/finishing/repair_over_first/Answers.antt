use Rattle.std.proofs.Common.{rules}
use Rattle.mc_drain.specs.Works.{peer_broke}
use Rattle.mc_pull.proofs.Left.{calm_at, left_at}
use Rattle.mc_pull.proofs.crew.finishing.repair_over_first.Goals as goal

pub returns-clause-left : goal.returns-clause-left
returns-clause-left g c = left_at _ g.met.F.Fetch.follows_itself (peer_broke c.finish_repair.result) c.in-Some.fetch.now c.finish_repair.new.fetch c.in-Some._others.now c.args.fetches.now (search rules) c.finish_repair.ensures.asks

pub returns-clause-calm : goal.returns-clause-calm
returns-clause-calm g c = λ none. calm_at _ g.met.F.Fetch.follows_itself (peer_broke c.finish_repair.result) c.in-Some.fetch.now c.finish_repair.new.fetch c.in-Some._others.now c.args.fetches.now (search rules) c.finish_repair.ensures.asks none
