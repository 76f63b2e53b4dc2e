use Rattle.mc_core.proofs.Keeps.{commit_itself}
use Rattle.mc_core.proofs.replica.Replica.store.Goals as goal

pub returns-then-count-eq0-clause-keeps : goal.returns-then-count-eq0-clause-keeps
returns-then-count-eq0-clause-keeps g c = commit_itself c.args.self.now
