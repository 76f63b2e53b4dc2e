use Rattle.mc_runs.proofs.WrittenFacts.{commit_is_processed}
use Rattle.mc_runs.proofs.laws.acknowledged_commits_are_processed.Goals as goal

pub returns : goal.returns
returns c = commit_is_processed c.order_and_store_grow.ensures c.written_blocks_stand.ensures
