use Rattle.mc_runs.proofs.WrittenFacts.{commit_stands, delete_stands, put_stands}
use Rattle.mc_runs.proofs.laws.acknowledged_blocks_stand.Goals as goal

pub returns-clause-puts : goal.returns-clause-puts
returns-clause-puts c = put_stands c.order_and_store_grow.ensures c.acknowledged_puts_are_processed.ensures

pub returns-clause-commits : goal.returns-clause-commits
returns-clause-commits c = commit_stands c.order_and_store_grow.ensures c.acknowledged_commits_are_processed.ensures

pub returns-clause-deletes : goal.returns-clause-deletes
returns-clause-deletes c = delete_stands c.order_and_store_grow.ensures c.acknowledged_deletes_are_processed.ensures
