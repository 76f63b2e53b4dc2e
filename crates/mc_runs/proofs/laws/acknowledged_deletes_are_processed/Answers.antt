use Rattle.mc_runs.proofs.WrittenFacts.{delete_is_processed}
use Rattle.mc_runs.proofs.laws.acknowledged_deletes_are_processed.Goals as goal

pub returns : goal.returns
returns c = delete_is_processed
