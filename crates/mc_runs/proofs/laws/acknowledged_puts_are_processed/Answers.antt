use Rattle.mc_runs.proofs.WrittenFacts.{put_is_processed}
use Rattle.mc_runs.proofs.laws.acknowledged_puts_are_processed.Goals as goal

pub returns : goal.returns
returns c = put_is_processed c.written_blocks_stand.ensures
