use Rattle.mc_block.proofs.MadeFacts.{made_is_offered, made_is_good}
use Rattle.mc_block.proofs.laws.written_blocks_are_good.Goals as goal

pub returns-clause-offered : goal.returns-clause-offered
returns-clause-offered c = made_is_offered c.cids_are_read.ensures c.written_nodes_are_read.ensures.read c.written_nodes_are_read.ensures.len c.written_deltas_are_read.ensures.read

pub returns-clause-good : goal.returns-clause-good
returns-clause-good c = made_is_good c.cids_are_read.ensures c.written_nodes_are_read.ensures.read c.written_nodes_are_read.ensures.len c.written_deltas_are_read.ensures.read
