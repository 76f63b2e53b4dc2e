use Rattle.mc_walk.proofs.Visiting.{so_far, all_positions, all_blocks}
use Rattle.mc_walk.proofs.laws.walks_visit_each_once.Goals as goal

pub returns-clause-positions : goal.returns-clause-positions
returns-clause-positions c = all_positions

pub returns-clause-blocks : goal.returns-clause-blocks
returns-clause-blocks c = all_blocks

pub returns-clause-so_far : goal.returns-clause-so_far
returns-clause-so_far c = so_far
