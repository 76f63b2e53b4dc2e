use Rattle.mc_runs.proofs.StormedFacts.{more_is_processed, more_stands, storm_blocks_stand}
use Rattle.mc_runs.proofs.laws.acknowledged_storms_are_processed.Goals as goal

pub returns-clause-step : goal.returns-clause-step
returns-clause-step c = more_is_processed

pub returns-clause-line : goal.returns-clause-line
returns-clause-line c = more_stands c.order_and_store_grow.ensures

pub returns-clause-blocks : goal.returns-clause-blocks
returns-clause-blocks c = storm_blocks_stand c.order_and_store_grow.ensures
