use Rattle.mc_runs.proofs.PromiseFacts.{step_grows, runs_grow}
use Rattle.mc_runs.proofs.laws.runs_only_grow.Goals as goal

pub returns-clause-step : goal.returns-clause-step
returns-clause-step c = step_grows c.order_and_store_grow.ensures

pub returns-clause-runs : goal.returns-clause-runs
returns-clause-runs c = runs_grow c.order_and_store_grow.ensures
