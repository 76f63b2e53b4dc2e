use Rattle.mc_keep.proofs.Fitting.{migration_keeps}
use Rattle.mc_keep.proofs.laws.migrations_fit.Goals as goal

pub returns : goal.returns
returns c = migration_keeps
