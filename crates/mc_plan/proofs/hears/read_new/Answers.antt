use Rattle.std.proofs.Common.{refl}
use Rattle.mc_plan.proofs.FaultFacts.{reads_nothing}
use Rattle.mc_plan.proofs.hears.read_new.Goals as goal

pub returns-in-Err-Fault-clause-reads : goal.returns-in-Err-Fault-clause-reads
returns-in-Err-Fault-clause-reads g c = reads_nothing c.args.keeper.now refl

pub returns-clause-reads : goal.returns-clause-reads
returns-clause-reads g c = reads_nothing c.args.keeper.now refl
