use Rattle.mc_plan.proofs.HearFacts.{read_allowed, read_refused}
use Rattle.mc_plan.proofs.hears.read_message.Goals as goal

pub returns-clause-allowed : goal.returns-clause-allowed
returns-clause-allowed c = read_allowed c.args.message.now c.read_cast.result c.read_cast.ensures.read

pub returns-clause-refused : goal.returns-clause-refused
returns-clause-refused c = read_refused c.args.message.now c.read_cast.result c.read_cast.ensures.fault
