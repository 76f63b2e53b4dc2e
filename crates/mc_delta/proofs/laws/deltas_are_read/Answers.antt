use Rattle.mc_delta.proofs.ReadLaw.{read_is, fault_is, fine_is}
use Rattle.mc_delta.proofs.laws.deltas_are_read.Goals as goal

pub returns-clause-read : goal.returns-clause-read
returns-clause-read c = read_is

pub returns-clause-fault : goal.returns-clause-fault
returns-clause-fault c = fault_is

pub returns-clause-fine : goal.returns-clause-fine
returns-clause-fine c = fine_is
