use Rattle.mc_base.proofs.VarintFacts.{every_varint}
use Rattle.mc_base.proofs.varint.read_varint.Goals as goal

pub returns-clause-every : goal.returns-clause-every
returns-clause-every c = every_varint c.args.bytes.now c.first_varint.result c.first_varint.ensures.length c.first_varint.ensures.read c.first_varint.ensures.fault
