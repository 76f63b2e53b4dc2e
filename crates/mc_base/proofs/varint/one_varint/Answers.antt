use Rattle.mc_base.proofs.VarintFacts.{one_spelling}
use Rattle.mc_base.proofs.varint.one_varint.Goals as goal

pub returns : goal.returns
returns c first second after other one two h k e = one_spelling first second after other one two h.spelled k.spelled e
