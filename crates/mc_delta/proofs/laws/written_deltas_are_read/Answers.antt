use Rattle.mc_delta.proofs.ReadLaw.{told_read}
use Rattle.mc_delta.proofs.WrittenRead.{delta_is_read}
use Rattle.mc_model.specs.DeltaText.{delta_bytes}
use Rattle.mc_delta.proofs.laws.written_deltas_are_read.Goals as goal

pub returns-clause-delta : goal.returns-clause-delta
returns-clause-delta c = delta_is_read

pub returns-clause-read : goal.returns-clause-read
returns-clause-read c = λ delta writable. told_read (delta_bytes delta) delta (delta_is_read delta writable)
