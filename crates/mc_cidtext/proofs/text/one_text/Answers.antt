use Rattle.mc_cidtext.proofs.Laws.{read_was_written}
use Rattle.mc_cidtext.proofs.text.one_text.Goals as goal

pub returns : goal.returns
returns c text digest read = read_was_written c.one_text.ensures text digest read
