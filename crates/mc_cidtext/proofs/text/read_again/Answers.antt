use Rattle.mc_cidtext.proofs.Laws.{written_is_read}
use Rattle.mc_cidtext.proofs.text.read_again.Goals as goal

pub returns : goal.returns
returns c digest len are = written_is_read c.read_again.ensures c.cids_are_read.ensures digest len are
