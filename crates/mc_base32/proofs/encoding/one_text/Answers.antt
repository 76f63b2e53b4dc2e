use Rattle.mc_base32.proofs.Laws.{read_was_written}
use Rattle.mc_base32.proofs.encoding.one_text.Goals as goal

pub returns : goal.returns
returns c case text bytes read = read_was_written case text bytes read
