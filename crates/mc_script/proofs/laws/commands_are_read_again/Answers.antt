use Rattle.mc_script.proofs.GrammarFacts.{command_is_read}
use Rattle.mc_script.proofs.laws.commands_are_read_again.Goals as goal

pub returns : goal.returns
returns c = command_is_read c.read_again.ensures
