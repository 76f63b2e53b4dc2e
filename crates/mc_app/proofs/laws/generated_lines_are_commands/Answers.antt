use Rattle.mc_app.proofs.GeneratedFacts.{are_commands}
use Rattle.mc_app.proofs.laws.generated_lines_are_commands.Goals as goal

pub returns : goal.returns
returns c = are_commands c.commands_are_read_again.ensures
