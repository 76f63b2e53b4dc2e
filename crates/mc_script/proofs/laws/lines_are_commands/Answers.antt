use Rattle.mc_script.proofs.GrammarFacts.{line_is_found, line_is_read, silent_lines}
use Rattle.mc_script.proofs.laws.lines_are_commands.Goals as goal

pub returns-clause-read : goal.returns-clause-read
returns-clause-read c = line_is_read

pub returns-clause-found : goal.returns-clause-found
returns-clause-found c = line_is_found c.one_text.ensures

pub returns-clause-silent : goal.returns-clause-silent
returns-clause-silent c = silent_lines
