use Rattle.mc_script.proofs.ReplyFacts.{all_told_apart, told_apart}
use Rattle.mc_script.proofs.laws.replies_are_told_apart.Goals as goal

pub returns-clause-first : goal.returns-clause-first
returns-clause-first c reply other after behind typed also same = told_apart reply other after behind c.read_again.ensures typed also same

pub returns-clause-all : goal.returns-clause-all
returns-clause-all c replies others typed also same = all_told_apart replies others c.read_again.ensures typed also same
