use Rattle.std.proofs.Common.{rules}
use Rattle.mc_lend.proofs.LendFacts.{fit_more}
use Rattle.mc_lend.proofs.rows.open_list.Goals as goal

pub returns-clause-fit : goal.returns-clause-fit
returns-clause-fit g c = rw c.push_reserved.ensures.items (fit_more _ _ c.requires.fit (search rules) (search rules))
