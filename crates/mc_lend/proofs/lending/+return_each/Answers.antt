use Rattle.std.proofs.Common.{rules, ◌+◌}
use Rattle.mc_lend.proofs.LendFacts.{none_hold, none_returned}
use Rattle.mc_lend.proofs.lending.+return_each.Goals as goal

pub returns-in_default-clause-returns : goal.returns-in_default-clause-returns
returns-in_default-clause-returns g t c = (none_returned c.args.sites.now c.args.rows.now c.args.views.now.items (search rules) c.requires.room c.requires.many).0

pub returns-in_default-clause-left : goal.returns-in_default-clause-left
returns-in_default-clause-left g t c = (none_returned c.args.sites.now c.args.rows.now c.args.views.now.items (search rules) c.requires.room c.requires.many).1

pub returns-in_default-clause-holds : goal.returns-in_default-clause-holds
returns-in_default-clause-holds g t c = λ out holds. none_hold 0 (out + 1) 0 out c.args.sites.now c.args.rows.now (search rules) holds
