use Rattle.std.proofs.Common.{rules, ◌+◌}
use Rattle.mc_lend.proofs.LendFacts.{lends_on, none_hold, none_lent}
use Rattle.mc_lend.proofs.lending.+lend_each.Goals as goal

pub returns-in_default-clause-lends : goal.returns-in_default-clause-lends
returns-in_default-clause-lends g t c = none_lent c.args.sites.now c.args.rows.now c.args.views.now.items (search rules) c.requires.some

pub returns-in_default-clause-holds : goal.returns-in_default-clause-holds
returns-in_default-clause-holds g t c = λ there out holds. none_hold (there + 1) out there (out + 1) c.args.sites.now c.args.rows.now (search rules) holds

pub returns-clause-lends : goal.returns-clause-lends
returns-clause-lends g t c = let lends = lends_on c.in-Some-split_first.site.now _ _ _ _ _ _ _ _ c.lend_one.ensures.lends c.lend_each.ensures.lends in search (rules, lends)
