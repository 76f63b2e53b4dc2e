use Rattle.mc_lend.proofs.LendFacts.{lent}
use Rattle.mc_lend.proofs.lending.lend_one.Goals as goal

pub returns-then-site-clause-lends : goal.returns-then-site-clause-lends
returns-then-site-clause-lends g c = lent _ c.args.site.now _ _ _ _ _ c.view_of.result c.if-site.true c.push_reserved.ensures.items c.take_first.ensures.items c.view_of.ensures.desk c.view_of.ensures.view
