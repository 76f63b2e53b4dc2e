use Rattle.mc_lend.specs.Lending.{marks_of}
use Rattle.mc_lend.proofs.LendFacts.{all_there, all_viewed}
use Rattle.mc_lend.proofs.lent.lend.Goals as goal

pub lend_fetches-requires-clause-holds : goal.lend_fetches-requires-clause-holds
lend_fetches-requires-clause-holds g c = rw c.in-Ok.ensures.items (all_there c.args.count (marks_of c.args.sites.now) c.open_lists.new.rows.items (rw (c.open_lists.ensures.opened, c.in_ok-rows.ensures.items) c.requires.enough) c.open_lists.ensures.fit)

pub give_back-requires-clause-viewed : goal.give_back-requires-clause-viewed
give_back-requires-clause-viewed g c = let lends = c.lend_fetches.ensures.lends in rw (lends.added, c.in-Ok.ensures.items) (all_viewed c.args.sites.now lends.more lends.of)
