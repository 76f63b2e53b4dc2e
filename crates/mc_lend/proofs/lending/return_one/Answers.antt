use Rattle.mc_lend.proofs.lending.return_one.Goals as goal

pub returns-then-site-clause-returns : goal.returns-then-site-clause-returns
returns-then-site-clause-returns g c = rw c.if-site.true (c.take_first-desk.result, c.take_first-desk.ensures.items, c.put_first.ensures.items)
