use Rattle.mc_lend.proofs.LendFacts.{viewed_front}
use Rattle.mc_lend.proofs.fetches.take_last.Goals as goal

pub returns-clause-viewed : goal.returns-clause-viewed
returns-clause-viewed g c = (viewed_front c.args.sites.now _ _ (rw c.take_last.ensures.items at c.requires.viewed)).0

pub returns-clause-many : goal.returns-clause-many
returns-clause-many g c = (viewed_front c.args.sites.now _ _ (rw c.take_last.ensures.items at c.requires.viewed)).1
