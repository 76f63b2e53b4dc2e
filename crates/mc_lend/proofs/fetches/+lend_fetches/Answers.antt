use Rattle.std.proofs.Common.{arith, length}
use Rattle.std.proofs.lemmas.Bool.Decides.{nat_tests}
use Rattle.mc_lend.specs.Lending.{marks_of}
use Rattle.mc_lend.proofs.LendFacts.{fewer}
use Rattle.mc_lend.proofs.fetches.+lend_fetches.Goals as goal

pub lend_fetch-requires : goal.lend_fetch-requires
lend_fetch-requires g t c = record { some = fewer c.args.count (length c.args.fetches.now.items) 1 0 (marks_of c.args.sites.now) c.args.rows.now.items (grind (arith, nat_tests, c.if-count-eq0.false)) (omega arith) c.requires.holds }

pub returns-in-Err-clause-holds : goal.returns-in-Err-clause-holds
returns-in-Err-clause-holds g t c = rw c.in-Err.ensures.err (fewer c.args.count (length c.args.fetches.now.items) 0 (length c.args.fetches.now.items) (marks_of c.args.sites.now) c.args.rows.now.items (omega arith) (omega arith) c.requires.holds)
