use Rattle.std.proofs.Common.{arith, sym, ap, ◌∙◌, length}
use Rattle.mc_lend.specs.Lending.{desks_lent, marks_of, with_all}
use Rattle.mc_lend.specs.Rows.{lists_of}
use Rattle.mc_lend.proofs.LendFacts.{all_last, fewer}
use Rattle.mc_lend.proofs.fetches.+return_fetches.Goals as goal

pub return_fetch-requires-clause-room : goal.return_fetch-requires-clause-room
return_fetch-requires-clause-room g t c = fewer 0 (length c.args.fetches.now.items) 0 1 (marks_of c.args.sites.now) c.args.rows.now.items (omega arith) (let len = c.take_last.ensures.len in omega (arith, len)) c.requires.holds

pub returns-clause-returns : goal.returns-clause-returns
returns-clause-returns g t c =
    c.return_fetches.ensures.returns ∙ ap (λ lists. with_all (marks_of c.args.sites.now) (desks_lent c.take_last.new.fetches.items) lists) c.return_fetch.ensures.returns
    ∙ sym (all_last (marks_of c.args.sites.now) c.take_last.new.fetches.items c.take_last.result (lists_of c.args.rows.now.items))
    ∙ ap (λ fetches. with_all (marks_of c.args.sites.now) (desks_lent fetches) (lists_of c.args.rows.now.items)) (sym c.take_last.ensures.items)
