use Rattle.std.proofs.Common.{◌≡◌, ◌<◌, length, arith}
use Rattle.std.proofs.lemmas.Bool.Decides.{nat_tests}
use Rattle.mc_write.specs.Pairs.{all_seen}
use Rattle.mc_write.proofs.CutFacts.{some_seen}
use Rattle.mc_write.proofs.DroppedFacts.{pairs_added, nothing_added}
use Rattle.mc_write.proofs.dropped.add_pairs.Goals as goal

pub returns-then-is_empty-clause-ok : goal.returns-then-is_empty-clause-ok
returns-then-is_empty-clause-ok c =
    let none : length c.args.pairs.now ≡ 0 = grind (arith, nat_tests, c.is_empty.ensures, c.if-is_empty.true) in
    nothing_added c.args.dropped.now.entries c.args.key.now c.args.pairs.now none c.requires.ordered c.requires.held

pub returns-in-Ok-clause-ok : goal.returns-in-Ok-clause-ok
returns-in-Ok-clause-ok c =
    let some : 0 < length c.args.pairs.now = grind (arith, nat_tests, c.is_empty.ensures, c.if-is_empty.false) in
    (pairs_added c.args.dropped.now.entries c.insert.new.self.entries c.in_ok-name.name c.args.key.now c.in_ok-cids.cids c.held_of.result.now (all_seen c.args.pairs.now)
    c.in_ok-name.ensures.ok c.in-Ok.ensures.ordered c.requires.held c.in-Ok.ensures.entries c.held_of.ensures c.in_ok-cids.ensures (some_seen c.args.pairs.now some)).pairs

pub returns-in-Ok-clause-held : goal.returns-in-Ok-clause-held
returns-in-Ok-clause-held c =
    let some : 0 < length c.args.pairs.now = grind (arith, nat_tests, c.is_empty.ensures, c.if-is_empty.false) in
    (pairs_added c.args.dropped.now.entries c.insert.new.self.entries c.in_ok-name.name c.args.key.now c.in_ok-cids.cids c.held_of.result.now (all_seen c.args.pairs.now)
    c.in_ok-name.ensures.ok c.in-Ok.ensures.ordered c.requires.held c.in-Ok.ensures.entries c.held_of.ensures c.in_ok-cids.ensures (some_seen c.args.pairs.now some)).held
