use Rattle.std.proofs.Common.{rules}
use Rattle.std.proofs.lemmas.Fn.{always_returns_same}
use Rattle.mc_rows.specs.Places.{goes_before}
use Rattle.mc_rows.proofs.Finds.{parted}
use Rattle.mc_rows.proofs.search.place_of.Goals as goal

pub returns-clause-point : goal.returns-clause-point
returns-clause-point c =
    c.partition_point.ensures.partitioned (goes_before c.args.inclusive c.args.key.now) (always_returns_same _ _ _ (λ a r f' called. (search rules, search rules)))
    (parted c.args.elements.now c.args.key.now c.args.inclusive c.requires)
