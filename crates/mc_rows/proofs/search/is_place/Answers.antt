use Rattle.mc_rows.proofs.Finds.{place_here}
use Rattle.mc_rows.proofs.search.is_place.Goals as goal

pub returns-clause-point : goal.returns-clause-point
returns-clause-point c = λ ahead.
    place_here c.args.elements.now c.args.key.now c.args.inclusive c.args.at c.requires c.if-at-elements.false (c.is_behind.ensures c.if-not-is_behind.false) (c.is_ahead.ensures ahead)
