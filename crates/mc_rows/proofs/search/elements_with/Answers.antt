use Rattle.std.proofs.Common.{◌∙◌, ap}
use Rattle.mc_rows.specs.Rows.{rows_of}
use Rattle.mc_rows.proofs.Finds.{points_in_order, elements_found}
use Rattle.mc_rows.proofs.search.elements_with.Goals as goal

pub part-requires-clause-from : goal.part-requires-clause-from
part-requires-clause-from c =
    points_in_order c.args.elements.now c.args.key.now c.place_of-from.result c.place_of-to.result c.place_of-from.ensures.bound
    c.place_of-from.ensures.point c.place_of-to.ensures.point

pub returns-clause-own : goal.returns-clause-own
returns-clause-own c =
    ap rows_of c.part.ensures
    ∙ elements_found c.args.elements.now c.args.key.now c.place_of-from.result c.place_of-to.result c.place_of-from.ensures.bound c.place_of-to.ensures.bound
    c.place_of-from.ensures.point c.place_of-to.ensures.point
