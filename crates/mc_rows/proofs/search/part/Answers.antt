use Rattle.std.proofs.lemmas.Slice.{between_is}
use Rattle.mc_rows.proofs.search.part.Goals as goal

pub returns : goal.returns
returns c = between_is c.args.elements.now c.args.from c.args.to
