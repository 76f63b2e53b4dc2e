use Rattle.std.proofs.Common.{ap, sym}
use Rattle.std.specs.List.{list_any}
use Rattle.mc_tombs.specs.Tombs.{number_of, same_pair}
use Rattle.mc_tombs.proofs.TombFacts.{nothing_in}
use Rattle.mc_tombs.proofs.tombs.has_tomb.Goals as goal

pub returns-then-is_empty : goal.returns-then-is_empty
returns-then-is_empty g c =
    sym (ap (list_any (same_pair (number_of c.args.tombs.now.keys.keys c.args.key.now, number_of c.args.tombs.now.ids.keys c.args.id.now)))
    (nothing_in c.args.tombs.now.pairs.keys (c.is_empty.ensures.0 c.if-is_empty.true)))
