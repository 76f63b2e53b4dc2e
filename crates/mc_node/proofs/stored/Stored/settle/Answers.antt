use Rattle.std.proofs.Common.{◌∙◌, ap, arith}
use Rattle.mc_node.specs.Fillings.{empties}
use Rattle.mc_node.proofs.stored.Stored.settle.Goals as goal

pub returns-clause-emptied : goal.returns-clause-emptied
returns-clause-emptied g c = λ some.
    let first = c.gather-first.ensures.noted in
    let second = c.gather-second.ensures.noted in
    let last = c.give_relay_up.ensures.emptied (c.gather-second.ensures.relay ∙ c.gather-first.ensures.relay ∙ some) in
    let same = ap empties c.give_inbox_up.ensures.relay in
    omega (arith, first, second, last, same)
