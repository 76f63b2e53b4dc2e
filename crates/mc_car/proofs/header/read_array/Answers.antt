use Rattle.std.proofs.Common.{arith, sym, ◌∙◌, ap}
use Rattle.mc_car.proofs.Headers.{counting_begins, counting_breaks, counting_ends, counting_fails, counting_next, agrees, differs}
use Rattle.mc_car.specs.CarRead.{roots_or_fault}
use Rattle.mc_car.specs.Steps.{rooted}
use Rattle.std.specs.Prelude.{option_map}
use Rattle.mc_car.proofs.header.read_array.Goals as goal

pub loop-left-init : goal.loop-left-init
loop-left-init c = rw c.in_ok-roots.ensures (counting_begins c.args.count c.args.text.now)

pub returns-in_default-clause-fault : goal.returns-in_default-clause-fault
returns-in_default-clause-fault c =
    ap roots_or_fault (counting_breaks c.args.count c.loop-left.left c.args.text.now c.loop-left.rest.now c.loop-left.roots c.loop-left.invariant (omega arith) (sym c.read_root.ensures ∙ ap (option_map rooted) c.in_default.is))

pub loop-left-preserved : goal.loop-left-preserved
loop-left-preserved c =
    rw c.in_ok-push.ensures.ok
    (counting_next c.args.count c.loop-left.left c.args.text.now c.loop-left.rest.now c.in-Some.tail.now c.loop-left.roots c.in-Some.root c.loop-left.invariant (omega arith) (sym c.read_root.ensures ∙ ap (option_map rooted) c.in-Some.is))

pub returns-then-ne-clause-fault : goal.returns-then-ne-clause-fault
returns-then-ne-clause-fault c = ap roots_or_fault (counting_fails c.args.count c.loop-left.left c.args.text.now c.loop-left.rest.now c.loop-left.roots c.loop-left.invariant (omega arith) (differs c.ne.result _ (rw c.as_slice.ensures at c.ne.ensures) c.if-ne.true))

pub returns-clause-roots : goal.returns-clause-roots
returns-clause-roots c = ap roots_or_fault (counting_ends c.args.count c.loop-left.left c.args.text.now c.loop-left.rest.now c.loop-left.roots c.loop-left.invariant (omega arith) (agrees c.ne.result _ (rw c.as_slice.ensures at c.ne.ensures) c.if-ne.false))
