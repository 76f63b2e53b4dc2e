use Rattle.std.proofs.Common.{arith}
use Rattle.mc_seats.proofs.DeskFacts.{begins, goes_on, is_running, makes_failed}
use Rattle.mc_seats.proofs.parting.fill_desks.Goals as goal

pub loop-made-init : goal.loop-made-init
loop-made-init g c = (rw c.requires.no_desks (begins _ _ c.args.replica.now), c.requires.room)

pub loop-made-preserved : goal.loop-made-preserved
loop-made-preserved g c = (
  rw c.push_reserved.ensures.items (goes_on _ _ _ _ _ _ _ _ c.loop-made.invariant.0 c.in-Ok.ensures.keeps c.desk.ensures.rest c.desk.ensures.same c.in-Ok.ensures.fresh c.in-Ok.ensures.quiet_desk (c.in-Ok.ensures.planned (is_running _ c.in-Ok.ensures.front))),
  omega (arith, c.push_reserved.ensures),
)

pub returns-in-Err-clause-makes : goal.returns-in-Err-clause-makes
returns-in-Err-clause-makes g c = makes_failed _ _ _ _ _ _ _ _ _ c.loop-made.invariant.0 c.in-Err.ensures.keeps c.desk.ensures.rest c.desk.ensures.same c.cause_of.ensures

pub returns-in-Err-clause-few : goal.returns-in-Err-clause-few
returns-in-Err-clause-few g c = omega (arith, c.loop-made.invariant.0.many)

pub returns-in-Err-clause-own : goal.returns-in-Err-clause-own
returns-in-Err-clause-own g c = record { planned = c.loop-made.invariant.0.planned }

pub returns-clause-own : goal.returns-clause-own
returns-clause-own g c = record { planned = c.loop-made.invariant.0.planned }
