use Rattle.std.proofs.Common.{arith, ◌≡◌, length}
use Rattle.mc_seats.proofs.OpeningFacts.{join_one}
use Rattle.mc_seats.proofs.opening.join.Goals as goal

pub loop-seats-preserved : goal.loop-seats-preserved
loop-seats-preserved g c =
    let many : length c.take_last.new.self.items ≡ length c.take_last-desks.new.self.items = omega (arith, c.take_last.new.self.ok, c.take_last-desks.new.self.ok, c.take_last.ensures.len, c.take_last-desks.ensures.len, c.loop-seats.invariant.1) in (
      join_one _ _ _ _ _ _ _ _ _ many c.take_last.ensures.items c.take_last-desks.ensures.items (rw (← c.keeper_of-keeper.ensures) c.put_first.ensures.items) c.loop-seats.invariant.0,
      omega (arith, c.take_last.ensures.len, c.take_last-desks.ensures.len, c.loop-seats.invariant.1),
      omega (arith, c.take_last.ensures, c.put_first.ensures, c.loop-seats.invariant),
    )
