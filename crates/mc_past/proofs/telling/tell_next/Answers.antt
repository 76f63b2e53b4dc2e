use Rattle.std.proofs.Common.{arith, rules}
use Rattle.mc_past.proofs.LookFacts.{looks_itself, looks_more, looks_runs}
use Rattle.mc_past.proofs.TellingFacts.{told_all, told_early, told_fits, told_more, told_none, told_still}
use Rattle.mc_past.proofs.telling.tell_next.Goals as goal

pub loop-number-init : goal.loop-number-init
loop-number-init g c = record {
  runs = c.requires.runs;
  looks = looks_itself c.args.replica.now;
  below = omega arith;
  events = told_none (g.K.Keeper.told c.args.replica.now.keeper) c.args.past.now _ c.new-events.ensures c.requires.fits;
}

pub loop-number-preserved : goal.loop-number-preserved
loop-number-preserved g c = record {
  runs = looks_runs c.in-Ok-true.ensures.looks c.loop-number.invariant.runs;
  looks = looks_more c.loop-number.invariant.looks c.in-Ok-true.ensures.looks;
  below = omega (arith, c.loop-number-test.true);
  events = told_more (g.K.Keeper.told c.args.replica.now.keeper) (g.K.Keeper.told c.loop-number.replica.keeper) c.in-Ok-true.field-0 c.args.past.now.length c.loop-number.number _ c.in-Some.next c.loop-number.past c.tell_one.new.live c.loop-number.taken.events c.tell_one.new.taken.events c.loop-number.invariant.looks.same.told_same c.in-Ok-true.field-0-test (omega arith)
      (search (rules, c.in-Some.ensures)) c.loop-number.invariant.events c.in-Ok-true.ensures.tells;
}

pub returns-in-Ok-false-clause-events : goal.returns-in-Ok-false-clause-events
returns-in-Ok-false-clause-events g c =
    told_early (g.K.Keeper.told c.args.replica.now.keeper) (g.K.Keeper.told c.loop-number.replica.keeper) c.in-Ok-false.field-0 c.args.past.now.length c.loop-number.number c.args.count c.loop-number.past c.tell_one.new.live c.loop-number.taken.events c.tell_one.new.taken.events c.loop-number.invariant.looks.same.told_same c.in-Ok-false.field-0-test
    c.loop-number.invariant.events c.in-Ok-false.ensures.tells c.loop-number.invariant.below

pub returns-in-Ok-false-clause-fits : goal.returns-in-Ok-false-clause-fits
returns-in-Ok-false-clause-fits g c =
    told_still (g.K.Keeper.told c.args.replica.now.keeper) (g.K.Keeper.told c.loop-number.replica.keeper) c.in-Ok-false.field-0 c.args.past.now.length c.loop-number.number c.args.count c.loop-number.past c.tell_one.new.live c.loop-number.taken.events c.tell_one.new.taken.events c.loop-number.invariant.looks.same.told_same c.in-Ok-false.field-0-test
    c.loop-number.invariant.events c.in-Ok-false.ensures.tells

pub returns-in-Ok-false-clause-looks : goal.returns-in-Ok-false-clause-looks
returns-in-Ok-false-clause-looks g c = looks_more c.loop-number.invariant.looks c.in-Ok-false.ensures.looks

pub returns-in-Err-clause-looks : goal.returns-in-Err-clause-looks
returns-in-Err-clause-looks g c = looks_more c.loop-number.invariant.looks c.in-Err.ensures.looks

pub returns-clause-events : goal.returns-clause-events
returns-clause-events g c = told_all (g.K.Keeper.told c.args.replica.now.keeper) c.args.past.now.length c.loop-number.number c.args.count c.loop-number.past c.loop-number.taken.events (omega (arith, c.loop-number.invariant.below, c.loop-number-test.false)) c.loop-number.invariant.events

pub returns-clause-fits : goal.returns-clause-fits
returns-clause-fits g c = told_fits (g.K.Keeper.told c.args.replica.now.keeper) c.args.past.now.length c.loop-number.number c.loop-number.past c.loop-number.taken.events c.loop-number.invariant.events
