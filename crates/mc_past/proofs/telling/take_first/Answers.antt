use Rattle.std.proofs.Common.{arith}
use Rattle.mc_past.proofs.LookFacts.{looks_itself, looks_more, looks_runs}
use Rattle.mc_past.proofs.TellingFacts.{taken_all, taken_early, taken_fits, taken_more, taken_none, taken_still}
use Rattle.mc_past.proofs.telling.take_first.Goals as goal

pub loop-position-init : goal.loop-position-init
loop-position-init g c = record {
  runs = c.requires.runs;
  looks = looks_itself c.args.replica.now;
  below = c.requires.before;
  taken = taken_none (g.K.Keeper.told c.args.replica.now.keeper) c.args.past.now c.requires.fits;
}

pub loop-position-preserved : goal.loop-position-preserved
loop-position-preserved g c = record {
  runs = looks_runs c.in-Ok-true.ensures.looks c.loop-position.invariant.runs;
  looks = looks_more c.loop-position.invariant.looks c.in-Ok-true.ensures.looks;
  below = omega (arith, c.loop-position-test.true);
  taken = taken_more (g.K.Keeper.told c.args.replica.now.keeper) (g.K.Keeper.told c.loop-position.replica.keeper) c.in-Ok-true.field-0 c.loop-position.position _ c.loop-position.past c.take_one.new.live c.loop-position.invariant.looks.same.told_same c.in-Ok-true.field-0-test (omega arith) c.loop-position.invariant.taken c.in-Ok-true.ensures.takes;
}

pub returns-in-Ok-false-clause-reaches : goal.returns-in-Ok-false-clause-reaches
returns-in-Ok-false-clause-reaches g c =
    taken_early (g.K.Keeper.told c.args.replica.now.keeper) (g.K.Keeper.told c.loop-position.replica.keeper) c.in-Ok-false.field-0 c.loop-position.position c.args.from c.loop-position.past c.take_one.new.live c.loop-position.invariant.looks.same.told_same c.in-Ok-false.field-0-test c.loop-position.invariant.taken c.in-Ok-false.ensures.takes c.loop-position.invariant.below

pub returns-in-Ok-false-clause-fits : goal.returns-in-Ok-false-clause-fits
returns-in-Ok-false-clause-fits g c =
    taken_still (g.K.Keeper.told c.args.replica.now.keeper) (g.K.Keeper.told c.loop-position.replica.keeper) c.in-Ok-false.field-0 c.loop-position.position c.args.from c.loop-position.past c.take_one.new.live c.loop-position.invariant.looks.same.told_same c.in-Ok-false.field-0-test c.loop-position.invariant.taken c.in-Ok-false.ensures.takes

pub returns-in-Ok-false-clause-looks : goal.returns-in-Ok-false-clause-looks
returns-in-Ok-false-clause-looks g c = looks_more c.loop-position.invariant.looks c.in-Ok-false.ensures.looks

pub returns-in-Err-clause-looks : goal.returns-in-Err-clause-looks
returns-in-Err-clause-looks g c = looks_more c.loop-position.invariant.looks c.in-Err.ensures.looks

pub returns-clause-reaches : goal.returns-clause-reaches
returns-clause-reaches g c = taken_all (g.K.Keeper.told c.args.replica.now.keeper) c.loop-position.position c.args.from c.loop-position.past (omega (arith, c.loop-position.invariant.below, c.loop-position-test.false)) c.loop-position.invariant.taken

pub returns-clause-fits : goal.returns-clause-fits
returns-clause-fits g c = taken_fits (g.K.Keeper.told c.args.replica.now.keeper) c.loop-position.position c.loop-position.past c.loop-position.invariant.taken
