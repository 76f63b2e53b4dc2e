use Rattle.mc_past.proofs.LookFacts.{looks_itself, looks_more, looks_runs}
use Rattle.mc_past.proofs.WalkFacts.{kept_first, kept_last, kept_more}
use Rattle.mc_past.proofs.below.walk.Goals as goal

pub returns-in-Err-clause-looks : goal.returns-in-Err-clause-looks
returns-in-Err-clause-looks g c = looks_itself c.args.replica.now

pub loop-left-init : goal.loop-left-init
loop-left-init g c = record {
  runs = c.requires.runs;
  looks = looks_itself c.args.replica.now;
  walking = kept_first (g.K.Keeper.told c.args.replica.now.keeper) c.args.cid.now c.args.last _ c.requires.fits c.in-Ok.ensures;
}

pub step-requires : goal.step-requires
step-requires g c = record { runs = c.loop-left.invariant.runs }

pub loop-left-preserved : goal.loop-left-preserved
loop-left-preserved g c = record {
  runs = looks_runs c.in-Ok-true.ensures.looks c.loop-left.invariant.runs;
  looks = looks_more c.loop-left.invariant.looks c.in-Ok-true.ensures.looks;
  walking = kept_more (g.K.Keeper.told c.args.replica.now.keeper) (g.K.Keeper.told c.loop-left.replica.keeper) c.in-Ok-true.field-0 c.args.cid.now c.loop-left.view c.step.new.view c.loop-left.invariant.looks.same.told_same c.in-Ok-true.field-0-test c.loop-left.invariant.walking c.in-Ok-true.ensures.walks;
}

pub returns-in-Ok-false-clause-walked : goal.returns-in-Ok-false-clause-walked
returns-in-Ok-false-clause-walked g c =
    kept_last (g.K.Keeper.told c.args.replica.now.keeper) (g.K.Keeper.told c.loop-left.replica.keeper) c.in-Ok-false.field-0 c.args.cid.now c.loop-left.view c.step.new.view c.is_sound.ensures.kept c.loop-left.invariant.looks.same.told_same c.in-Ok-false.field-0-test c.loop-left.invariant.walking c.in-Ok-false.ensures.walks

pub returns-in-Ok-false-clause-looks : goal.returns-in-Ok-false-clause-looks
returns-in-Ok-false-clause-looks g c = looks_more c.loop-left.invariant.looks c.in-Ok-false.ensures.looks

pub returns-in-Err-step-clause-looks : goal.returns-in-Err-step-clause-looks
returns-in-Err-step-clause-looks g c = looks_more c.loop-left.invariant.looks c.in-Err-step.ensures.looks

pub returns-clause-looks : goal.returns-clause-looks
returns-clause-looks g c = c.loop-left.invariant.looks
