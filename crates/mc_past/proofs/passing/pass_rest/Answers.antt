use Rattle.std.proofs.Common.{arith, refl, sym, ◌∙◌}
use Rattle.mc_past.proofs.LookFacts.{looks_itself, looks_more, looks_runs}
use Rattle.mc_past.proofs.PassingFacts.{passed_all, passed_more, passed_none, passed_part, stays_at}
use Rattle.mc_past.proofs.passing.pass_rest.Goals as goal

pub returns-then-is_spent-clause-looks : goal.returns-then-is_spent-clause-looks
returns-then-is_spent-clause-looks g c = looks_itself c.args.replica.now

pub loop-position-init : goal.loop-position-init
loop-position-init g c = record {
  runs = c.requires.runs;
  unspent = sym c.is_spent.ensures ∙ c.if-is_spent.false;
  looks = looks_itself c.args.replica.now;
  passed = passed_none g.H.Hook.taken (g.K.Keeper.told c.args.replica.now.keeper) c.length-position.result c.args.feed.now c.length-position.ensures;
}

pub loop-position-preserved : goal.loop-position-preserved
loop-position-preserved g c = record {
  runs = looks_runs c.in-Ok-true.ensures.looks c.loop-position.invariant.runs;
  unspent = c.in-Ok-true.ensures.goes;
  looks = looks_more c.loop-position.invariant.looks c.in-Ok-true.ensures.looks;
  passed = passed_more g.H.Hook.taken (g.K.Keeper.told c.args.replica.now.keeper) (g.K.Keeper.told c.loop-position.replica.keeper) c.in-Ok-true.field-0 c.loop-position.position _ c.args.feed.now c.loop-position.feed c.pass_one.new.feed c.loop-position.invariant.looks.same.told_same c.in-Ok-true.field-0-test (omega arith) c.loop-position.invariant.passed c.in-Ok-true.ensures.passes;
}

pub returns-in-Ok-false-clause-passes : goal.returns-in-Ok-false-clause-passes
returns-in-Ok-false-clause-passes g c =
    passed_all g.H.Hook.taken (g.K.Keeper.told c.args.replica.now.keeper) (g.K.Keeper.told c.loop-position.replica.keeper) c.in-Ok-false.field-0 c.loop-position.position c.args.feed.now c.loop-position.feed c.pass_one.new.feed c.loop-position.invariant.looks.same.told_same c.in-Ok-false.field-0-test c.loop-position.invariant.passed c.in-Ok-false.ensures.passes

pub returns-in-Ok-false-clause-looks : goal.returns-in-Ok-false-clause-looks
returns-in-Ok-false-clause-looks g c = looks_more c.loop-position.invariant.looks c.in-Ok-false.ensures.looks

pub returns-in-Err-clause-part : goal.returns-in-Err-clause-part
returns-in-Err-clause-part g c =
    passed_part g.H.Hook.taken (g.K.Keeper.told c.args.replica.now.keeper) (g.K.Keeper.told c.loop-position.replica.keeper) c.loop-position.position c.args.feed.now c.loop-position.feed c.pass_one.new.feed c.loop-position.invariant.looks.same.told_same c.loop-position.invariant.passed c.in-Err.ensures.part

pub returns-in-Err-clause-looks : goal.returns-in-Err-clause-looks
returns-in-Err-clause-looks g c = looks_more c.loop-position.invariant.looks c.in-Err.ensures.looks

pub returns-clause-part : goal.returns-clause-part
returns-clause-part g c =
    passed_part g.H.Hook.taken (g.K.Keeper.told c.args.replica.now.keeper) (g.K.Keeper.told c.args.replica.now.keeper) c.loop-position.position c.args.feed.now c.loop-position.feed c.loop-position.feed refl c.loop-position.invariant.passed
    (stays_at g.H.Hook.taken (g.K.Keeper.told c.args.replica.now.keeper) c.loop-position.position c.loop-position.feed c.loop-position.invariant.unspent)
