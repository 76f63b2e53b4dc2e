use Rattle.std.proofs.Common.{◌∙◌, false, true, refl}
use Rattle.mc_core.proofs.Keeps.{continues_more, still_on}
use Rattle.mc_drain.specs.Words.{is_keeper}
use Rattle.mc_drain.proofs.WalkFacts.{step_told, walks_itself, walks_then}
use Rattle.mc_drain.proofs.walking.walk.Goals as goal

pub loop-init : goal.loop-init
loop-init g c = record { runs = c.requires.runs; keeps = still_on refl refl refl; batch = refl; flight = refl; walks = walks_itself _ }

pub returns-in-Ok-true-clause-walks : goal.returns-in-Ok-true-clause-walks
returns-in-Ok-true-clause-walks g c = walks_then false 1 _ _ _ c.loop.invariant.walks (step_told _ _ _ true c.in-Ok-true.field-0-test c.in-Ok-true.ensures.walks)

pub returns-in-Ok-true-clause-keeps : goal.returns-in-Ok-true-clause-keeps
returns-in-Ok-true-clause-keeps g c = continues_more c.loop.invariant.keeps c.in-Ok-true.ensures.keeps

pub returns-in-Err-clause-walks : goal.returns-in-Err-clause-walks
returns-in-Err-clause-walks g c = walks_then (is_keeper c.in-Err.end) 1 _ _ _ c.loop.invariant.walks c.in-Err.ensures.walks

pub returns-in-Err-clause-keeps : goal.returns-in-Err-clause-keeps
returns-in-Err-clause-keeps g c = continues_more c.loop.invariant.keeps c.in-Err.ensures.keeps

pub loop-preserved : goal.loop-preserved
loop-preserved g c = record {
  runs = c.in-Ok-false.ensures.keeps.stops ∙ c.loop.invariant.runs;
  keeps = continues_more c.loop.invariant.keeps c.in-Ok-false.ensures.keeps;
  batch = c.in-Ok-false.ensures.batch ∙ c.loop.invariant.batch;
  flight = c.in-Ok-false.ensures.flight ∙ c.loop.invariant.flight;
  walks = walks_then false 0 _ _ _ c.loop.invariant.walks (step_told _ _ _ false c.in-Ok-false.field-0-test c.in-Ok-false.ensures.walks);
}
