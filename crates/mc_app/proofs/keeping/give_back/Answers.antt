use Rattle.std.proofs.Common.{◌∙◌, refl}
use Rattle.mc_app.proofs.KeepingFacts.{back_begins, back_more}
use Rattle.mc_app.proofs.keeping.give_back.Goals as goal

pub loop-parts-init : goal.loop-parts-init
loop-parts-init g c = (rw c.into_vec-parts.ensures (back_begins _ _ _ _ _ _), refl)

pub loop-parts-preserved : goal.loop-parts-preserved
loop-parts-preserved g c = (
  back_more _ _ _ _ _ _ _ _ _ _ _ _ c.loop-parts.invariant.0 c.take_first-keeper.ensures.items c.end.ensures c.end-in-loop-parts.ensures.taken c.end-in-loop-parts.ensures.lost,
  c.end-in-loop-parts.ensures.count ∙ c.loop-parts.invariant.1,
)
