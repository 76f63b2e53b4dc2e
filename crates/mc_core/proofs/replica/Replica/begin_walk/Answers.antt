use Rattle.std.specs.Prelude.{⊤}
use Rattle.std.proofs.Common.{[], ◌∷◌}
use Rattle.mc_model.specs.Events.{WalkBegin}
use Rattle.mc_plan.specs.declared.walks.WalkStep.TheVariants.{Begun}
use Rattle.mc_core.specs.Replica.{running_of}
use Rattle.mc_plan.proofs.WalkFacts.{begin_due, step_done, step_goes, told_begins}
use Rattle.mc_core.proofs.replica.Replica.begin_walk.Goals as goal

pub returns-in-Ok-clause-call : goal.returns-in-Ok-clause-call
returns-in-Ok-clause-call g c =
    step_done _ _ _ (running_of c.args.self.now) _ ⊤ Begun c.requires.up (begin_due _ _ c.requires.whole c.requires.walk)
    (step_goes (WalkBegin ∷ []) _ _ _ _ _ _ _ c.requires.up c.in-Ok.ensures.reads.told_same c.in-Ok.ensures.reads.fuse_same
    (told_begins _ _ (running_of c.args.self.now) _ c.requires.whole c.requires.walk c.in-Ok.ensures.walk))
