use Rattle.std.proofs.Common.{[], ◌∷◌, None, arith}
use Rattle.mc_model.specs.Events.{Batch}
use Rattle.mc_plan.specs.Uptakes.{uptake_events}
use Rattle.mc_plan.proofs.PartFacts.{part_more}
use Rattle.mc_core.proofs.replica.Replica.take_up_batch.Goals as goal

pub returns-in-Err-clause-part : goal.returns-in-Err-clause-part
returns-in-Err-clause-part g c = part_more _ _ (uptake_events c.args.planned.uptake) (Batch None ∷ []) _ _ _ (omega arith) c.in-Err.ensures.part
