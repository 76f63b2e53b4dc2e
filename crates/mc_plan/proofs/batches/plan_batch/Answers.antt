use Rattle.mc_model.specs.Batch.{batch_delta}
use Rattle.mc_plan.proofs.RefusalFacts.{result_made}
use Rattle.mc_keep.proofs.Frames.{read_more}
use Rattle.mc_plan.proofs.batches.plan_batch.Goals as goal

pub returns-clause-refused : goal.returns-clause-refused
returns-clause-refused g c =
    result_made _ _ _ _ _ (λ priority. batch_delta priority c.args.batch.now) _ c.in_ok-next.ensures.reads.told_same c.in_ok-next.ensures.left c.in_ok-next.ensures.next c.in_ok-delta.ensures c.plan_made.ensures.refused

pub returns-clause-reads : goal.returns-clause-reads
returns-clause-reads g c = read_more c.in_ok-next.ensures.reads c.plan_made.ensures.reads
