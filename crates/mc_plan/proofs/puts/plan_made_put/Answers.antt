use Rattle.mc_model.specs.Made.{put_delta}
use Rattle.mc_plan.proofs.RefusalFacts.{result_made}
use Rattle.mc_keep.proofs.Frames.{read_more}
use Rattle.mc_plan.proofs.puts.plan_made_put.Goals as goal

pub returns-clause-refused : goal.returns-clause-refused
returns-clause-refused g c =
    result_made _ _ _ _ _ (put_delta c.args.key.now c.args.value.now) _ c.in_ok-next.ensures.reads.told_same c.in_ok-next.ensures.left c.in_ok-next.ensures.next c.in_ok-delta.ensures c.plan_made.ensures.refused

pub returns-clause-reads : goal.returns-clause-reads
returns-clause-reads g c = read_more c.in_ok-next.ensures.reads c.plan_made.ensures.reads
