use Rattle.mc_node.proofs.AheadFacts.{looks_next}
use Rattle.mc_node.proofs.node.ahead.Node+Stored+K+J.ask_jobs.Goals as goal

pub loop-look-preserved : goal.loop-look-preserved
loop-look-preserved g c =
    let busy = c.take_jobs-result.ensures.busy c.if-not-busy.false in
    record {
      looks = looks_next _ c.args.limit c.loop-look.look _ _ _ _ _ busy.0 busy.1 c.loop-look.invariant.looks c.take_jobs-result.ensures.turned;
      own = c.take_jobs-result.ensures.own;
      sealed = c.take_jobs-result.ensures.sealed;
      none = busy.1;
    }

pub returns-clause-does : goal.returns-clause-does
returns-clause-does g c = record { count = _; mid = _; looks = c.loop-look.invariant.looks; turned = c.take_jobs-result-2.ensures.turned }
