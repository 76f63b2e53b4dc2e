use Rattle.mc_plan.proofs.SettledFacts.{clean_gaps, clean_mark}
use Rattle.mc_plan.proofs.laws.clean_replicas_are_reached.Goals as goal

pub returns-clause-mark : goal.returns-clause-mark
returns-clause-mark c = clean_mark c.clean_is_reach.ensures.mark c.kept_is_durable.ensures.kept c.kept_is_durable.ensures.no_gaps

pub returns-clause-reached : goal.returns-clause-reached
returns-clause-reached c kept sound clean cycle = c.kept_without_gaps_is_reach.ensures kept sound (clean_gaps kept clean) cycle
