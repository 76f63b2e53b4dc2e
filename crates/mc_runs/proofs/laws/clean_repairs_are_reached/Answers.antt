use Rattle.mc_script.specs.declared.command.Command.TheVariants.{Repair}
use Rattle.mc_script.specs.declared.reply.Reply.TheVariants.{Clean}
use Rattle.mc_runs.specs.Promises.{HasSettled}
use Rattle.mc_runs.proofs.ReachFacts.{clean_settles, leaves_after}
use Rattle.mc_runs.proofs.laws.clean_repairs_are_reached.Goals as goal

pub returns-clause-step : goal.returns-clause-step
returns-clause-step c = clean_settles c.kept_is_durable.ensures.back c.clean_replicas_are_reached.ensures.mark

pub returns-clause-line : goal.returns-clause-line
returns-clause-line c = λ lines answers first last k r workers. leaves_after (λ w. HasSettled w r) (Repair r workers) Clean (λ w entry w2. clean_settles c.kept_is_durable.ensures.back c.clean_replicas_are_reached.ensures.mark w r workers entry w2) lines answers first last k
