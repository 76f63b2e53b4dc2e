use Rattle.std.proofs.Common.{rules}
use Rattle.mc_acts.proofs.LiftFacts.{later_same}
use Rattle.mc_acts.proofs.RecordFacts.{act_goes, act_line, act_not_begun, act_unrecorded, fewer_faults, nothing_goes}
use Rattle.mc_seats.proofs.StayFacts.{all_stay}
use Rattle.mc_world.proofs.acting.act.Goals as goal

pub returns-in-Ok-clause-line : goal.returns-in-Ok-clause-line
returns-in-Ok-clause-line g c = act_line _ _ c.in_ok-before.before _ _ _ c.args.command.now c.in_ok-reply.reply c.in_ok-before.ensures.keepers c.in_ok-before.ensures.owns c.in_ok-before.ensures.of_desks (search rules) c.in_ok-reply.ensures.acts c.in-Ok.ensures.ok

pub returns-in-Ok-clause-goes : goal.returns-in-Ok-clause-goes
returns-in-Ok-clause-goes g c = act_goes _ _ _ _ _ c.args.command.now c.in_ok-reply.reply _ c.in_ok-reply.ensures.acts c.in-Ok.ensures.ok

pub returns-in_err-before-clause-short : goal.returns-in_err-before-clause-short
returns-in_err-before-clause-short g c = λ _. act_not_begun _ _ _ c.args.command.now (search rules)

pub returns-clause-short : goal.returns-clause-short
returns-clause-short g c = λ _. act_unrecorded _ _ _ _ _ c.args.command.now c.in_ok-reply.reply (search rules) c.in_ok-reply.ensures.acts c.in-Err.ensures.err

pub returns-clause-goes : goal.returns-clause-goes
returns-clause-goes g c = fewer_faults _ _ _ _ _ _ (act_goes _ _ _ _ _ c.args.command.now c.in_ok-reply.reply _ c.in_ok-reply.ensures.acts c.in-Err.ensures.err)

pub returns-then-not-is_there-clause-goes : goal.returns-then-not-is_there-clause-goes
returns-then-not-is_there-clause-goes g c = nothing_goes _ _ _ _

pub returns-in_err-before-clause-goes : goal.returns-in_err-before-clause-goes
returns-in_err-before-clause-goes g c = record { paid = search rules; calm = search rules; own_later = later_same _ _; desks_later = later_same _ _; desks_stay = all_stay _ _ _ }
