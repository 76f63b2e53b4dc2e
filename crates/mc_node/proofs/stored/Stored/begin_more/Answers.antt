use Rattle.std.proofs.Common.{Err, Ok, arith, refl}
use Rattle.mc_turn.proofs.Lists.{begins_trans}
use Rattle.mc_node.specs.Items.{is_sealing}
use Rattle.mc_node.proofs.AheadFacts.{begins_last, begins_push, fits_push, job_fits}
use Rattle.mc_node.proofs.SeatFacts.{begins_on}
use Rattle.mc_node.proofs.TakeFacts.{next_as}
use Rattle.mc_node.proofs.stored.Stored.begin_more.Goals as goal

pub returns-in-Ok-None-clause-extends : goal.returns-in-Ok-None-clause-extends
returns-in-Ok-None-clause-extends g c = begins_trans _ _ _ c.loop.invariant.extends c.first_job.ensures.extends

pub returns-in-Ok-None-clause-does : goal.returns-in-Ok-None-clause-does
returns-in-Ok-None-clause-does g c = begins_last c.args.limit _ (Ok c.in-Ok-None.field-0) _ _ _ _ _ _ _ refl c.loop.invariant.begins c.in-Ok-None.ensures.does

pub returns-in-Err-clause-extends : goal.returns-in-Err-clause-extends
returns-in-Err-clause-extends g c = begins_trans _ _ _ c.loop.invariant.extends c.first_job.ensures.extends

pub returns-in-Err-clause-does : goal.returns-in-Err-clause-does
returns-in-Err-clause-does g c = begins_last c.args.limit _ (Err c.in-Err.error) _ _ _ _ _ _ _ c.fails.ensures c.loop.invariant.begins c.in-Err.ensures.does

pub loop-preserved : goal.loop-preserved
loop-preserved g c =
    let inv = c.loop.invariant in
    let test = c.loop-test.true in
    record {
      begins = begins_push c.args.limit _ c.in-Ok-Some.job _ _ _ _ _ _ _ c.push_reserved.ensures.items inv.begins (next_as c.args.limit _ _ _ _ _ _ c.in-Ok-Some.field-0-is c.in-Ok-Some.ensures.does);
      extends = begins_trans _ _ _ inv.extends c.first_job.ensures.extends;
      sealed = begins_on is_sealing _ _ inv.sealed c.first_job.ensures.extends;
      fits = fits_push _ _ _ _ _ c.push_reserved.ensures.items inv.fits (job_fits _ _ _ _ c.in-Ok-Some.field-0-is c.in-Ok-Some.ensures.job);
      room = omega (arith, inv.room, c.push_reserved.ensures.len, c.push_reserved.ensures.capacity, test);
      few = omega (arith, test);
    }
