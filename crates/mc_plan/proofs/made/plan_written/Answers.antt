use Rattle.std.proofs.Common.{rules}
use Rattle.std.proofs.lemmas.Result.{err_from_is_err_and}
use Rattle.mc_keep.proofs.Frames.{read_more, read_well}
use Rattle.mc_plan.proofs.DeliverFacts.{place_told}
use Rattle.mc_plan.proofs.FaultFacts.{reads_nothing, same_fault}
use Rattle.mc_plan.proofs.RefusalFacts.{made_due}
use Rattle.mc_plan.proofs.TakenFacts.{made_new, plan_is}
use Rattle.mc_plan.proofs.made.plan_written.Goals as goal

pub returns-in-Err-clause-refused : goal.returns-in-Err-clause-refused
returns-in-Err-clause-refused g c =
    made_due _ c.args.block.now.links c.args.block.now.delta _ _ _ c.requires.bytes c.requires.cid (rw (c.as_slice.ensures) at c.in_ok-check_size.ensures.ok)
    (rw (c.as_slice-2.ensures) at c.in-Err.ensures.refused)

pub returns-in_err-check_size-clause-reads : goal.returns-in_err-check_size-clause-reads
returns-in_err-check_size-clause-reads g c =
    let p = err_from_is_err_and c.from_residual.result c.from_residual.ensures.1 in
    rw (p.1, p.2) (reads_nothing c.args.keeper.now c.in_err-check_size.ensures.no_fault)

pub returns-in_err-uptake-clause-reads : goal.returns-in_err-uptake-clause-reads
returns-in_err-uptake-clause-reads g c =
    let p = err_from_is_err_and c.from_residual-in_err-uptake.result c.from_residual-in_err-uptake.ensures.1 in
    rw p.1 (read_well (read_more (read_more c.in-Ok.ensures.reads c.in_ok-position.ensures.reads) c.in_err-uptake.ensures.reads) (same_fault _ _ p.2))

pub returns-clause-reads : goal.returns-clause-reads
returns-clause-reads g c = read_more (read_more c.in-Ok.ensures.reads c.in_ok-position.ensures.reads) c.in_ok-uptake.ensures.reads

pub returns-clause-planned : goal.returns-clause-planned
returns-clause-planned g c =
    plan_is _ c.args.whole c.args.block.now.links c.args.block.now.delta _ _ _ _ c.requires.bytes c.requires.cid (rw (c.as_slice.ensures) at c.in_ok-check_size.ensures.ok)
    (rw (c.as_slice-2.ensures) at c.in-Ok.ensures.allowed) (place_told _ _ (rw (c.in-Ok.ensures.reads.told_same) at c.in_ok-position.ensures.row))
    (rw (c.in_ok-position.ensures.reads.told_same, c.in-Ok.ensures.reads.told_same) at c.in_ok-uptake.ensures.uptake) (search rules)

pub uptake_of-requires-clause-new : goal.uptake_of-requires-clause-new
uptake_of-requires-clause-new g c =
    rw (c.new.ensures, c.in_ok-position.ensures.reads.told_same, c.in-Ok.ensures.reads.told_same) (made_new _ c.args.block.now.links c.args.block.now.delta _ _ c.requires.linked c.requires.good (rw (c.as_slice.ensures) at c.in_ok-check_size.ensures.ok)
    (rw (c.as_slice-2.ensures) at c.in-Ok.ensures.allowed))
