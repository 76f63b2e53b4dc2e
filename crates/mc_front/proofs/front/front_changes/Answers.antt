use Rattle.mc_front.proofs.Told.{fit_told, out_told, heads_told, count_told, mark_told}
use Rattle.mc_front.proofs.front.front_changes.Goals as goal

pub returns-clause-fit : goal.returns-clause-fit
returns-clause-fit g c =
    fit_told (g.K.Keeper.told c.args.keeper.now) c.args.blocks.now _ c.in_ok-rows.ensures.links c.in_ok-rows.ensures.heads_out c.in_ok-rows.ensures.heads_in

pub returns-clause-out : goal.returns-clause-out
returns-clause-out g c =
    out_told (g.K.Keeper.told c.args.keeper.now) c.args.blocks.now c.in_ok-rows.rows.links c.in_ok-rows.rows.heads_out c.in_ok-rows.rows.heads_in
    c.in_ok-rows.ensures.links c.in_ok-rows.ensures.heads_out c.in_ok-rows.ensures.heads_in

pub returns-clause-heads : goal.returns-clause-heads
returns-clause-heads g c = heads_told (g.K.Keeper.told c.args.keeper.now) c.args.blocks.now c.in_ok-rows.rows.heads_in c.in_ok-rows.ensures.heads_in

pub returns-clause-gaps : goal.returns-clause-gaps
returns-clause-gaps g c =
    count_told (g.K.Keeper.told c.args.keeper.now) c.args.blocks.now c.in_ok-summary.summary c.gaps_after-gaps.result
    c.in_ok-rows.rows.marks c.in_ok-rows.rows.links c.in_ok-rows.rows.heads_out c.in_ok-rows.rows.heads_in
    c.in_ok-rows.ensures.marks c.in_ok-rows.ensures.links c.in_ok-rows.ensures.heads_out c.in_ok-rows.ensures.heads_in
    (rw c.in_ok-rows.ensures.reads.told_same at c.in_ok-summary.ensures.row) c.gaps_after-gaps.ensures

pub returns-clause-mark : goal.returns-clause-mark
returns-clause-mark g c =
    mark_told (g.K.Keeper.told c.args.keeper.now) c.args.blocks.now c.in_ok-summary.summary c.gaps_after-gaps.result c.args.whole c.mark_change-changes.result
    (rw c.in_ok-rows.ensures.reads.told_same at c.in_ok-summary.ensures.row)
    (count_told (g.K.Keeper.told c.args.keeper.now) c.args.blocks.now c.in_ok-summary.summary c.gaps_after-gaps.result
    c.in_ok-rows.rows.marks c.in_ok-rows.rows.links c.in_ok-rows.rows.heads_out c.in_ok-rows.rows.heads_in
    c.in_ok-rows.ensures.marks c.in_ok-rows.ensures.links c.in_ok-rows.ensures.heads_out c.in_ok-rows.ensures.heads_in
    (rw c.in_ok-rows.ensures.reads.told_same at c.in_ok-summary.ensures.row) c.gaps_after-gaps.ensures)
    c.mark_change-changes.ensures.after c.mark_change-changes.ensures.changes
