use Rattle.std.proofs.Common.{refl}
use Rattle.mc_core.proofs.Keeps.{still_on}
use Rattle.mc_drain.proofs.LeaveFacts.{repair_left, repair_stopped, work_left, work_stopped}
use Rattle.mc_drain.proofs.WorkFacts.{not_true}
use Rattle.mc_drain.proofs.finishing.leave_off.Goals as goal

pub returns-in-Err-clause-works : goal.returns-in-Err-clause-works
returns-in-Err-clause-works g c = let laws = c.found_drains_go_on.ensures in work_stopped laws.begins laws.closed c.parts_stay_right.ensures.drained _ _ c.in-Err.ensures.refused.1 c.is_sound.ensures.state

pub returns-in-Err-clause-repairs : goal.returns-in-Err-clause-repairs
returns-in-Err-clause-repairs g c =
    let laws = c.found_drains_go_on.ensures in
    let repairs = c.found_repairs_go_on.ensures in
    repair_stopped laws.begins repairs.begins repairs.joins repairs.whole laws.closed c.parts_stay_right.ensures.drained _ _ c.in-Err.ensures.refused.1 c.is_sound.ensures.state

pub returns-in-Err-clause-keeps : goal.returns-in-Err-clause-keeps
returns-in-Err-clause-keeps g c = still_on refl refl refl

pub returns-clause-works : goal.returns-clause-works
returns-clause-works g c = let laws = c.found_drains_go_on.ensures in work_left laws.begins laws.closed c.parts_stay_right.ensures.drained _ _ _ (not_true _ c.in-Ok.ensures.stopped) c.is_sound-2.ensures.state c.recall.ensures.leads

pub returns-clause-repairs : goal.returns-clause-repairs
returns-clause-repairs g c =
    let laws = c.found_drains_go_on.ensures in
    let repairs = c.found_repairs_go_on.ensures in
    repair_left laws.begins repairs.begins repairs.joins repairs.whole laws.closed c.parts_stay_right.ensures.drained _ _ _ (not_true _ c.in-Ok.ensures.stopped) c.is_sound-2.ensures.state c.recall.ensures.leads
