use Rattle.std.proofs.Common.{refl}
use Rattle.mc_core.proofs.Keeps.{still_on}
use Rattle.mc_drain.proofs.RepairFacts.{given_up_told, still_repairs}
use Rattle.mc_drain.proofs.WorkFacts.{still_works, work_given_up}
use Rattle.mc_drain.proofs.giving.give_up.Goals as goal

pub returns-in-Err-clause-works : goal.returns-in-Err-clause-works
returns-in-Err-clause-works g c = λ budget finds. still_works budget finds _ c.is_sound.ensures.state

pub returns-in-Err-clause-repairs : goal.returns-in-Err-clause-repairs
returns-in-Err-clause-repairs g c = λ budget finds. still_repairs budget finds _ c.is_sound.ensures.state

pub returns-in-Err-clause-keeps : goal.returns-in-Err-clause-keeps
returns-in-Err-clause-keeps g c = still_on refl refl refl

pub returns-clause-works : goal.returns-clause-works
returns-clause-works g c = let laws = c.found_drains_go_on.ensures in λ budget finds. work_given_up laws.begins laws.closed c.parts_stay_right.ensures.drained budget finds _ _ c.is_sound-2.ensures.state c.recall.ensures.leads

pub returns-clause-repairs : goal.returns-clause-repairs
returns-clause-repairs g c =
    let laws = c.found_drains_go_on.ensures in
    let repairs = c.found_repairs_go_on.ensures in
    λ budget finds. given_up_told laws.begins repairs.begins repairs.joins repairs.whole budget finds _ _ c.is_sound.ensures.state c.is_sound-2.ensures.state c.recall.ensures.leads
