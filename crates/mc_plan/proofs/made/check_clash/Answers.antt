use Rattle.mc_plan.proofs.RefusalFacts.{clash_unstored}
use Rattle.mc_plan.proofs.made.check_clash.Goals as goal

pub returns-in_default-clause-allowed : goal.returns-in_default-clause-allowed
returns-in_default-clause-allowed g c =
    clash_unstored (g.K.Keeper.told c.args.keeper.now) c.args.cid.now c.args.bytes.now c.in_ok-other.field-0 c.in_default.not-Some c.is_sound.ensures c.in_ok-other.ensures.row
