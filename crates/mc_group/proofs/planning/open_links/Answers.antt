use Rattle.mc_keep.proofs.Frames.{read_itself}
use Rattle.mc_plan.proofs.RefusalFacts.{told_always}
use Rattle.mc_group.proofs.planning.open_links.Goals as goal

pub loop-block-init : goal.loop-block-init
loop-block-init g c = record { left = told_always _ _ (λ kept. c.new-left.ensures); reads = read_itself c.args.keeper.now }
