use Rattle.std.proofs.Common.{sym}
use Rattle.std.proofs.lemmas.List.{append-nil}
use Rattle.mc_keep.proofs.Frames.{read_itself}
use Rattle.mc_plan.proofs.RefusalFacts.{told_always}
use Rattle.mc_group.proofs.planning.add_open.Goals as goal

pub loop-link-init : goal.loop-link-init
loop-link-init g c = record { left = told_always _ _ (λ kept. sym (append-nil c.args.left.now)); reads = read_itself c.args.keeper.now }
