use Rattle.mc_core.specs.Jobs.{found_in}
use Rattle.mc_seats.specs.StepParts.{DeliversAt, up}
use Rattle.mc_seats.proofs.BeginFacts.{held_up, members}
use Rattle.mc_seats.proofs.jobs.deliver_at.Goals as goal

pub returns : goal.returns
returns g c = record { delivers = held_up (members g.K.Keeper g.K.Counted) (λ p x. DeliversAt (members g.K.Keeper g.K.Counted) c.args.cid (found_in c.args.found) c.deliver.result p (up (members g.K.Keeper g.K.Counted) c.args.seat.now.planted c.deliver.new.replica) x c.deliver.new.replica.keeper) c.args.seat.now c.in-Up.replica c.in-Up.is (c.deliver.ensures.delivers c.args.seat.now.planted) }
