use Rattle.mc_seats.specs.StepParts.{BacksAt, up}
use Rattle.mc_seats.proofs.BeginFacts.{held_up, members}
use Rattle.mc_seats.proofs.jobs.give_back_at.Goals as goal

pub returns : goal.returns
returns g c = record { backs = held_up (members g.K.Keeper g.K.Counted) (λ p x. BacksAt (members g.K.Keeper g.K.Counted) c.args.cid p (up (members g.K.Keeper g.K.Counted) c.args.seat.now.planted c.give_back.new.replica) x c.give_back.new.replica.keeper) c.args.seat.now c.in-Up.replica c.in-Up.is (c.give_back.ensures.backs c.args.seat.now.planted) }
