use Rattle.mc_seats.specs.StepParts.{BeginsAt, up}
use Rattle.mc_seats.proofs.BeginFacts.{begins_down, down_is, held_up, members}
use Rattle.mc_seats.proofs.jobs.begin_at.Goals as goal

pub returns-in-Up : goal.returns-in-Up
returns-in-Up g c = record { begins = held_up (members g.K.Keeper g.K.Counted) (λ p x. BeginsAt (members g.K.Keeper g.K.Counted) c.begin.result p (up (members g.K.Keeper g.K.Counted) c.args.seat.now.planted c.begin.new.replica) x c.begin.new.replica.keeper) c.args.seat.now c.in-Up.replica c.in-Up.is (c.begin.ensures.begins c.args.seat.now.planted) }

pub returns-in-Down : goal.returns-in-Down
returns-in-Down g c = record { begins = begins_down (members g.K.Keeper g.K.Counted) _ _ (down_is (members g.K.Keeper g.K.Counted) c.args.seat.now _ c.in-Down.is) }
