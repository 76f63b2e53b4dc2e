use Rattle.mc_seats.proofs.HeldFacts.{stop_acts}
use Rattle.mc_seats.proofs.calls.stop_at.Goals as goal

pub returns : goal.returns
returns g c = record { acts = stop_acts _ _ c.args.seat _ _ c.put_down-held.ensures.run c.put_down-held.ensures.keeper c.stop_answer-reply.ensures }
