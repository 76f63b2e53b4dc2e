use Rattle.mc_seats.proofs.AskFacts.{asks_down, asks_err, asks_ok, casts}
use Rattle.mc_seats.proofs.calls.cast_at.Goals as goal

pub returns-in-Ok : goal.returns-in-Ok
returns-in-Ok g c = record { acts = asks_ok _ _ _ _ (casts _) _ c.args.seat.now c.in-Up.replica _ c.in-Up.is tt c.in-Ok.ensures.keeps c.in-Ok.ensures.rest c.in-Ok.ensures.same c.in-Ok.ensures.front c.in-Ok.ensures.call }

pub returns-in-Err : goal.returns-in-Err
returns-in-Err g c = record { acts = asks_err _ _ _ _ (casts _) c.in-Err.error _ c.args.seat.now c.in-Up.replica _ c.in-Up.is c.early_answer.ensures c.in-Err.ensures.seen c.in-Err.ensures.keeps c.in-Err.ensures.rest c.in-Err.ensures.same c.in-Err.ensures.front c.in-Err.ensures.call }

pub returns-in-Down : goal.returns-in-Down
returns-in-Down g c = record { acts = asks_down _ _ _ _ (casts _) c.args.seat.now _ c.in-Down.is }
