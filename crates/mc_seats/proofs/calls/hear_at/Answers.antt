use Rattle.mc_seats.proofs.HearFacts.{hear_down, hear_err, hear_ok}
use Rattle.mc_seats.proofs.calls.hear_at.Goals as goal

pub returns-in-Ok : goal.returns-in-Ok
returns-in-Ok g c = record { acts = λ r m. hear_ok _ _ r m c.args.seat.now c.in-Up.replica _ c.in-Up.is c.in-Ok.heard c.in-Ok.ensures.keeps c.in-Ok.ensures.rest c.in-Ok.ensures.tells c.in-Ok.ensures.wants c.in-Ok.ensures.queued c.in-Ok.ensures.front c.in-Ok.ensures.call }

pub returns-in-Err : goal.returns-in-Err
returns-in-Err g c = record { acts = λ r m. hear_err _ _ r m c.args.seat.now c.in-Up.replica _ c.in-Up.is c.in-Err.refused _ c.answer.ensures c.in-Err.ensures.keeps c.in-Err.ensures.seen c.in-Err.ensures.rest c.in-Err.ensures.tells c.in-Err.ensures.wants c.in-Err.ensures.front c.in-Err.ensures.call }

pub returns-in-Down : goal.returns-in-Down
returns-in-Down g c = record { acts = hear_down _ _ c.args.seat.now _ c.in-Down.is }
