use Rattle.mc_seats.proofs.ImportFacts.{import_down, import_err, import_ok}
use Rattle.mc_seats.proofs.files.import_at.Goals as goal

pub returns-in-Ok : goal.returns-in-Ok
returns-in-Ok g c = record { acts = λ r m. import_ok _ _ r m c.args.seat.now c.in-Up.replica _ c.in-Up.is c.in-Ok.said _ c.import_reply.ensures c.in-Ok.ensures.keeps c.in-Ok.ensures.rest c.in-Ok.ensures.refused c.in-Ok.ensures.says c.in-Ok.ensures.front c.in-Ok.ensures.call }

pub returns-in-Err : goal.returns-in-Err
returns-in-Err g c = record { acts = λ r m. import_err _ _ r m c.args.seat.now c.in-Up.replica _ c.in-Up.is c.in-Err.error _ c.answer.ensures c.in-Err.ensures.keeps c.in-Err.ensures.seen c.in-Err.ensures.rest c.in-Err.ensures.stays c.in-Err.ensures.front c.in-Err.ensures.call }

pub returns-in-Down : goal.returns-in-Down
returns-in-Down g c = record { acts = import_down _ _ c.args.seat.now _ c.in-Down.is }
