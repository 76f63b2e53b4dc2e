use Rattle.std.specs.Prelude.{⊤}
use Rattle.mc_seats.proofs.RowFacts.{call_err, call_ok, down_acts, call_acts}
use Rattle.mc_seats.proofs.calls.call_at.Goals as goal

pub returns-in-Ok-clause-acts : goal.returns-in-Ok-clause-acts
returns-in-Ok-clause-acts g c = call_ok _ _ c.requires.call _ c.args.seat.now c.in-Up.replica _ c.in-Up.is c.in-Ok.ensures.keeps c.in-Ok.ensures.value c.in-Ok.ensures.leaves c.in-Ok.ensures.makes c.in-Ok.ensures.front c.in-Ok.ensures.call

pub returns-in-Err-clause-acts : goal.returns-in-Err-clause-acts
returns-in-Err-clause-acts g c = call_err _ _ c.requires.call c.in-Err.error c.args.seat.now c.in-Up.replica _ _ c.in-Up.is c.answer.ensures c.in-Err.ensures.keeps c.in-Err.ensures.may c.in-Err.ensures.alone c.in-Err.ensures.leaves c.in-Err.ensures.front c.in-Err.ensures.call

pub returns-in-Down-clause-acts : goal.returns-in-Down-clause-acts
returns-in-Down-clause-acts g c = down_acts _ (λ w. ⊤) _ (call_acts _ c.requires.call) c.args.seat.now _ c.in-Down.is
