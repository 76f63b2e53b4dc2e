use Rattle.std.proofs.Common.{◌∙◌, sym}
use Rattle.mc_seats.proofs.HeldFacts.{open_acts}
use Rattle.mc_seats.proofs.calls.open_at.Goals as goal

pub returns : goal.returns
returns g c = record { acts = open_acts _ _ c.args.seat _ _ _ (sym c.runs.ensures ∙ c.if-runs.false) c.take_out.ensures.keeper c.open_keeper-held.ensures }
