use Rattle.std.proofs.Common.{◌∙◌, sym, ap}
use Rattle.std.specs.Ordering.{is_eq}
use Rattle.mc_rows.proofs.Ties.{tied_places}
use Rattle.mc_rows.proofs.best.is_same.Goals as goal

pub returns : goal.returns
returns c = λ e. tied_places _ _ (ap is_eq (sym c.compare.ensures) ∙ sym c.is_eq.ensures ∙ e)
