use Rattle.std.proofs.Common.{◌∙◌, ap, refl, length}
use Rattle.mc_model.specs.Kept.{processed}
use Rattle.mc_tables.specs.Fits.{kept_in}
use Rattle.mc_tables.proofs.store.Store.summary.Goals as goal

pub returns-clause-summary : goal.returns-clause-summary
returns-clause-summary g c = (
  c.processed_count.ensures.count,
  c.stored_count.ensures.count,
  ap length c.as_slice.ensures.keys ∙ c.gaps_are_counted.ensures c.args.self.now.tables.gaps.keys (processed (kept_in c.args.self.now.tables)) c.as_slice.ensures.unique c.args.self.now.fits.gaps,
  refl,
)
