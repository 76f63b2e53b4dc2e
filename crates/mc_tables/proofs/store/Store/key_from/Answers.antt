use Rattle.std.proofs.Common.{ℕ, List, subst}
use Rattle.mc_model.specs.Live.{value_row}
use Rattle.mc_model.specs.Kept.{processed}
use Rattle.mc_tables.specs.Fits.{kept_in}
use Rattle.mc_tables.specs.Places.{value_in, texts_in}
use Rattle.mc_tables.specs.Values.{IsCovered}
use Rattle.mc_tables.proofs.ValueFacts.{rows_in_order}
use Rattle.mc_tables.proofs.store.Store.key_from.Goals as goal

pub returns-clause-key : goal.returns-clause-key
returns-clause-key g c =
    let tables = c.args.self.now.tables in
    let texts = texts_in tables.elements.keys in
    let values = value_in tables.elements.keys in
    let ordered = c.settle.new.values.ordered in
    let rows = value_row (processed (kept_in tables)) in
    c.key_at.ensures rows
    (rows_in_order tables.elements.nodes.items texts values ordered rows c.args.self.now.fits.there
    (subst (λ (pending : List ℕ). IsCovered texts values ordered pending) c.in_ok-settle.ensures.settled (c.settle.ensures.covered c.args.self.now.fits.covered))
    c.args.self.now.fits.values)
