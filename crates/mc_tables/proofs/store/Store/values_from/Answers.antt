use Rattle.std.proofs.Common.{◌≡◌, ℕ, List, Option, subst}
use Rattle.std.proofs.lemmas.Result.{IfOk-weaker}
use Rattle.mc_model.specs.Rank.{Ranked}
use Rattle.mc_model.specs.Live.{value_row}
use Rattle.mc_model.specs.Kept.{processed}
use Rattle.mc_keep.specs.Next.{AreNextOf}
use Rattle.mc_keep.specs.declared.rows.ValueRow.{ValueRow}
use Rattle.mc_tables.specs.Fits.{kept_in}
use Rattle.mc_tables.specs.Places.{value_in}
use Rattle.mc_tables.specs.Values.{row_in}
use Rattle.mc_tables.proofs.store.Store.values_from.Goals as goal

pub returns-clause-rows : goal.returns-clause-rows
returns-clause-rows g c =
    let tables = c.args.self.now.tables in
    let rows = row_in tables.elements.nodes.items (value_in tables.elements.keys) in
    let values = value_row (processed (kept_in tables)) in
    let same : rows ≡ values = λ i key. c.args.self.now.fits.values key i in
    IfOk-weaker c.rows_from.result (λ (found : List ValueRow). AreNextOf rows c.args.bound.now c.args.inclusive c.args.most found) (λ (found : List ValueRow). AreNextOf values c.args.bound.now c.args.inclusive c.args.most found)
    (λ found next. subst (λ (value : List ℕ → Option Ranked). AreNextOf value c.args.bound.now c.args.inclusive c.args.most found) same next) c.rows_from.ensures
