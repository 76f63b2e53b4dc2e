use Rattle.std.proofs.Common.{◌≡◌, List, map, false, [], ◌∙◌}
use Rattle.std.specs.Prelude.{fold}
use Rattle.mc_model.specs.declared.block.Block.{Block}
use Rattle.mc_keep.specs.Plan.{is_fault}
use Rattle.mc_raw.specs.RowTables.{element_table, tomb_table}
use Rattle.mc_audit.specs.Checks.{Marks}
use Rattle.mc_audit.specs.Found.{Gathers, with_links}
use Rattle.mc_audit.specs.Rows.{head_row_of}
use Rattle.mc_audit.specs.Sound.{or_then, value_break, front_break, later_break}
use Rattle.mc_audit.proofs.Goes.{kept_by, raw_map}
use Rattle.mc_audit.proofs.Rounds.{line_first, line_then}
use Rattle.mc_audit.proofs.auditing.check_rows.Goals as goal

pub returns-in-Some-clause-place : goal.returns-in-Some-clause-place
returns-in-Some-clause-place g c =
    line_first (g.T.RawTables.raw c.args.tables.now) c.args.found c.args.marked.now.keys c.as_slice.result.now c.as_slice-2.result.now c.in-Some.place
    (c.as_slice.ensures.value ∙ c.in_order-elements.ensures.is) (c.as_slice-2.ensures.value ∙ c.in_order-tombs.ensures.is)
    (rw c.in-Some.is at c.in_ok-place.ensures.place)

pub returns-clause-place : goal.returns-clause-place
returns-clause-place g c =
    let same = kept_by g.T.RawTables.goes g.T.RawTables.raw g.met.T.RawTables.goes_raw g.met.T.RawTables.goes_silent false c.args.tables.now c.check_two.new.tables c.in_ok-place.ensures.goes in
    raw_map (g.T.RawTables.raw c.args.tables.now) c.check_values.result
    (λ t p. (blocks : List Block) → c.in_order-elements.result.items ≡ element_table blocks → c.as_slice-in-None.result.now ≡ tomb_table blocks → c.as_slice-in-None-2.result.now ≡ map head_row_of blocks → c.args.found.links.keys ≡ fold with_links [] blocks
    → Marks c.args.marked.now.keys blocks → p ≡ or_then (value_break t blocks) (front_break t blocks))
    (λ t p. (blocks : List Block) → Gathers blocks c.args.found → Marks c.args.marked.now.keys blocks → p ≡ later_break t blocks)
    (λ p here. line_then (g.T.RawTables.raw c.args.tables.now) c.args.found c.args.marked.now.keys c.as_slice.result.now c.as_slice-2.result.now p
    (c.as_slice.ensures.value ∙ c.in_order-elements.ensures.is) (c.as_slice-2.ensures.value ∙ c.in_order-tombs.ensures.is)
    (rw c.in-None.is at c.in_ok-place.ensures.place)
    (rw (c.as_slice.ensures.value, c.as_slice-2.ensures.value) (rw (c.as_slice-in-None.ensures.value, c.as_slice-in-None-2.ensures.value) at here)))
    (rw same at c.check_values.ensures.place)

pub returns-clause-goes : goal.returns-clause-goes
returns-clause-goes g c = g.met.T.RawTables.goes_on [] [] (is_fault c.check_values.result) c.args.tables.now c.check_two.new.tables c.check_values.new.tables c.in_ok-place.ensures.goes c.check_values.ensures.goes
