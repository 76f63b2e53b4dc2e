use Rattle.std.proofs.Common.{◌≡◌, List, map, false, [], ◌∙◌}
use Rattle.std.specs.Prelude.{fold}
use Rattle.mc_model.specs.declared.block.Block.{Block}
use Rattle.mc_keep.specs.Plan.{is_fault}
use Rattle.mc_raw.specs.RowTables.{element_table, tomb_table}
use Rattle.mc_audit.specs.Checks.{Marks}
use Rattle.mc_audit.specs.Found.{with_links}
use Rattle.mc_audit.specs.Rows.{head_row_of}
use Rattle.mc_audit.specs.Sound.{or_then, value_break, front_break}
use Rattle.mc_audit.proofs.Goes.{kept_by, raw_map}
use Rattle.mc_audit.proofs.Rounds.{value_first, value_then}
use Rattle.mc_audit.proofs.auditing.check_values.Goals as goal

pub returns-in-Some-clause-place : goal.returns-in-Some-clause-place
returns-in-Some-clause-place g c =
    value_first (g.T.RawTables.raw c.args.tables.now) c.args.elements.items c.args.tombs.now c.as_slice.result.now c.as_slice-2.result.now c.args.heads.now c.args.links.now.keys c.args.marked.now.keys c.in-Some.place
    (λ blocks e d. c.as_slice.ensures.value ∙ c.in_ok-values.ensures.values blocks e d)
    (λ blocks e d. c.as_slice-2.ensures.value ∙ c.in_ok-values.ensures.winners blocks e d)
    (rw c.in-Some.is at c.in_ok-place.ensures.place)

pub returns-clause-place : goal.returns-clause-place
returns-clause-place g c =
    let same = kept_by g.T.RawTables.goes g.T.RawTables.raw g.met.T.RawTables.goes_raw g.met.T.RawTables.goes_silent false c.args.tables.now c.check_two.new.tables c.in_ok-place.ensures.goes in
    raw_map (g.T.RawTables.raw c.args.tables.now) c.check_front.result
    (λ t p. (blocks : List Block) → c.args.heads.now ≡ map head_row_of blocks → c.args.links.now.keys ≡ fold with_links [] blocks → Marks c.args.marked.now.keys blocks → p ≡ front_break t blocks)
    (λ t p. (blocks : List Block) → c.args.elements.items ≡ element_table blocks → c.args.tombs.now ≡ tomb_table blocks → c.args.heads.now ≡ map head_row_of blocks → c.args.links.now.keys ≡ fold with_links [] blocks
    → Marks c.args.marked.now.keys blocks → p ≡ or_then (value_break t blocks) (front_break t blocks))
    (λ p here. value_then (g.T.RawTables.raw c.args.tables.now) c.args.elements.items c.args.tombs.now c.as_slice.result.now c.as_slice-2.result.now c.args.heads.now c.args.links.now.keys c.args.marked.now.keys p
    (λ blocks e d. c.as_slice.ensures.value ∙ c.in_ok-values.ensures.values blocks e d)
    (λ blocks e d. c.as_slice-2.ensures.value ∙ c.in_ok-values.ensures.winners blocks e d)
    (rw c.in-None.is at c.in_ok-place.ensures.place) here)
    (rw same at c.check_front.ensures.place)

pub returns-clause-goes : goal.returns-clause-goes
returns-clause-goes g c = g.met.T.RawTables.goes_on [] [] (is_fault c.check_front.result) c.args.tables.now c.check_two.new.tables c.check_front.new.tables c.in_ok-place.ensures.goes c.check_front.ensures.goes
