use Rattle.std.proofs.Common.{◌≡◌, ◌∙◌, ap, sym, cond, Some, subst, List, ◌∷◌, ℕ, rules}
use Rattle.std.specs.BinaryHeap.{KeepsHeap}
use Rattle.std.specs.HashMap.{get_by_text}
use Rattle.std.specs.List.Sorted.{IsPermutation}
use Rattle.std.specs.Option.{option_copied_mut}
use Rattle.std.specs.Str.{bytes_eq}
use Rattle.std.proofs.lemmas.Map.Text.{hash_map_updates_text}
use Rattle.mc_live.specs.Order.{row_cmp}
use Rattle.mc_live.specs.Rows.{found_rows, items_of, rows_in}
use Rattle.mc_live.specs.declared.order.Row.{Row}
use Rattle.mc_live.proofs.OnOk.{err_then, ok_then}
use Rattle.mc_live.proofs.RowFacts.{adds_row, keeps_heaps, keeps_rows, same_rows}
use Rattle.mc_live.proofs.rows.push_row.Goals as goal

pub returns-in-Some-clause-ok : goal.returns-in-Some-clause-ok
returns-in-Some-clause-ok c =
    let rows = c.args.rows.now in
    let key = c.args.key.now in
    let held = c.hold.new.held in
    let new = c.get_mut.follows.lender held in
    let updates : (other : List ℕ) → get_by_text new other ≡ cond (bytes_eq key other) (Some held) (get_by_text rows other) = hash_map_updates_text key rows new (Some held) ((c.get_mut.follows.holds held).3 (search rules)) in
    let was : items_of c.in-Some.held.now ≡ rows_in rows key = sym (ap found_rows (sym c.get_mut.ensures.value ∙ ap option_copied_mut c.in-Some.is)) in
    ok_then _ _ c.hold.result (λ moved. adds_row rows new key held updates c.args.row (subst (λ (z : List Row). IsPermutation (c.args.row ∷ z) (items_of held)) was moved)) c.hold.ensures.ok

pub returns-in-Some-clause-err : goal.returns-in-Some-clause-err
returns-in-Some-clause-err c =
    let rows = c.args.rows.now in
    let key = c.args.key.now in
    let held = c.hold.new.held in
    let new = c.get_mut.follows.lender held in
    let updates : (other : List ℕ) → get_by_text new other ≡ cond (bytes_eq key other) (Some held) (get_by_text rows other) = hash_map_updates_text key rows new (Some held) ((c.get_mut.follows.holds held).3 (search rules)) in
    let was : items_of c.in-Some.held.now ≡ rows_in rows key = sym (ap found_rows (sym c.get_mut.ensures.value ∙ ap option_copied_mut c.in-Some.is)) in
    err_then _ _ c.hold.result (λ same. same_rows rows new key held updates (same ∙ was)) c.hold.ensures.err

pub returns-in-Some-clause-heaps : goal.returns-in-Some-clause-heaps
returns-in-Some-clause-heaps c =
    let rows = c.args.rows.now in
    let key = c.args.key.now in
    let held = c.hold.new.held in
    let new = c.get_mut.follows.lender held in
    let updates : (other : List ℕ) → get_by_text new other ≡ cond (bytes_eq key other) (Some held) (get_by_text rows other) = hash_map_updates_text key rows new (Some held) ((c.get_mut.follows.holds held).3 (search rules)) in
    let was : items_of c.in-Some.held.now ≡ rows_in rows key = sym (ap found_rows (sym c.get_mut.ensures.value ∙ ap option_copied_mut c.in-Some.is)) in
    keeps_heaps rows new key held updates (subst (λ (z : List Row). KeepsHeap row_cmp z (items_of held)) was c.hold.ensures.heap)

pub returns-in-Some-clause-others : goal.returns-in-Some-clause-others
returns-in-Some-clause-others c =
    let rows = c.args.rows.now in
    let key = c.args.key.now in
    let held = c.hold.new.held in
    let new = c.get_mut.follows.lender held in
    let updates : (other : List ℕ) → get_by_text new other ≡ cond (bytes_eq key other) (Some held) (get_by_text rows other) = hash_map_updates_text key rows new (Some held) ((c.get_mut.follows.holds held).3 (search rules)) in
    keeps_rows rows new key held updates
