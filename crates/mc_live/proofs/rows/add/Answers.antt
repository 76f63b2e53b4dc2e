use Rattle.std.proofs.Common.{◌≡◌, ◌∙◌, ap, sym, cond, Some, subst, List, [], ◌∷◌, ℕ}
use Rattle.std.specs.BinaryHeap.{KeepsHeap}
use Rattle.std.specs.HashMap.{get_by_text}
use Rattle.std.specs.List.Sorted.{IsPermutation}
use Rattle.std.specs.Str.{bytes_eq}
use Rattle.std.specs.String.{string_bytes}
use Rattle.std.proofs.lemmas.List.Sorted.{IsPermutation-refl}
use Rattle.std.proofs.lemmas.Map.Text.{hash_map_updates_text}
use Rattle.mc_live.specs.Order.{row_cmp}
use Rattle.mc_live.specs.Rows.{found_rows, rows_in}
use Rattle.mc_live.specs.declared.held.Held.{Held}
use Rattle.mc_live.specs.declared.held.Held.TheVariants.{One}
use Rattle.mc_live.specs.declared.order.Row.{Row}
use Rattle.mc_live.proofs.HeldFacts.{one_heap}
use Rattle.mc_live.proofs.RowFacts.{adds_row, keeps_heaps, keeps_rows}
use Rattle.mc_live.proofs.rows.add.Goals as goal

pub returns-clause-ok : goal.returns-clause-ok
returns-clause-ok c =
    let rows = c.args.rows.now in
    let key = c.args.key.now in
    let new = c.insert.new.self in
    let held : Held = One c.args.row in
    let updates : (other : List ℕ) → get_by_text new other ≡ cond (bytes_eq key other) (Some held) (get_by_text rows other) = λ other.
    hash_map_updates_text (string_bytes c.in_ok-text.text) rows new (Some held) c.in_ok-insert.ensures.updates other
    ∙ ap (λ z. cond (bytes_eq z other) (Some held) (get_by_text rows other)) c.in_ok-text.ensures.ok in
    let was : [] ≡ rows_in rows key = sym (ap found_rows c.requires.new) in
    adds_row rows new key held updates c.args.row (subst (λ (z : List Row). IsPermutation (c.args.row ∷ z) (c.args.row ∷ [])) was (IsPermutation-refl (c.args.row ∷ [])))

pub returns-clause-heaps : goal.returns-clause-heaps
returns-clause-heaps c =
    let rows = c.args.rows.now in
    let key = c.args.key.now in
    let new = c.insert.new.self in
    let held : Held = One c.args.row in
    let updates : (other : List ℕ) → get_by_text new other ≡ cond (bytes_eq key other) (Some held) (get_by_text rows other) = λ other.
    hash_map_updates_text (string_bytes c.in_ok-text.text) rows new (Some held) c.in_ok-insert.ensures.updates other
    ∙ ap (λ z. cond (bytes_eq z other) (Some held) (get_by_text rows other)) c.in_ok-text.ensures.ok in
    keeps_heaps rows new key held updates (λ was. one_heap c.args.row)

pub returns-clause-others : goal.returns-clause-others
returns-clause-others c =
    let rows = c.args.rows.now in
    let key = c.args.key.now in
    let new = c.insert.new.self in
    let held : Held = One c.args.row in
    let updates : (other : List ℕ) → get_by_text new other ≡ cond (bytes_eq key other) (Some held) (get_by_text rows other) = λ other.
    hash_map_updates_text (string_bytes c.in_ok-text.text) rows new (Some held) c.in_ok-insert.ensures.updates other
    ∙ ap (λ z. cond (bytes_eq z other) (Some held) (get_by_text rows other)) c.in_ok-text.ensures.ok in
    keeps_rows rows new key held updates
