use Rattle.std.proofs.Common.{◌∙◌, ap, sym, Some, subst, List, rules, ◌≡◌, ℕ, cond}
use Rattle.std.specs.Option.{option_copied_mut}
use Rattle.std.specs.HashMap.{get_by_text}
use Rattle.std.specs.Str.{bytes_eq}
use Rattle.std.proofs.lemmas.Map.Text.{hash_map_updates_text}
use Rattle.mc_live.specs.Prune.{Prunes}
use Rattle.mc_live.specs.Rows.{found_rows, items_of, rows_in}
use Rattle.mc_tombs.specs.Tombs.{has_tomb_in}
use Rattle.mc_live.specs.declared.order.Row.{Row}
use Rattle.mc_live.proofs.PruneFacts.{key_pruned}
use Rattle.mc_live.proofs.prune.prune_key.Goals as goal

pub returns : goal.returns
returns c =
    let rows = c.args.rows.now in
    let key = c.args.key.now in
    let held = c.prune.new.held in
    let new = c.get_mut.follows.lender held in
    let tombs = has_tomb_in c.args.tombs.now.keys.keys c.args.tombs.now.ids.keys c.args.tombs.now.pairs.keys in
    let updates : (other : List ℕ) → get_by_text new other ≡ cond (bytes_eq key other) (Some held) (get_by_text rows other) = hash_map_updates_text key rows new (Some held) ((c.get_mut.follows.holds held).3 (search rules)) in
    let was : rows_in rows key ≡ items_of c.in-Some.held.now = ap found_rows (sym c.get_mut.ensures.value ∙ ap option_copied_mut c.in-Some.is) in
    key_pruned rows new key held updates tombs c.args.calls.now (subst (λ (z : List Row). Prunes (tombs key) c.args.calls.now z (items_of held)) (sym was) c.prune.ensures)
