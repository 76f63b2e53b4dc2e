use Rattle.std.proofs.Common.{List, ap, subst, sym, ◌∙◌, ◌≡◌, []}
use Rattle.std.specs.Option.{option_copied}
use Rattle.mc_model.specs.Live.{has_tomb}
use Rattle.mc_live.specs.Rows.{found_rows, items_of, rows_in}
use Rattle.mc_live.specs.Stands.{KeyStands, entries}
use Rattle.mc_live.specs.declared.order.Row.{Row}
use Rattle.mc_live.proofs.Tops.{first_is_value, no_row}
use Rattle.mc_live.proofs.live.Live.value.Goals as goal

pub returns-in-Some : goal.returns-in-Some
returns-in-Some c = λ blocks stands.
    let key = c.args.key.now in
    let rows : rows_in c.args.self.now.rows key ≡ items_of c.in-Some.held.now = ap found_rows (sym c.get.ensures.value ∙ ap option_copied c.in-Some.is) in
    first_is_value blocks key c.args.self.now.calls.items (items_of c.in-Some.held.now) _ (subst (λ (z : List Row). KeyStands (has_tomb blocks key) c.args.self.now.calls.items z (entries blocks key)) rows (stands.keys key)) c.first_of.ensures

pub returns-in-None : goal.returns-in-None
returns-in-None c = λ blocks stands.
    let key = c.args.key.now in
    let rows : rows_in c.args.self.now.rows key ≡ [] = ap found_rows (sym c.get.ensures.value ∙ ap option_copied c.in-None.is) in
    sym (no_row blocks key c.args.self.now.calls.items (subst (λ (z : List Row). KeyStands (has_tomb blocks key) c.args.self.now.calls.items z (entries blocks key)) rows (stands.keys key)))
