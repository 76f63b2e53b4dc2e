use Rattle.std.proofs.Common.{◌∙◌, ap, sym, cond}
use Rattle.std.specs.BTreeSet.{contains_text}
use Rattle.std.specs.Prelude.{true}
use Rattle.std.specs.Str.{bytes_eq}
use Rattle.std.specs.String.{string_bytes}
use Rattle.std.proofs.lemmas.Cmp.{nat_list_eq_equiv}
use Rattle.std.proofs.lemmas.Map.Text.{btree_set_updates_text}
use Rattle.mc_tables.proofs.order.put_in_order.Goals as goal

pub returns-in_default-clause-ok : goal.returns-in_default-clause-ok
returns-in_default-clause-ok g c = λ other. sym (ap (λ b. cond b true (contains_text c.args.ordered.now other)) (c.in_default.ensures other))

pub returns-clause-ok : goal.returns-clause-ok
returns-clause-ok g c = λ other.
    btree_set_updates_text (string_bytes c.in_ok-copy.copy) c.args.ordered.now c.insert.new.self true c.in_ok-insert.ensures.updates other
    ∙ ap (λ b. cond b true (contains_text c.args.ordered.now other))
    (ap (λ z. bytes_eq z other) (c.in_ok-copy.ensures.ok ∙ c.as_str.ensures.value) ∙ nat_list_eq_equiv.symm (string_bytes c.in-Some.key.now) other ∙ sym (c.in-Some.ensures other))
