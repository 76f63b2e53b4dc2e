use Rattle.std.proofs.Common.{◌≡◌, ◌∙◌, true, ap, sym, subst, length, List, ℕ}
use Rattle.std.proofs.lemmas.Iterator.Adapters.{YieldsList-from_vec}
use Rattle.std.proofs.lemmas.Iterator.Consumers.{YieldsList-turn}
use Rattle.mc_keep.specs.declared.rows.ElementRow.{ElementRow}
use Rattle.mc_tables.specs.Chains.{rows_in}
use Rattle.mc_tables.specs.Values.{is_brought}
use Rattle.mc_tables.specs.Places.{last_in}
use Rattle.mc_tables.proofs.BroughtFacts.{all_at}
use Rattle.mc_tables.proofs.ChainFacts.{same_rows}
use Rattle.mc_tables.proofs.values.put_values.Goals as goal

pub put_value-requires-clause-brought : goal.put_value-requires-clause-brought
put_value-requires-clause-brought g c = λ cids.
    let old = c.args.elements.now in
    let now = c.loop-change.elements in
    let road = YieldsList-from_vec {s = c.into_iter-change-iterator.result} c.args.changes.items c.into_iter-change-iterator.ensures.into_iter_gives.0 (c.into_iter-change-iterator.ensures.into_iter_gives.1 ∙ c.args.changes.ok.0) in
    let turn = YieldsList-turn road c.loop-change.yielded c.loop-change.change-iterator c.loop-change.yielded_by c.next.result c.next.new.self c.in-Some.change c.in-Some.is c.next.ensures.steps in
    let same : rows_in cids now.nodes.items (last_in now.keys) ≡ rows_in cids old.nodes.items (last_in old.keys) =
    λ i key. same_rows cids old.nodes.items now.nodes.items (last_in old.keys) (last_in now.keys) (ap (λ nodes. nodes.items) c.loop-change.invariant.nodes) c.loop-change.invariant.lasts key i in
    subst (λ (rows : List ℕ → List ElementRow). is_brought rows c.in-Some.change ≡ true) (sym same)
    (all_at (is_brought (rows_in cids old.nodes.items (last_in old.keys))) c.args.changes.items (length c.loop-change.yielded) c.in-Some.change turn.0 turn.1 (c.requires.brought cids))
