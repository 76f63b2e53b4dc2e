use Rattle.std.proofs.Common.{rules, ◌≡◌, ◌∙◌, ◌++◌, ap, List, ℕ, Option, refl, subst}
use Rattle.std.specs.Option.{option_and_then, option_map}
use Rattle.mc_model.specs.Kept.{cids_of}
use Rattle.mc_model.specs.Rank.{Ranked}
use Rattle.mc_keep.specs.Changes.{values_after}
use Rattle.std.specs.HashMap.{keys}
use Rattle.std.specs.List.{list_all}
use Rattle.std.specs.Prelude.{fold, slice_get}
use Rattle.mc_keep.specs.declared.rows.ElementRow.{ElementRow}
use Rattle.mc_tables.specs.Chains.{row_at, rows_in, with_element}
use Rattle.mc_graph.specs.Graph.{graph_of}
use Rattle.mc_tables.specs.Values.{is_brought, ranked_in, row_in, AreThere}
use Rattle.mc_tables.specs.Winners.{has_value_of, is_met, named_after}
use Rattle.mc_tables.proofs.StoredFacts.{keys_grown}
use Rattle.mc_tables.specs.Places.{last_in, texts_in, value_in}
use Rattle.mc_tables.proofs.BroughtFacts.{brought_any}
use Rattle.mc_tables.proofs.ValueFacts.{covered_kept, row_kept, there_same}
use Rattle.mc_tables.proofs.tables.apply.Goals as goal

pub put_valued-requires-clause-covered : goal.put_valued-requires-clause-covered
put_valued-requires-clause-covered g c =
    let old = c.args.tables.now.elements.keys in
    let new = c.put_elements.new.elements.keys in
    covered_kept (texts_in old) (texts_in new) c.put_elements.ensures.texts (value_in old) (value_in new) c.args.tables.now.values.ordered c.args.tables.now.values.pending.items
    c.put_elements.ensures.values c.requires.meet.covered

pub put_valued-requires-clause-brought : goal.put_valued-requires-clause-brought
put_valued-requires-clause-brought g c = λ cids.
    let own = keys c.put_marks.new.graph.blocks in
    let old = c.args.tables.now.elements in
    let new = c.put_elements.new.elements in
    let same : rows_in own new.nodes.items (last_in new.keys) ≡ (λ key. fold (with_element key) (rows_in own old.nodes.items (last_in old.keys) key) c.args.changes.elements) =
    λ i key. (c.put_elements.ensures.rows key ∙ ap (fold (with_element key) (rows_in own old.nodes.items (last_in old.keys) key)) c.into_vec-2.ensures) i in
    ap (list_all (is_brought (rows_in cids new.nodes.items (last_in new.keys)))) c.into_vec-4.ensures
    ∙ brought_any cids own new.nodes.items (last_in new.keys) c.args.changes.values
    ∙ ap (λ (rows : List ℕ → List ElementRow). list_all (is_brought rows) c.args.changes.values) same ∙ c.requires.meet.brought own

pub put_valued-requires-clause-met : goal.put_valued-requires-clause-met
put_valued-requires-clause-met g c =
    let own = keys c.put_marks.new.graph.blocks in
    let old = c.args.tables.now.elements in
    let new = c.put_elements.new.elements in
    let grown : own ≡ keys c.args.tables.now.graph.blocks ++ cids_of c.args.changes.store =
    keys_grown c.args.tables.now.graph.blocks c.put_marks.new.graph.blocks c.args.changes.store
    (c.put_marks.ensures.graph ∙ c.put_blocks.ensures.graph ∙ ap (λ z. graph_of c.args.tables.now.graph.blocks ++ z) c.into_vec.ensures) in
    let same : rows_in own new.nodes.items (last_in new.keys) ≡ (λ key. fold (with_element key) (rows_in own old.nodes.items (last_in old.keys) key) c.args.changes.elements) =
    λ i key. (c.put_elements.ensures.rows key ∙ ap (fold (with_element key) (rows_in own old.nodes.items (last_in old.keys) key)) c.into_vec-2.ensures) i in
    let values : (λ key. values_after key (row_in new.nodes.items (value_in new.keys) key) c.into_vec-4.result.items) ≡ (λ key. values_after key (row_in old.nodes.items (value_in old.keys) key) c.args.changes.values) =
    λ i key. (ap (values_after key (row_in new.nodes.items (value_in new.keys) key)) c.into_vec-4.ensures
    ∙ ap (λ v. values_after key (option_map ranked_in (option_and_then (slice_get new.nodes.items) v)) c.args.changes.values) (c.put_elements.ensures.values key)
    ∙ ap (λ z. values_after key z c.args.changes.values) (row_kept old.nodes.items new.nodes.items (value_in old.keys) c.put_elements.ensures.stays c.requires.meet.there key)) i in
    ap (list_all (is_met (λ key. values_after key (row_in new.nodes.items (value_in new.keys) key) c.into_vec-4.result.items) (rows_in own new.nodes.items (last_in new.keys)))) c.as_slice-5.ensures
    ∙ ap (λ (v : List ℕ → Option Ranked). list_all (is_met v (rows_in own new.nodes.items (last_in new.keys))) c.args.changes.winners) values
    ∙ ap (λ (r : List ℕ → List ElementRow). list_all (is_met (λ key. values_after key (row_in old.nodes.items (value_in old.keys) key) c.args.changes.values) r) c.args.changes.winners) same
    ∙ c.requires.meet.met own grown

pub returns-clause-applied : goal.returns-clause-applied
returns-clause-applied g c = record {
  graph = search rules;
  order = search rules;
  mark = search rules;
  gaps = search rules;
  heads = search rules;
  elements = search rules;
  blocks = search rules;
  tombs = search rules;
  layout = c.lay.ensures;
  named = λ key.
      let own = keys c.put_marks.new.graph.blocks in
      let n = c.put_valued.ensures.named key in (
        n.0,
        λ none. n.1 (ap (λ z. has_value_of z key) c.into_vec-4.ensures ∙ none)
            ∙ ap (λ v. option_map (λ (row : ElementRow). row.cid) (option_and_then (row_at own c.put_valued.new.elements.nodes.items key) v)) (c.put_elements.ensures.values key),
        n.2 ∙ ap (fold (named_after key) n.0) c.as_slice-5.ensures,
      );
  stays = search rules;
  values = search rules;
  covered = search rules;
  there = λ there. c.put_valued.ensures.there (there_same c.put_elements.new.elements.nodes.items c.put_elements.new.elements.nodes.items (value_in c.args.tables.now.elements.keys) (value_in c.put_elements.new.elements.keys) refl c.put_elements.ensures.values
      (subst (λ nodes. AreThere nodes.items (value_in c.args.tables.now.elements.keys)) c.put_valued.ensures.nodes there));
}
