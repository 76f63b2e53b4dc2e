use Rattle.std.proofs.Common.{◌≡◌, ◌∙◌, ap, List, ℕ, sym}
use Rattle.std.specs.HashMap.{keys}
use Rattle.std.specs.List.{list_all}
use Rattle.std.specs.Option.{option_and_then, option_map}
use Rattle.mc_keep.specs.declared.rows.ElementRow.{ElementRow}
use Rattle.mc_model.specs.Rank.{Ranked}
use Rattle.std.specs.Prelude.{Option}
use Rattle.mc_keep.specs.Changes.{values_after}
use Rattle.mc_tables.specs.Chains.{row_at, rows_in}
use Rattle.mc_tables.specs.Places.{last_in, texts_in, value_in}
use Rattle.mc_tables.specs.Values.{row_in}
use Rattle.mc_tables.specs.Winners.{is_met, named_in}
use Rattle.mc_tables.proofs.ChainFacts.{same_rows}
use Rattle.mc_tables.proofs.ValueFacts.{there_valued}
use Rattle.mc_tables.proofs.WinnerFacts.{covered_still}
use Rattle.mc_tables.proofs.tables.put_valued.Goals as goal

pub put_winners-requires : goal.put_winners-requires
put_winners-requires g c =
    let own = keys c.args.graph.now.blocks in
    let old = c.args.elements.now in
    let new = c.put_values.new.elements in
    let values : row_in new.nodes.items (value_in new.keys) ≡ (λ key. values_after key (row_in old.nodes.items (value_in old.keys) key) c.args.changes.items) =
    λ i key. c.put_values.ensures.rows key i in
    let rows : rows_in own new.nodes.items (last_in new.keys) ≡ rows_in own old.nodes.items (last_in old.keys) =
    λ i key. same_rows own old.nodes.items new.nodes.items (last_in old.keys) (last_in new.keys) (ap (λ nodes. nodes.items) c.put_values.ensures.nodes) c.put_values.ensures.lasts key i in
    record {
      met = ap (λ (v : List ℕ → Option Ranked). list_all (is_met v (rows_in own new.nodes.items (last_in new.keys))) c.args.winners.now) values
          ∙ ap (λ (r : List ℕ → List ElementRow). list_all (is_met (λ key. values_after key (row_in old.nodes.items (value_in old.keys) key) c.args.changes.items) r) c.args.winners.now) rows
          ∙ c.requires.met;
    }

pub returns-clause-named : goal.returns-clause-named
returns-clause-named g c = λ key.
    let own = keys c.args.graph.now.blocks in
    let mid = c.put_values.new.elements in
    let new = c.put_winners.new.elements in (
      named_in own mid.nodes.items (value_in mid.keys) key,
      λ none. ap (λ v. option_map (λ (row : ElementRow). row.cid) (option_and_then (row_at own mid.nodes.items key) v)) (c.put_values.ensures.others key none)
          ∙ ap (λ nodes. named_in own nodes.items (value_in c.args.elements.now.keys) key) (sym c.put_winners.ensures.nodes),
      c.put_winners.ensures.named key,
    )

pub returns-clause-covered : goal.returns-clause-covered
returns-clause-covered g c =
    let mid = c.put_values.new.elements in
    let new = c.put_winners.new.elements in
    covered_still (texts_in mid.keys) (texts_in new.keys) (value_in mid.keys) (value_in new.keys) c.put_values.new.values.ordered c.put_values.new.values.pending.items c.put_winners.ensures.texts c.put_winners.ensures.has c.put_values.ensures.covered

pub returns-clause-there : goal.returns-clause-there
returns-clause-there g c = λ there.
    let mid = c.put_values.new.elements in
    let new = c.put_winners.new.elements in
    there_valued mid.nodes.items new.nodes.items (value_in mid.keys) (value_in new.keys) c.put_winners.ensures.rows c.put_winners.ensures.has (c.put_values.ensures.there there)
