-- The rows of a merge fit.
use Rattle.std.proofs.Common.{◌≡◌, ℕ, Bool, true, false, cond, not, List, [], ◌∷◌, ◌++◌, map, ◌||◌, ◌&&◌, sym, refl, ap, ◌∙◌, subst}
use Rattle.std.specs.Prelude.{IfSome, filter, Option, Some, None}
use Rattle.std.specs.List.{list_any, list_all}
use Rattle.std.specs.Option.{option_map}
use Rattle.std.specs.List.Sorted.{IsStrictlySortedBy}
use Rattle.std.specs.Str.{bytes_eq}
use Rattle.std.proofs.lemmas.List.Folds.{list_any-append}
use Rattle.std.proofs.lemmas.Map.Views.{any-filter_same}
use Rattle.std.proofs.lemmas.Bool.{or_parts, and_parts, and_from, or_left, or_right}
use Rattle.std.proofs.Math.Bool.{or_comm}
use lib.Pointwise.{bytes_decides}
use denote.Ref.{Bor}
use Rattle.mc_model.specs.declared.block.Block.{Block}
use Rattle.mc_model.specs.SameMembers.{SameMembers}
use Rattle.mc_model.specs.Ascending.{is_once}
use Rattle.mc_model.specs.Front.{same_cid}
use Rattle.mc_model.specs.Kept.{Kept, processed}
use Rattle.mc_model.specs.Live.{has_tomb, is_tomb, value_row}
use Rattle.mc_model.specs.Rank.{Ranked}
use Rattle.mc_model.specs.Who.{Placed, top_row, who}
use Rattle.mc_model.proofs.WhoFacts.{ranked_in_place, block_in_place, value_is_top}
use Rattle.mc_model.proofs.Live.{has_tomb-append}
use Rattle.mc_model.proofs.Members.{list_any-filter, list_any-map}
use Rattle.mc_keep.specs.declared.rows.ElementRow.{ElementRow}
use Rattle.mc_keep.specs.declared.rows.TombRow.{TombRow}
use Rattle.mc_keep.specs.declared.changes.ValueChange.{ValueChange}
use Rattle.mc_keep.specs.declared.changes.Changes.{Changes}
use Rattle.mc_keep.specs.Changes.{is_tomb_row, has_tomb_row, has_winner_of, ranked_value, value_after, values_after, winner_after, winners_after}
use Rattle.mc_keep.specs.declared.changes.WinnerChange.{WinnerChange}
use Rattle.mc_base.specs.declared.cid.Cid.{Cid}
use Rattle.mc_keep.specs.New.{AreNew}
use Rattle.mc_keep.specs.Tables.{RowsFit, element_rows, same_element, same_tomb}
use Rattle.mc_rows.specs.declared.elements.NewElement.{NewElement}
use Rattle.mc_rows.specs.declared.tombs.NewTomb.{NewTomb}
use Rattle.mc_rows.specs.Rows.{rows_of, tombs_of, tomb_row, tomb_rows, new_element_cmp, new_tomb_cmp}
use Rattle.mc_rows.specs.Hiding.{is_unknown, hides, has_element_of, has_tomb_of, new_row}
use Rattle.mc_rows.specs.declared.best.Top.{Top}
use Rattle.mc_rows.specs.declared.best.TopChange.{TopChange}
use Rattle.mc_rows.specs.declared.parts.TopChanges.{TopChanges}
use Rattle.mc_rows.specs.Values.{has_key, placed_top, top_after, tops_after, value_part, winner_part, ValuesFit, ChangesFit}
use Rattle.mc_rows.proofs.Lives.{new_row_is, new_row_untouched}
use Rattle.mc_rows.proofs.OnceRows.{tombs_stand_once, elements_stand_once}
use Rattle.mc_rows.proofs.Step.{unspoken}

tomb_rows_have : (blocks : List Block) (key id : List ℕ) → has_tomb_row (tomb_rows blocks) key id ≡ has_tomb blocks key id
tomb_rows_have [] key id = refl
tomb_rows_have (b ∷ blocks) key id =
    list_any-append (is_tomb_row key id) (map tomb_row b.delta.tombstones) (tomb_rows blocks)
    ∙ ap (λ front. front || has_tomb_row (tomb_rows blocks) key id) (list_any-map (is_tomb_row key id) tomb_row b.delta.tombstones)
    ∙ ap (λ rest. list_any (is_tomb key id) b.delta.tombstones || rest) (tomb_rows_have blocks key id)

-- the new tombstones have what the blocks have and the keeper doesn't
new_tombs_have : (blocks more : List Block) (rows : List TombRow) → SameMembers rows (filter (is_unknown blocks) (tomb_rows more)) → (key id : List ℕ)
    → has_tomb_row rows key id ≡ (not (has_tomb blocks key id) && has_tomb more key id)
new_tombs_have blocks more rows same key id =
    same.same (is_tomb_row key id)
    ∙ any-filter_same (is_tomb_row key id) (is_unknown blocks) (not (has_tomb blocks key id)) here (tomb_rows more)
    ∙ ap (λ b. not (has_tomb blocks key id) && b) (tomb_rows_have more key id)
  where
    here : (row : TombRow) → is_tomb_row key id row ≡ true → is_unknown blocks row ≡ not (has_tomb blocks key id)
    here row e =
        let parts = and_parts (bytes_eq row.key key) (bytes_eq row.id id) e in
        ap (λ (z : List ℕ). not (has_tomb blocks z row.id)) ((bytes_decides row.key key).0 parts.0) ∙ ap (λ (z : List ℕ). not (has_tomb blocks key z)) ((bytes_decides row.id id).0 parts.1)

tombs_join : (blocks more : List Block) (rows : List TombRow) → SameMembers rows (filter (is_unknown blocks) (tomb_rows more)) → (key id : List ℕ)
    → has_tomb (blocks ++ more) key id ≡ (has_tomb blocks key id || has_tomb_row rows key id)
tombs_join blocks more rows same key id =
    has_tomb-append blocks more key id ∙ only_new (has_tomb blocks key id) (has_tomb more key id) ∙ ap (λ b. has_tomb blocks key id || b) (sym (new_tombs_have blocks more rows same key id))
  where
    only_new : (a b : Bool) → (a || b) ≡ (a || (not a && b))
    only_new true b = refl
    only_new false b = refl

tombs_unknown : (blocks more : List Block) (rows : List TombRow) → SameMembers rows (filter (is_unknown blocks) (tomb_rows more))
    → list_any (λ (row : TombRow). has_tomb blocks row.key row.id) rows ≡ false
tombs_unknown blocks more rows same =
    same.same (λ (row : TombRow). has_tomb blocks row.key row.id)
    ∙ list_any-filter (λ (row : TombRow). has_tomb blocks row.key row.id) (is_unknown blocks) (tomb_rows more)
    ∙ neither (tomb_rows more)
  where
    both_ways : (b : Bool) → (not b && b) ≡ false
    both_ways true = refl
    both_ways false = refl

    neither : (all : List TombRow) → list_any (λ (row : TombRow). is_unknown blocks row && has_tomb blocks row.key row.id) all ≡ false
    neither [] = refl
    neither (r ∷ all) = ap (λ b. b || list_any (λ (row : TombRow). is_unknown blocks row && has_tomb blocks row.key row.id) all) (both_ways (has_tomb blocks r.key r.id)) ∙ neither all

-- the two rows of changes say what the changes do

abbrev same_value_key : ValueChange → ValueChange → Bool
same_value_key a b = bytes_eq a.key b.key

abbrev same_winner_key : WinnerChange → WinnerChange → Bool
same_winner_key a b = bytes_eq a.key b.key

one_value : (key : List ℕ) (row : Option Placed) (change : TopChange)
    → option_map ranked_in_place (top_after key row change) ≡ value_after key (option_map ranked_in_place row) (value_part change)
one_value key row change = by (bytes_eq change.key key) change.top
  where
    by : (b : Bool) (top : Option Top) → option_map ranked_in_place (cond b (placed_top top) row) ≡ cond b (ranked_value (option_map (λ (t : Top). t.value) top)) (option_map ranked_in_place row)
    by true None = refl
    by true (Some top) = refl
    by false top = refl

tops_values : (key : List ℕ) (row : Option Placed) (changes : List TopChange)
    → option_map ranked_in_place (tops_after key row changes) ≡ values_after key (option_map ranked_in_place row) (map value_part changes)
tops_values key row [] = refl
tops_values key row (c ∷ changes) =
    tops_values key (top_after key row c) changes ∙ ap (λ (r : Option Ranked). values_after key r (map value_part changes)) (one_value key row c)

one_winner : (key : List ℕ) (row : Option Placed) (change : TopChange)
    → option_map block_in_place (top_after key row change) ≡ winner_after key (option_map block_in_place row) (winner_part change)
one_winner key row change = by (bytes_eq change.key key) change.top
  where
    by : (b : Bool) (top : Option Top) → option_map block_in_place (cond b (placed_top top) row) ≡ cond b (option_map (λ (t : Top). t.cid) top) (option_map block_in_place row)
    by true None = refl
    by true (Some top) = refl
    by false top = refl

tops_winners : (key : List ℕ) (row : Option Placed) (changes : List TopChange)
    → option_map block_in_place (tops_after key row changes) ≡ winners_after key (option_map block_in_place row) (map winner_part changes)
tops_winners key row [] = refl
tops_winners key row (c ∷ changes) =
    tops_winners key (top_after key row c) changes ∙ ap (λ (r : Option Cid). winners_after key r (map winner_part changes)) (one_winner key row c)

once_parts : (changes : List TopChange) → is_once same_value_key (map value_part changes) ≡ is_once (λ (a b : TopChange). bytes_eq a.key b.key) changes
once_parts [] = refl
once_parts (c ∷ changes) =
    ap (λ b. not b && is_once same_value_key (map value_part changes)) (list_any-map (same_value_key (value_part c)) value_part changes)
    ∙ ap (λ b. not (list_any (λ (d : TopChange). bytes_eq c.key d.key) changes) && b) (once_parts changes)

once_winners : (changes : List TopChange) → is_once same_winner_key (map winner_part changes) ≡ is_once (λ (a b : TopChange). bytes_eq a.key b.key) changes
once_winners [] = refl
once_winners (c ∷ changes) =
    ap (λ b. not b && is_once same_winner_key (map winner_part changes)) (list_any-map (same_winner_key (winner_part c)) winner_part changes)
    ∙ ap (λ b. not (list_any (λ (d : TopChange). bytes_eq c.key d.key) changes) && b) (once_winners changes)

parts_with : (winners : List WinnerChange) (changes : List TopChange) → ((key : List ℕ) → has_winner_of (map winner_part changes) key ≡ true → has_winner_of winners key ≡ true)
    → list_all (λ (change : ValueChange). has_winner_of winners change.key) (map value_part changes) ≡ true
parts_with winners [] more = refl
parts_with winners (c ∷ changes) more =
    and_from (has_winner_of winners c.key) (list_all (λ (change : ValueChange). has_winner_of winners change.key) (map value_part changes))
    (more c.key (or_left (bytes_eq c.key c.key) (has_winner_of (map winner_part changes) c.key) ((bytes_decides c.key c.key).1 refl)))
    (parts_with winners changes (λ key e. more key (or_right (bytes_eq c.key key) (has_winner_of (map winner_part changes) key) e)))

-- each key has its row over all blocks
each_key : (blocks more : List Block) (elements : List ElementRow) (tombs : List TombRow) (keys : List (Bor (List ℕ))) (tops : List TopChange)
    → SameMembers elements (element_rows more) → SameMembers tombs (filter (is_unknown blocks) (tomb_rows more))
    → ((key : List ℕ) → has_key keys key ≡ (has_element_of elements key || has_tomb_of tombs key))
    → ValuesFit blocks elements tombs keys tops
    → (key : List ℕ) → top_row (blocks ++ more) key ≡ tops_after key (top_row blocks key) tops
each_key blocks more elements tombs keys tops same same' spoken fit key =
    sym (new_row_is blocks more elements tombs key same alike) ∙ by_key (has_key keys key) refl
  where
    alike : (id : List ℕ) → hides blocks tombs key id ≡ has_tomb (blocks ++ more) key id
    alike id = or_comm (has_tomb_row tombs key id) (has_tomb blocks key id) ∙ sym (tombs_join blocks more tombs same' key id)

    by_key : (b : Bool) → has_key keys key ≡ b → new_row blocks elements tombs key ≡ tops_after key (top_row blocks key) tops
    by_key true e = sym (fit.rows key e)
    by_key false e =
        let parts = or_parts (has_element_of elements key) (has_tomb_of tombs key) (sym (spoken key) ∙ e) in
        new_row_untouched blocks elements tombs key parts.0 parts.1 ∙ sym (unspoken key (top_row blocks key) tops (fit.rest key e))

rows_fit : (blocks more : List Block) (elements : List NewElement) (tombs : List NewTomb) (keys : List (Bor (List ℕ))) (tops : List TopChange) (changes : Changes)
    → is_once same_cid (map (λ (block : Block). block.cid) more) ≡ true
    → IsStrictlySortedBy new_element_cmp elements → SameMembers (rows_of elements) (element_rows more)
    → IsStrictlySortedBy new_tomb_cmp tombs → SameMembers (tombs_of tombs) (filter (is_unknown blocks) (tomb_rows more))
    → ((key : List ℕ) → has_key keys key ≡ (has_element_of (rows_of elements) key || has_tomb_of (tombs_of tombs) key))
    → ValuesFit blocks (rows_of elements) (tombs_of tombs) keys tops
    → changes.elements ≡ rows_of elements → changes.tombs ≡ tombs_of tombs → changes.values ≡ map value_part tops → changes.winners ≡ map winner_part tops
    → RowsFit blocks more changes
rows_fit blocks more elements tombs keys tops changes once sorted same sorted' same' spoken fit e t v w = record {
  elements = subst (λ (z : List ElementRow). SameMembers z (element_rows more)) (sym e) same;
  elements_once = ap (is_once same_element) e ∙ elements_stand_once more elements once sorted same;
  tombs = λ key id. tombs_join blocks more (tombs_of tombs) same' key id ∙ ap (λ (z : List TombRow). has_tomb blocks key id || has_tomb_row z key id) (sym t);
  tombs_new = ap (list_any (λ (row : TombRow). has_tomb blocks row.key row.id)) t ∙ tombs_unknown blocks more (tombs_of tombs) same';
  tombs_once = ap (is_once same_tomb) t ∙ tombs_stand_once tombs sorted';
  values = λ key.
      value_is_top (blocks ++ more) key
      ∙ ap (option_map ranked_in_place) (each key)
      ∙ tops_values key (top_row blocks key) tops
      ∙ ap (λ (row : Option Ranked). values_after key row (map value_part tops)) (sym (value_is_top blocks key))
      ∙ ap (values_after key (value_row blocks key)) (sym v);
  values_once = ap (is_once same_value_key) v ∙ once_parts tops ∙ fit.once;
  winners = λ key.
      ap (option_map block_in_place) (each key)
      ∙ tops_winners key (top_row blocks key) tops
      ∙ ap (winners_after key (who blocks key)) (sym w);
  winners_once = ap (is_once same_winner_key) w ∙ once_winners tops ∙ fit.once;
  winners_with =
      ap (list_all (λ (change : ValueChange). has_winner_of changes.winners change.key)) v
      ∙ ap (λ (ws : List WinnerChange). list_all (λ (change : ValueChange). has_winner_of ws change.key) (map value_part tops)) w
      ∙ parts_with (map winner_part tops) tops (λ key e. e);
}
  where
    each : (key : List ℕ) → top_row (blocks ++ more) key ≡ tops_after key (top_row blocks key) tops
    each = each_key blocks more (rows_of elements) (tombs_of tombs) keys tops same same' spoken fit

pub rows_fit_told : (told : Option Kept) (more : List Block) (elements : List NewElement) (tombs : List NewTomb) (keys : List (Bor (List ℕ))) (tops : TopChanges) (changes : Changes)
    → IsStrictlySortedBy new_element_cmp elements → SameMembers (rows_of elements) (element_rows more)
    → IsStrictlySortedBy new_tomb_cmp tombs → IfSome told (λ kept. SameMembers (tombs_of tombs) (filter (is_unknown (processed kept)) (tomb_rows more)))
    → ((key : List ℕ) → has_key keys key ≡ (has_element_of (rows_of elements) key || has_tomb_of (tombs_of tombs) key))
    → IfSome told (λ kept. ChangesFit (processed kept) (rows_of elements) (tombs_of tombs) keys tops)
    → changes.elements ≡ rows_of elements → changes.tombs ≡ tombs_of tombs → changes.values ≡ tops.values → changes.winners ≡ tops.winners
    → IfSome told (λ kept. AreNew kept more → RowsFit (processed kept) more changes)
rows_fit_told None more elements tombs keys tops changes sorted same sorted' same' spoken fit e t v w = tt
rows_fit_told (Some kept) more elements tombs keys tops changes sorted same sorted' same' spoken fit e t v w =
    λ new. rows_fit (processed kept) more elements tombs keys fit.changes changes new.0 sorted same sorted' same' spoken fit.fit e t (v ∙ fit.values) (w ∙ fit.winners)
