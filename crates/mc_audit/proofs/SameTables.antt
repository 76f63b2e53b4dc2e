-- The tables depend on which blocks are processed, and not on their order.
use Rattle.std.proofs.Common.{◌≡◌, ℕ, cond, not, List, [], ◌∷◌, ◌++◌, map, Option, sym, refl, ap, ◌∙◌, subst}
use Rattle.std.specs.Prelude.{filter, is_some}
use Rattle.std.specs.Option.{option_map}
use Rattle.std.proofs.lemmas.List.Elements.{filter_agree}
use Rattle.mc_base.specs.declared.cid.Cid.{Cid}
use Rattle.mc_model.specs.declared.block.Block.{Block}
use Rattle.mc_model.specs.Answers.{valued_keys}
use Rattle.mc_model.specs.Front.{is_linked, is_processed, links}
use Rattle.mc_model.specs.Live.{is_hidden, value_row, has_tomb}
use Rattle.mc_model.specs.Rank.{Ranked}
use Rattle.mc_model.specs.SameMembers.{SameMembers}
use Rattle.mc_model.proofs.Members.{same_flat_map, same_filter, list_any-map, any_agree}
use Rattle.mc_model.proofs.Same.{same_linked, same_processed, same_hidden, same_value}
use Rattle.mc_model.proofs.Valued.{valued_sorted, valued_exact}
use Rattle.mc_raw.specs.Raw.{Tables}
use Rattle.mc_raw.specs.RowTables.{element_line, tomb_line, head_line, link_line, value_line, winner_line, element_table, tomb_table, value_table, winner_table, head_table, link_table}
use Rattle.mc_model.specs.Who.{Placed, placed_in, placed_among, topmost, who}
use Rattle.mc_audit.specs.Sound.{later_break, line_break, value_break, front_break, has_gap, or_then, in_table, rows_break, mark_break}
use Rattle.mc_audit.proofs.Sorts.{same_order}
use Rattle.mc_model.proofs.Topmost.{topmost_same}
use Rattle.mc_audit.proofs.ValueTables.{keys_fixed}

same_map : {A B : Type 0} (f : A → B) (xs ys : List A) → SameMembers xs ys → SameMembers (map f xs) (map f ys)
same_map f xs ys same = record { same = λ test. list_any-map test f xs ∙ same.same (λ x. test (f x)) ∙ sym (list_any-map test f ys) }

agree : {A B : Type 0} (f g : A → B) → ((x : A) → f x ≡ g x) → (xs : List A) → map f xs ≡ map g xs
agree f g h [] = refl
agree f g h (x ∷ xs) = ap (λ first. first ∷ map f xs) (h x) ∙ ap (λ rest. g x ∷ rest) (agree f g h xs)

placed_alike : (xs ys blocks : List Block) (key : List ℕ) → ((id : List ℕ) → has_tomb xs key id ≡ has_tomb ys key id) → placed_among xs key blocks ≡ placed_among ys key blocks
placed_alike xs ys [] key same = refl
placed_alike xs ys (b ∷ blocks) key same =
    ap (λ t. cond t [] (placed_in key b) ++ placed_among xs key blocks) (same _)
    ∙ ap (λ rest. cond (is_hidden ys key b) [] (placed_in key b) ++ rest) (placed_alike xs ys blocks key same)

module _ (xs ys : List Block) (same : SameMembers xs ys) where
  keys_same : valued_keys xs ≡ valued_keys ys
  keys_same = keys_fixed (valued_keys xs) (valued_keys ys) (valued_sorted xs) (valued_sorted ys) (λ key.
      valued_exact xs key ∙ ap (λ (row : Option Ranked). is_some (option_map (λ (best : Ranked). best.1) row)) (same_value xs ys same key) ∙ sym (valued_exact ys key))

  who_same : (key : List ℕ) → who xs key ≡ who ys key
  who_same key =
      ap (λ (top : Option Placed). option_map (λ (p : Placed). p.1) top)
      (ap topmost (placed_alike xs ys xs key (same_hidden xs ys same key))
      ∙ topmost_same (placed_among ys key xs) (placed_among ys key ys) (same_flat_map (λ (block : Block). cond (is_hidden ys key block) [] (placed_in key block)) xs ys same))

  elements_same : element_table xs ≡ element_table ys
  elements_same = same_order _ _ (same_flat_map (λ (block : Block). map (element_line block) block.delta.elements) xs ys same)

  tombs_same : tomb_table xs ≡ tomb_table ys
  tombs_same = same_order _ _ (same_flat_map (λ (block : Block). map tomb_line block.delta.tombstones) xs ys same)

  values_same : value_table xs ≡ value_table ys
  values_same =
      agree (λ key. value_line key (value_row xs key)) (λ key. value_line key (value_row ys key)) (λ key. ap (value_line key) (same_value xs ys same key)) (valued_keys xs)
      ∙ ap (map (λ key. value_line key (value_row ys key))) keys_same

  winners_same : winner_table xs ≡ winner_table ys
  winners_same =
      agree (λ key. winner_line key (who xs key)) (λ key. winner_line key (who ys key)) (λ key. ap (winner_line key) (who_same key)) (valued_keys xs)
      ∙ ap (map (λ key. winner_line key (who ys key))) keys_same

  heads_same : head_table xs ≡ head_table ys
  heads_same = same_order _ _ (same_map head_line _ _
      (subst (λ (first : List Block). SameMembers first (filter (λ (block : Block). not (is_linked ys block.cid)) ys))
      (sym (filter_agree (λ (block : Block). not (is_linked xs block.cid)) (λ (block : Block). not (is_linked ys block.cid)) (λ block. ap not (same_linked xs ys same block.cid)) xs))
      (same_filter (λ (block : Block). not (is_linked ys block.cid)) xs ys same)))

  links_members : SameMembers (links xs) (links ys)
  links_members = same_flat_map (λ (block : Block). block.links) xs ys same

  links_same : link_table xs ≡ link_table ys
  links_same = same_order _ _ (same_map link_line _ _ links_members)

  gap_same : has_gap xs ≡ has_gap ys
  gap_same =
      any_agree (λ (cid : Cid). not (is_processed xs cid)) (λ (cid : Cid). not (is_processed ys cid)) (λ cid. ap not (same_processed xs ys same cid)) (links xs)
      ∙ links_members.same (λ (cid : Cid). not (is_processed ys cid))

  pub later_same : (tables : Tables) → later_break tables xs ≡ later_break tables ys
  later_same tables =
      ap (λ rows. or_then (or_then (in_table 3 (rows_break 0 (tables 3) rows)) (in_table 4 (rows_break 0 (tables 4) (tomb_table xs)))) (or_then (value_break tables xs) (front_break tables xs))) elements_same
      ∙ ap (λ rows. or_then (or_then (in_table 3 (rows_break 0 (tables 3) (element_table ys))) (in_table 4 (rows_break 0 (tables 4) rows))) (or_then (value_break tables xs) (front_break tables xs))) tombs_same
      ∙ ap (λ rows. or_then (line_break tables ys) (or_then (or_then (in_table 5 (rows_break 0 (tables 5) rows)) (in_table 6 (rows_break 0 (tables 6) (winner_table xs)))) (front_break tables xs))) values_same
      ∙ ap (λ rows. or_then (line_break tables ys) (or_then (or_then (in_table 5 (rows_break 0 (tables 5) (value_table ys))) (in_table 6 (rows_break 0 (tables 6) rows))) (front_break tables xs))) winners_same
      ∙ ap (λ rows. or_then (line_break tables ys) (or_then (value_break tables ys) (or_then (in_table 7 (rows_break 0 (tables 7) rows)) (or_then (in_table 8 (rows_break 0 (tables 8) (link_table xs))) (in_table 9 (mark_break (has_gap xs) (tables 9))))))) heads_same
      ∙ ap (λ rows. or_then (line_break tables ys) (or_then (value_break tables ys) (or_then (in_table 7 (rows_break 0 (tables 7) (head_table ys))) (or_then (in_table 8 (rows_break 0 (tables 8) rows)) (in_table 9 (mark_break (has_gap xs) (tables 9))))))) links_same
      ∙ ap (λ gap. or_then (line_break tables ys) (or_then (value_break tables ys) (or_then (in_table 7 (rows_break 0 (tables 7) (head_table ys))) (or_then (in_table 8 (rows_break 0 (tables 8) (link_table ys))) (in_table 9 (mark_break gap (tables 9))))))) gap_same
