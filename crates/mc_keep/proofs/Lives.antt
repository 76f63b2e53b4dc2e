-- What lives of the rows of a key, against what lives of the blocks that the rows are of.
use Rattle.std.proofs.Common.{◌≡◌, ℕ, Bool, true, false, not, cond, List, [], ◌∷◌, ◌++◌, map, ◌||◌, ◌&&◌, refl, ap, ◌∙◌}
use Rattle.std.specs.Prelude.{filter}
use Rattle.std.specs.List.{list_any}
use Rattle.std.specs.Str.{bytes_eq}
use Rattle.std.proofs.lemmas.List.Folds.{list_any-append}
use Rattle.std.proofs.lemmas.List.Concat.{flat_map-append}
use Rattle.std.proofs.lemmas.List.Elements.{filter-append}
use Rattle.std.proofs.Math.Bool.{or-false}
use Rattle.mc_model.specs.declared.block.Block.{Block}
use Rattle.mc_model.specs.declared.delta.Element.{Element}
use Rattle.mc_model.specs.Id.{id_text}
use Rattle.mc_base.specs.declared.cid.Cid.{Cid}
use Rattle.mc_model.specs.Rank.{Ranked}
use Rattle.mc_model.specs.Who.{Placed, placed_in, placed_among}
use Rattle.mc_model.specs.Live.{has_tomb, is_hidden, ranked_in, live_among, ranked_elements}
use Rattle.mc_keep.specs.declared.rows.ElementRow.{ElementRow}
use Rattle.mc_keep.specs.LiveRows.{ranked_of, placed_of, live_row, live_rows, place_row, place_rows}
use Rattle.mc_keep.specs.Tables.{element_row, element_rows, element_rows_of}

-- the rows of one block's elements have what lives of that block
live_rows_block : (all : List Block) (key : List ℕ) (block : Block) (elements : List Element)
    → live_rows (has_tomb all key) (filter (λ (row : ElementRow). bytes_eq row.key key) (map (element_row block) elements)) ≡ cond (is_hidden all key block) [] (ranked_elements block.delta.priority elements key)
live_rows_block all key block [] = elim (is_hidden all key block) as (λ t. ◌≡◌ {A = List Ranked} [] (cond t [] [])) [ true ↦ refl | false ↦ refl ]
live_rows_block all key block (e ∷ elements) =
    elim (bytes_eq e.key key) as (λ k. live_rows (has_tomb all key) (cond k (element_row block e ∷ filter (λ (row : ElementRow). bytes_eq row.key key) (map (element_row block) elements)) (filter (λ (row : ElementRow). bytes_eq row.key key) (map (element_row block) elements)))
    ≡ cond (is_hidden all key block) [] (map (λ (element : Element). (block.delta.priority, element.value)) (cond k (e ∷ filter (λ (element : Element). bytes_eq element.key key) elements) (filter (λ (element : Element). bytes_eq element.key key) elements)))) [
      | true ↦
          let rest = live_rows_block all key block elements in
          ap (λ tail. live_row (has_tomb all key) (element_row block e) ++ tail) rest ∙ joined (is_hidden all key block) (block.delta.priority, e.value) (ranked_elements block.delta.priority elements key)
      | false ↦ live_rows_block all key block elements
    ]
  where
    joined : (hidden : Bool) (first : Ranked) (rest : List Ranked) → cond hidden [] (first ∷ []) ++ cond hidden [] rest ≡ cond hidden [] (first ∷ rest)
    joined true first rest = refl
    joined false first rest = refl

-- the rows of the key have what lives of the blocks
pub live_rows-element_rows_of : (all blocks : List Block) (key : List ℕ) → live_rows (has_tomb all key) (element_rows_of blocks key) ≡ live_among all key blocks
live_rows-element_rows_of all [] key = refl
live_rows-element_rows_of all (b ∷ blocks) key =
    ap (live_rows (has_tomb all key)) (filter-append (λ (row : ElementRow). bytes_eq row.key key) (map (element_row b) b.delta.elements) (element_rows blocks))
    ∙ flat_map-append (live_row (has_tomb all key)) (filter (λ (row : ElementRow). bytes_eq row.key key) (map (element_row b) b.delta.elements)) (element_rows_of blocks key)
    ∙ ap (λ front. front ++ live_rows (has_tomb all key) (element_rows_of blocks key)) (live_rows_block all key b b.delta.elements)
    ∙ ap (λ rest. cond (is_hidden all key b) [] (ranked_in key b) ++ rest) (live_rows-element_rows_of all blocks key)

-- a test of what lives of rows is one of the rows
pub live_rows_any : (hidden : List ℕ → Bool) (test : Ranked → Bool) (rows : List ElementRow) → list_any test (live_rows hidden rows) ≡ list_any (λ (row : ElementRow). not (hidden (id_text row.cid.0)) && test (ranked_of row)) rows
live_rows_any hidden test [] = refl
live_rows_any hidden test (r ∷ rows) =
    list_any-append test (live_row hidden r) (live_rows hidden rows)
    ∙ ap (λ b. list_any test (live_row hidden r) || b) (live_rows_any hidden test rows)
    ∙ ap (λ b. b || list_any (λ (row : ElementRow). not (hidden (id_text row.cid.0)) && test (ranked_of row)) rows) (one (hidden (id_text r.cid.0)))
  where
    one : (b : Bool) → list_any test (cond b [] (ranked_of r ∷ [])) ≡ (not b && test (ranked_of r))
    one true = refl
    one false = or-false (test (ranked_of r))

-- the same with the blocks

abbrev in_block : Cid → List Ranked → List Placed
in_block cid ranked = map (λ (r : Ranked). (r, cid)) ranked

place_rows_block : (all : List Block) (key : List ℕ) (block : Block) (elements : List Element)
    → place_rows (has_tomb all key) (filter (λ (row : ElementRow). bytes_eq row.key key) (map (element_row block) elements)) ≡ cond (is_hidden all key block) [] (in_block block.cid (ranked_elements block.delta.priority elements key))
place_rows_block all key block [] = elim (is_hidden all key block) as (λ t. ◌≡◌ {A = List Placed} [] (cond t [] [])) [ true ↦ refl | false ↦ refl ]
place_rows_block all key block (e ∷ elements) =
    elim (bytes_eq e.key key) as (λ k. place_rows (has_tomb all key) (cond k (element_row block e ∷ filter (λ (row : ElementRow). bytes_eq row.key key) (map (element_row block) elements)) (filter (λ (row : ElementRow). bytes_eq row.key key) (map (element_row block) elements)))
    ≡ cond (is_hidden all key block) [] (in_block block.cid (map (λ (element : Element). (block.delta.priority, element.value)) (cond k (e ∷ filter (λ (element : Element). bytes_eq element.key key) elements) (filter (λ (element : Element). bytes_eq element.key key) elements))))) [
      | true ↦
          let rest = place_rows_block all key block elements in
          ap (λ tail. place_row (has_tomb all key) (element_row block e) ++ tail) rest ∙ joined (is_hidden all key block) ((block.delta.priority, e.value), block.cid) (in_block block.cid (ranked_elements block.delta.priority elements key))
      | false ↦ place_rows_block all key block elements
    ]
  where
    joined : (hidden : Bool) (first : Placed) (rest : List Placed) → cond hidden [] (first ∷ []) ++ cond hidden [] rest ≡ cond hidden [] (first ∷ rest)
    joined true first rest = refl
    joined false first rest = refl

pub place_rows-element_rows_of : (all blocks : List Block) (key : List ℕ) → place_rows (has_tomb all key) (element_rows_of blocks key) ≡ placed_among all key blocks
place_rows-element_rows_of all [] key = refl
place_rows-element_rows_of all (b ∷ blocks) key =
    ap (place_rows (has_tomb all key)) (filter-append (λ (row : ElementRow). bytes_eq row.key key) (map (element_row b) b.delta.elements) (element_rows blocks))
    ∙ flat_map-append (place_row (has_tomb all key)) (filter (λ (row : ElementRow). bytes_eq row.key key) (map (element_row b) b.delta.elements)) (element_rows_of blocks key)
    ∙ ap (λ front. front ++ place_rows (has_tomb all key) (element_rows_of blocks key)) (place_rows_block all key b b.delta.elements)
    ∙ ap (λ rest. cond (is_hidden all key b) [] (placed_in key b) ++ rest) (place_rows-element_rows_of all blocks key)

pub place_rows_any : (hidden : List ℕ → Bool) (test : Placed → Bool) (rows : List ElementRow) → list_any test (place_rows hidden rows) ≡ list_any (λ (row : ElementRow). not (hidden (id_text row.cid.0)) && test (placed_of row)) rows
place_rows_any hidden test [] = refl
place_rows_any hidden test (r ∷ rows) =
    list_any-append test (place_row hidden r) (place_rows hidden rows)
    ∙ ap (λ b. list_any test (place_row hidden r) || b) (place_rows_any hidden test rows)
    ∙ ap (λ b. b || list_any (λ (row : ElementRow). not (hidden (id_text row.cid.0)) && test (placed_of row)) rows) (one (hidden (id_text r.cid.0)))
  where
    one : (b : Bool) → list_any test (cond b [] (placed_of r ∷ [])) ≡ (not b && test (placed_of r))
    one true = refl
    one false = or-false (test (placed_of r))
