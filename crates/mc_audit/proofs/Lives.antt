-- The live element rows of blocks, against what the definitions call live.
use Rattle.std.proofs.Common.{◌≡◌, ℕ, Bool, true, false, cond, List, [], ◌∷◌, ◌++◌, map, ◌&&◌, not, sym, refl, ap, ◌∙◌}
use Rattle.std.specs.Prelude.{filter, find}
use Rattle.std.specs.List.{list_any}
use Rattle.std.specs.Option.{option_map}
use Rattle.std.specs.Ordering.{nat_cmp, is_eq, ordering_then}
use Rattle.std.specs.List.Sorted.{IsStrictlySortedBy}
use Rattle.std.specs.Cmp.Lexicographic.{slice_cmp}
use Rattle.std.specs.Str.{bytes_eq}
use Rattle.std.specs.declared.cmp.Ordering.{Ordering}
use Rattle.std.specs.declared.cmp.Ordering.TheVariants.{Less, Equal, Greater}
use Rattle.std.proofs.lemmas.List.Elements.{filter-append}
use Rattle.std.proofs.lemmas.List.{map-append}
use Rattle.std.proofs.lemmas.Map.Text.{is_eq-slice_cmp}
use Rattle.std.proofs.lemmas.Slice.Eq.{bytes_eq-Decides}
use Rattle.mc_model.specs.declared.block.Block.{Block}
use Rattle.mc_model.specs.declared.delta.Element.{Element}
use Rattle.mc_model.specs.declared.delta.Tomb.{Tomb}
use Rattle.mc_model.specs.Id.{id_text}
use Rattle.mc_model.specs.Live.{has_tomb, is_tomb, is_hidden, ranked_in, ranked_elements, live_among, value_row}
use Rattle.mc_model.specs.Rank.{Ranked, greatest}
use Rattle.mc_model.specs.SameMembers.{SameMembers}
use Rattle.mc_model.proofs.Ascending.{ascending_ascends}
use Rattle.mc_model.proofs.Greatest.{greatest_same}
use Rattle.mc_model.proofs.Members.{list_any-flat_map, list_any-map, any_agree, same_filter}
use Rattle.mc_raw.specs.declared.raw.Row.{Row}
use Rattle.mc_raw.specs.RowOrder.{row_cmp, row_total}
use Rattle.mc_raw.specs.RowTables.{element_line, element_lines, tomb_line, tomb_lines, tomb_table}
use Rattle.mc_model.specs.Who.{Placed, placed_in, placed_among, topmost, top_row}
use Rattle.mc_audit.specs.Rows.{same_row}
use Rattle.mc_audit.specs.Values.{tomb_of, top_cmp}
use Rattle.mc_audit.proofs.Sorts.{row_tied}
use Rattle.mc_audit.proofs.Tops.{is_key, placed_row, rank_of, first_is_topmost, first_is_greatest}
use Rattle.mc_model.proofs.Topmost.{topmost_same}

-- whether no tombstone of the blocks hides the element's row
abbrev pub is_shown : List Block → Row → Bool
is_shown all row = not (has_tomb all row.a (id_text row.b))

-- tombstones are found in their table

parts_eq : (o p : Ordering) → is_eq (ordering_then (ordering_then (ordering_then o p) Equal) Equal) ≡ (is_eq o && is_eq p)
parts_eq Less p = refl
parts_eq Equal Less = refl
parts_eq Equal Equal = refl
parts_eq Equal Greater = refl
parts_eq Greater p = refl

tomb_is : (row : Row) (tomb : Tomb) → same_row (tomb_line tomb) (tomb_of row) ≡ is_tomb row.a (id_text row.b) tomb
tomb_is row tomb =
    parts_eq (slice_cmp nat_cmp tomb.key row.a) (slice_cmp nat_cmp tomb.id (id_text row.b))
    ∙ ap (λ b. b && is_eq (slice_cmp nat_cmp tomb.id (id_text row.b))) (is_eq-slice_cmp tomb.key row.a)
    ∙ ap (λ b. bytes_eq tomb.key row.a && b) (is_eq-slice_cmp tomb.id (id_text row.b))

abbrev is_tomb_row : Row → Row → Bool
is_tomb_row row tomb = same_row tomb (tomb_of row)

pub tomb_found : (all : List Block) (row : Row) → list_any (λ tomb. same_row tomb (tomb_of row)) (tomb_table all) ≡ has_tomb all row.a (id_text row.b)
tomb_found all row =
    (ascending_ascends row_cmp row_total row_tied (tomb_lines all)).members.same (is_tomb_row row)
    ∙ list_any-flat_map (is_tomb_row row) (λ (block : Block). map tomb_line block.delta.tombstones) all
    ∙ any_agree (λ (block : Block). list_any (is_tomb_row row) (map tomb_line block.delta.tombstones)) (λ (block : Block). list_any (is_tomb row.a (id_text row.b)) block.delta.tombstones)
    (λ block. list_any-map (is_tomb_row row) tomb_line block.delta.tombstones ∙ any_agree (λ (tomb : Tomb). is_tomb_row row (tomb_line tomb)) (is_tomb row.a (id_text row.b)) (tomb_is row) block.delta.tombstones)
    all

-- the live rows of a key are its live places

of_element : (all : List Block) (key : List ℕ) (block : Block) (elements : List Element)
    → map placed_row (filter (is_key key) (filter (is_shown all) (map (element_line block) elements)))
    ≡ cond (is_hidden all key block) [] (map (λ (ranked : Ranked). (ranked, block.cid)) (ranked_elements block.delta.priority elements key))
of_element all key block [] = elim (is_hidden all key block) as (λ t. ◌≡◌ {A = List Placed} [] (cond t [] [])) [ true ↦ refl | false ↦ refl ]
of_element all key block (e ∷ elements) =
    elim (bytes_eq e.key key) as (λ k. bytes_eq e.key key ≡ k →
    map placed_row (filter (is_key key) (cond (not (has_tomb all e.key (id_text block.cid.0))) (element_line block e ∷ filter (is_shown all) (map (element_line block) elements)) (filter (is_shown all) (map (element_line block) elements))))
    ≡ cond (is_hidden all key block) [] (map (λ (ranked : Ranked). (ranked, block.cid)) (map (λ (element : Element). (block.delta.priority, element.value)) (cond k (e ∷ filter (λ (element : Element). bytes_eq element.key key) elements) (filter (λ (element : Element). bytes_eq element.key key) elements))))) [
      | true ↦ λ k.
          ap (λ (other : List ℕ). map placed_row (filter (is_key key) (cond (not (has_tomb all other (id_text block.cid.0))) (element_line block e ∷ filter (is_shown all) (map (element_line block) elements)) (filter (is_shown all) (map (element_line block) elements))))) ((bytes_eq-Decides e.key key).0 k)
          ∙ shown (is_hidden all key block) k (of_element all key block elements)
      | false ↦ λ k.
          other (not (has_tomb all e.key (id_text block.cid.0))) k ∙ of_element all key block elements
    ] refl
  where
    tail : List Row
    tail = filter (is_shown all) (map (element_line block) elements)

    places : List Placed
    places = map (λ (ranked : Ranked). (ranked, block.cid)) (ranked_elements block.delta.priority elements key)

    shown : (hidden : Bool) → bytes_eq e.key key ≡ true → map placed_row (filter (is_key key) tail) ≡ cond hidden [] places
        → map placed_row (filter (is_key key) (cond (not hidden) (element_line block e ∷ tail) tail)) ≡ cond hidden [] (((block.delta.priority, e.value), block.cid) ∷ places)
    shown true k rest = rest
    shown false k rest = ap (λ t. map placed_row (cond t (element_line block e ∷ filter (is_key key) tail) (filter (is_key key) tail))) k ∙ ap (λ z. ((block.delta.priority, e.value), block.cid) ∷ z) rest

    other : (shows : Bool) → bytes_eq e.key key ≡ false → map placed_row (filter (is_key key) (cond shows (element_line block e ∷ tail) tail)) ≡ map placed_row (filter (is_key key) tail)
    other true k = ap (λ t. map placed_row (cond t (element_line block e ∷ filter (is_key key) tail) (filter (is_key key) tail))) k
    other false k = refl

places_of : (all blocks : List Block) (key : List ℕ) → map placed_row (filter (is_key key) (filter (is_shown all) (element_lines blocks))) ≡ placed_among all key blocks
places_of all [] key = refl
places_of all (b ∷ blocks) key =
    ap (λ rows. map placed_row (filter (is_key key) rows)) (filter-append (is_shown all) (map (element_line b) b.delta.elements) (element_lines blocks))
    ∙ ap (map placed_row) (filter-append (is_key key) (filter (is_shown all) (map (element_line b) b.delta.elements)) (filter (is_shown all) (element_lines blocks)))
    ∙ map-append placed_row (filter (is_key key) (filter (is_shown all) (map (element_line b) b.delta.elements))) (filter (is_key key) (filter (is_shown all) (element_lines blocks)))
    ∙ ap (λ first. first ++ map placed_row (filter (is_key key) (filter (is_shown all) (element_lines blocks)))) (of_element all key b b.delta.elements)
    ∙ ap (λ rest. cond (is_hidden all key b) [] (placed_in key b) ++ rest) (places_of all blocks key)

-- and the live places have the live ranks

ranks_of : (hidden : Bool) (key : List ℕ) (block : Block) → map (λ (p : Placed). p.0) (cond hidden [] (placed_in key block)) ≡ cond hidden [] (ranked_in key block)
ranks_of true key block = refl
ranks_of false key block = again (ranked_in key block)
  where
    again : (ranked : List Ranked) → map (λ (p : Placed). p.0) (map (λ (r : Ranked). (r, block.cid)) ranked) ≡ ranked
    again [] = refl
    again (r ∷ ranked) = ap (λ rest. r ∷ rest) (again ranked)

ranks_among : (all blocks : List Block) (key : List ℕ) → map (λ (p : Placed). p.0) (placed_among all key blocks) ≡ live_among all key blocks
ranks_among all [] key = refl
ranks_among all (b ∷ blocks) key =
    map-append (λ (p : Placed). p.0) (cond (is_hidden all key b) [] (placed_in key b)) (placed_among all key blocks)
    ∙ ap (λ first. first ++ map (λ (p : Placed). p.0) (placed_among all key blocks)) (ranks_of (is_hidden all key b) key b)
    ∙ ap (λ rest. cond (is_hidden all key b) [] (ranked_in key b) ++ rest) (ranks_among all blocks key)

map_twice : {A B C : Type 0} (f : A → B) (g : B → C) (xs : List A) → map g (map f xs) ≡ map (λ x. g (f x)) xs
map_twice f g [] = refl
map_twice f g (x ∷ xs) = ap (λ rest. g (f x) ∷ rest) (map_twice f g xs)

same_map : {A B : Type 0} (f : A → B) (xs ys : List A) → SameMembers xs ys → SameMembers (map f xs) (map f ys)
same_map f xs ys same = record { same = λ test. list_any-map test f xs ∙ same.same (λ x. test (f x)) ∙ sym (list_any-map test f ys) }

-- rows in the order of tops, of all live rows

module _ (all : List Block) (rows : List Row) (sorted : IsStrictlySortedBy top_cmp rows) (same : SameMembers rows (filter (is_shown all) (element_lines all))) where
  pub who_found : (key : List ℕ) → top_row all key ≡ option_map placed_row (find (is_key key) rows)
  who_found key =
      sym (ap topmost (places_of all all key))
      ∙ topmost_same _ _ (same_map placed_row _ _ (same_filter (is_key key) _ _ (record { same = λ test. sym (same.same test) })))
      ∙ first_is_topmost key rows sorted

  pub value_found : (key : List ℕ) → value_row all key ≡ option_map rank_of (find (is_key key) rows)
  value_found key =
      sym (ap greatest (ranks_among all all key))
      ∙ sym (ap (λ (places : List Placed). greatest (map (λ (p : Placed). p.0) places)) (places_of all all key))
      ∙ ap greatest (map_twice placed_row (λ (p : Placed). p.0) (filter (is_key key) (filter (is_shown all) (element_lines all))))
      ∙ greatest_same _ _ (same_map rank_of _ _ (same_filter (is_key key) _ _ (record { same = λ test. sym (same.same test) })))
      ∙ first_is_greatest key rows sorted
