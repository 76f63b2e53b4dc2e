-- The rows that are kept and shown are the pairs that a delete takes.
use Rattle.std.proofs.Common.{◌≡◌, ℕ, Bool, true, false, cond, not, ◌||◌, List, [], ◌∷◌, ◌++◌, map, Option, Some, None, ◌⊎◌, inl, inr, sym, refl, ap, ◌∙◌, subst}
use Rattle.std.specs.Prelude.{fold, filter, reverse, IfSome}
use Rattle.std.proofs.lemmas.List.{append-nil}
use Rattle.std.proofs.lemmas.List.Folds.{list_any-append}
use Rattle.std.specs.List.{list_any, dedup, filter_map}
use Rattle.std.specs.Option.{option_map}
use Rattle.std.specs.Str.{bytes_eq}
use Rattle.std.specs.Cmp.Lexicographic.{slice_cmp}
use Rattle.std.specs.Ordering.{eq_by_cmp, is_eq, is_gt, is_lt, nat_cmp, ordering_then}
use Rattle.std.specs.declared.cmp.Ordering.{Ordering}
use Rattle.std.specs.declared.cmp.Ordering.TheVariants.{Less, Equal, Greater}
use Rattle.std.proofs.lemmas.Cmp.{nat_cmp_total, tied_itself}
use Rattle.std.specs.Cmp.{Equal-is}
use Rattle.std.proofs.lemmas.Bool.{not-true}
use Rattle.mc_base.specs.declared.cid.Cid.{Cid}
use Rattle.mc_base.proofs.Booleans.{same_truth}
use Rattle.mc_model.specs.declared.block.Block.{Block}
use Rattle.mc_model.specs.declared.block.Stored.{Stored}
use Rattle.mc_model.specs.declared.delta.Element.{Element}
use Rattle.mc_model.specs.Ascending.{Ascends}
use Rattle.mc_model.specs.Cuts.{Pair, pair_cmp, pair_in, pairs}
use Rattle.mc_model.specs.Front.{same_cid}
use Rattle.mc_model.specs.Id.{id_text}
use Rattle.mc_model.specs.Kept.{Kept, processed, block_in, blocks_in}
use Rattle.mc_model.specs.Live.{has_tomb, is_hidden, ranked_in}
use Rattle.mc_model.specs.Rank.{Ranked, rank_cmp, greater, greatest}
use Rattle.mc_model.specs.SameMembers.{SameMembers}
use Rattle.mc_model.proofs.Ascending.{ascends_is}
use Rattle.mc_model.proofs.Blocks.{block_in_cid}
use Rattle.mc_model.proofs.Counts.{cid_is, cid_itself}
use Rattle.mc_model.proofs.Greatest.{rank_tied, gt_lt}
use Rattle.mc_keep.specs.declared.rows.ElementRow.{ElementRow}
use Rattle.mc_keep.specs.ElementOrder.{element_cmp, element_total}
use Rattle.mc_keep.specs.LiveRows.{is_shown, live_element_rows}
use Rattle.mc_keep.specs.Tables.{element_row, element_rows, element_rows_of}
use Rattle.mc_keep.proofs.ElementTies.{element_tied}
use Rattle.mc_write.specs.PairOrder.{pair_total}
use Rattle.mc_write.specs.Rows.{same_block, last_rows}
use Rattle.mc_write.specs.Pairs.{row_pair}
use Rattle.mc_write.proofs.Membership.{In, any_from_in, in_from_any, in_same, in_map, from_map, in_filter, from_filter, in_flat_map, from_flat_map, in_filter_map, from_filter_map}
use Rattle.mc_write.proofs.PairFacts.{pair_tied}
use Rattle.mc_write.proofs.RowOrder.{block_is, block_of, Descends, UpTo, reverse_cons, reverse_descends, in_dedup, last_of_block, has_last, value_up_to}

-- the greatest of ranked values

neither : (x y : Ranked) → is_lt (rank_cmp x y) ≡ false → is_gt (rank_cmp x y) ≡ false → x ≡ y
neither x y e f = rank_tied x y (only_equal (rank_cmp x y) e f)
  where
    only_equal : (o : Ordering) → is_lt o ≡ false → is_gt o ≡ false → o ≡ Equal
    only_equal Less e f = absurd (let g : true ≡ false = e in cc)
    only_equal Equal e f = refl
    only_equal Greater e f = absurd (let g : true ≡ false = f in cc)

fold_to : (xs : List Ranked) (best m : Ranked) → (m ≡ best) ⊎ In m xs → is_gt (rank_cmp best m) ≡ false → ((x : Ranked) → In x xs → is_gt (rank_cmp x m) ≡ false) → fold greater (Some best) xs ≡ Some m
fold_to [] best m (inl same) b h = ap (λ z. Some z) (sym same)
fold_to [] best m (inr i) b h = absurd i
fold_to (x ∷ xs) best m at b h = (elim (is_lt (rank_cmp best x)) as (λ t. is_lt (rank_cmp best x) ≡ t → fold greater (cond t (Some x) (Some best)) xs ≡ Some m) [
  | true ↦ λ e. fold_to xs x m (elim at [
    | inl same ↦ absurd (let f : true ≡ false = sym e ∙ sym (gt_lt x best) ∙ ap (λ z. is_gt (rank_cmp x z)) (sym same) ∙ h x (inl refl) in cc)
    | inr i ↦ i
  ]) (h x (inl refl)) (λ y i. h y (inr i))
  | false ↦ λ e. fold_to xs best m (elim at [
    | inl same ↦ inl same
    | inr i ↦ elim i [
      | inl same ↦ inl (sym (neither best m (ap (λ z. is_lt (rank_cmp best z)) same ∙ e) b))
      | inr j ↦ inr j
    ]
  ]) b (λ y i. h y (inr i))
]) refl

pub greatest_is : (xs : List Ranked) (m : Ranked) → In m xs → ((x : Ranked) → In x xs → is_gt (rank_cmp x m) ≡ false) → greatest xs ≡ Some m
greatest_is [] m i h = absurd i
greatest_is (x ∷ xs) m i h = fold_to xs x m i (h x (inl refl)) (λ y j. h y (inr j))

-- the row's block, and its element
record Origin (blocks : List Block) (key : List ℕ) (row : ElementRow) : Type 0 where
  block : Block
  element : Element
  within : In block blocks
  has : In element block.delta.elements
  is : row ≡ element_row block element
  keyed : bytes_eq element.key key ≡ true

origin : (blocks : List Block) (key : List ℕ) (row : ElementRow) → In row (element_rows_of blocks key) → Origin blocks key row
origin blocks key row i =
    let kept = from_filter (λ (r : ElementRow). bytes_eq r.key key) row (element_rows blocks) i in
    let found = from_flat_map (λ (block : Block). map (element_row block) block.delta.elements) row blocks kept.0 in
    let made = from_map (element_row found.item) row found.item.delta.elements found.has in
    record { block = found.item; element = made.item; within = found.within; has = made.within; is = made.is; keyed = ap (λ (r : ElementRow). bytes_eq r.key key) (sym made.is) ∙ kept.1 }

has_row : (blocks : List Block) (key : List ℕ) (block : Block) (element : Element) → In block blocks → In element block.delta.elements → bytes_eq element.key key ≡ true → In (element_row block element) (element_rows_of blocks key)
has_row blocks key block element i j e =
    in_filter (λ (r : ElementRow). bytes_eq r.key key) (element_row block element) (element_rows blocks)
    (in_flat_map (λ (b : Block). map (element_row b) b.delta.elements) block (element_row block element) blocks i (in_map (element_row block) element block.delta.elements j)) e

-- a processed block is the one that its identifier names
is_own : (graph : List Stored) (order : List Cid) (block : Block) → In block (blocks_in graph order) → block_in graph block.cid ≡ block
is_own graph [] block i = absurd i
is_own graph (c ∷ order) block (inl same) = ap (block_in graph) (ap (λ (b : Block). b.cid) same ∙ block_in_cid graph c) ∙ sym same
is_own graph (c ∷ order) block (inr i) = is_own graph order block i

itself_row : (row : ElementRow) → eq_by_cmp element_cmp row row ≡ true
itself_row row = ap is_eq (tied_itself element_total row)

tied_rows : (x y : ElementRow) → eq_by_cmp element_cmp x y ≡ true → x ≡ y
tied_rows x y e = element_tied x y ((Equal-is (element_cmp x y)).0 e)

rank_of_value : (p : ℕ) (v w : List ℕ) → is_gt (slice_cmp nat_cmp v w) ≡ false → is_gt (rank_cmp (p, v) (p, w)) ≡ false
rank_of_value p v w e = ap (λ o. is_gt (ordering_then o (slice_cmp nat_cmp v w))) (tied_itself nat_cmp_total p) ∙ e

abbrev made_pair : ℕ → List ℕ → Cid → Pair
made_pair priority value cid = record { priority = priority; value = value; cid = cid }

-- where no row of its block is above a row, the pair of the block is the row's
pair_is : (blocks : List Block) (key : List ℕ) (row : ElementRow) (from : Origin blocks key row)
    → ((element : Element) → In element from.block.delta.elements → bytes_eq element.key key ≡ true → is_gt (slice_cmp nat_cmp element.value row.value) ≡ false)
    → pair_in blocks key from.block ≡ cond (has_tomb blocks key (id_text row.cid.0)) None (Some (row_pair row))
pair_is blocks key row from top =
    let block = from.block in
    let best : Ranked = (block.delta.priority, row.value) in
    let member : In best (ranked_in key block) =
    subst (λ (v : List ℕ). In (block.delta.priority, v) (ranked_in key block)) (sym (ap (λ (r : ElementRow). r.value) from.is))
    (in_map (λ (element : Element). (block.delta.priority, element.value)) from.element (filter (λ (element : Element). bytes_eq element.key key) block.delta.elements)
    (in_filter (λ (element : Element). bytes_eq element.key key) from.element block.delta.elements from.has from.keyed)) in
    let bound : (x : Ranked) → In x (ranked_in key block) → is_gt (rank_cmp x best) ≡ false = λ x i.
    let made = from_map (λ (element : Element). (block.delta.priority, element.value)) x (filter (λ (element : Element). bytes_eq element.key key) block.delta.elements) i in
    let kept = from_filter (λ (element : Element). bytes_eq element.key key) made.item block.delta.elements made.within in
    ap (λ (z : Ranked). is_gt (rank_cmp z best)) made.is ∙ rank_of_value block.delta.priority made.item.value row.value (top made.item kept.0 kept.1) in
    let found : greatest (ranked_in key block ++ []) ≡ Some best = ap greatest (append-nil (ranked_in key block)) ∙ greatest_is (ranked_in key block) best member bound in
    let cid : row.cid ≡ block.cid = ap (λ (r : ElementRow). r.cid) from.is in
    let priority : row.priority ≡ block.delta.priority = ap (λ (r : ElementRow). r.priority) from.is in
    let own : made_pair block.delta.priority row.value block.cid ≡ row_pair row = λ i. record { priority = sym priority i; value = row.value; cid = sym cid i } in
    ap (λ (c : Cid). option_map (λ (ranked : Ranked). record { priority = ranked.0; value = ranked.1; cid = block.cid }) (greatest (cond (has_tomb blocks key (id_text c.0)) [] (ranked_in key block) ++ []))) (sym cid)
    ∙ elim (has_tomb blocks key (id_text row.cid.0)) as (λ t. option_map (λ (ranked : Ranked). record { priority = ranked.0; value = ranked.1; cid = block.cid }) (greatest (cond t [] (ranked_in key block) ++ [])) ≡ cond t None (Some (row_pair row))) [
      | true ↦ refl
      | false ↦ ap (option_map (λ (ranked : Ranked). record { priority = ranked.0; value = ranked.1; cid = block.cid })) found ∙ ap (λ (z : Pair). Some z) own
    ]

-- an element of the key in a block that has a pair, and that no tombstone hides
element_of_pair : (blocks : List Block) (key : List ℕ) (block : Block) (pair : Pair) → pair_in blocks key block ≡ Some pair → (element : Element) × In element block.delta.elements × (bytes_eq element.key key ≡ true)
element_of_pair blocks key block pair e = (elim (is_hidden blocks key block) as (λ t. option_map (λ (ranked : Ranked). record { priority = ranked.0; value = ranked.1; cid = block.cid }) (greatest (cond t [] (ranked_in key block) ++ [])) ≡ Some pair
    → (element : Element) × In element block.delta.elements × (bytes_eq element.key key ≡ true)) [
      | true ↦ λ f. absurd (let g : None ≡ Some pair = f in cc)
      | false ↦ λ f. first (filter (λ (element : Element). bytes_eq element.key key) block.delta.elements) refl f
    ]) e
  where
    first : (elements : List Element) → filter (λ (element : Element). bytes_eq element.key key) block.delta.elements ≡ elements
        → option_map (λ (ranked : Ranked). record { priority = ranked.0; value = ranked.1; cid = block.cid }) (greatest (map (λ (element : Element). (block.delta.priority, element.value)) elements ++ [])) ≡ Some pair
        → (element : Element) × In element block.delta.elements × (bytes_eq element.key key ≡ true)
    first [] same f = absurd (let g : None ≡ Some pair = f in cc)
    first (element ∷ elements) same f =
        let kept = from_filter (λ (element : Element). bytes_eq element.key key) element block.delta.elements (subst (In element) (sym same) (inl refl)) in
        (element, kept.0, kept.1)

-- no tombstone hides the block of a pair
shown_of_pair : (blocks : List Block) (key : List ℕ) (block : Block) (pair : Pair) → pair_in blocks key block ≡ Some pair → not (has_tomb blocks key (id_text block.cid.0)) ≡ true
shown_of_pair blocks key block pair e = (elim (is_hidden blocks key block) as (λ t. option_map (λ (ranked : Ranked). record { priority = ranked.0; value = ranked.1; cid = block.cid }) (greatest (cond t [] (ranked_in key block) ++ [])) ≡ Some pair → not t ≡ true) [
  | true ↦ λ f. absurd (let g : None ≡ Some pair = f in cc)
  | false ↦ λ f. refl
]) e

-- the rows that are kept, of the live rows of a key over the blocks of a keeper
module _ (graph : List Stored) (order : List Cid) (key : List ℕ) (rows : List ElementRow) (ascends : Ascends element_cmp rows (live_element_rows (blocks_in graph order) key)) where
  abbrev all : List ElementRow
  all = element_rows_of (blocks_in graph order) key

  abbrev shown : ElementRow → Bool
  shown row = is_shown (blocks_in graph order) key row

  to_rows : (row : ElementRow) → In row all → shown row ≡ true → In row rows
  to_rows row i e = in_same (eq_by_cmp element_cmp) itself_row tied_rows (filter shown all) rows (record { same = λ test. sym (ascends.members.same test) }) row (in_filter shown row all i e)

  from_rows : (row : ElementRow) → In row rows → In row all × (shown row ≡ true)
  from_rows row i = from_filter shown row all (in_same (eq_by_cmp element_cmp) itself_row tied_rows rows (filter shown all) ascends.members row i)

  -- the rows turned round
  module _ (moved : SameMembers rows (reverse rows)) where
    back : (row : ElementRow) → In row (reverse rows) → In row all × (shown row ≡ true)
    back row i = from_rows row (in_same (eq_by_cmp element_cmp) itself_row tied_rows (reverse rows) rows (record { same = λ test. sym (moved.same test) }) row i)

    forth : (row : ElementRow) → In row all → shown row ≡ true → In row (reverse rows)
    forth row i e = in_same (eq_by_cmp element_cmp) itself_row tied_rows rows (reverse rows) moved row (to_rows row i e)

    last_in : (turned : List ElementRow) → (row : ElementRow) → In row (dedup same_block turned) → In row turned
    last_in [] row i = absurd i
    last_in (first ∷ turned) row i = in_dedup row first turned i

    last_tops : (turned : List ElementRow) → Descends turned → (row other : ElementRow) → In row (dedup same_block turned) → In other turned → same_block row other ≡ true → UpTo other row
    last_tops [] d row other i j e = absurd j
    last_tops (first ∷ turned) d row other i j e = last_of_block row other first turned d.0 d.1 i j e

    last_there : (turned : List ElementRow) → (row : ElementRow) → In row turned → (last : ElementRow) × In last (dedup same_block turned) × (same_block last row ≡ true)
    last_there [] row i = absurd i
    last_there (first ∷ turned) row i = has_last row first turned i

    descends : Descends (reverse rows)
    descends = reverse_descends rows ascends.sorted

    -- the pair of a kept row's block
    kept_pair : (row : ElementRow) → In row (last_rows rows) → pair_in (blocks_in graph order) key (block_in graph row.cid) ≡ Some (row_pair row)
    kept_pair row i =
        let found = back row (last_in (reverse rows) row i) in
        let from = origin (blocks_in graph order) key row found.0 in
        let cid : row.cid ≡ from.block.cid = ap (λ (r : ElementRow). r.cid) from.is in
        let own : block_in graph row.cid ≡ from.block = ap (block_in graph) cid ∙ is_own graph order from.block from.within in
        let priority : row.priority ≡ from.block.delta.priority = ap (λ (r : ElementRow). r.priority) from.is in
        let same : (element : Element) → same_block row (element_row from.block element) ≡ true = λ element. block_is row (element_row from.block element) priority cid in
        let free : (element : Element) → shown (element_row from.block element) ≡ true = λ element. subst (λ (c : Cid). not (has_tomb (blocks_in graph order) key (id_text c.0)) ≡ true) cid found.1 in
        ap (pair_in (blocks_in graph order) key) own ∙ pair_is (blocks_in graph order) key row from (λ element j e.
        let other = element_row from.block element in
        value_up_to other row (last_tops (reverse rows) descends row other i (forth other (has_row (blocks_in graph order) key from.block element from.within j e) (free element)) (same element)) (same element))
        ∙ ap (λ (t : Bool). cond t None (Some (row_pair row))) (not-true (has_tomb (blocks_in graph order) key (id_text row.cid.0)) found.1)

    kept_within : (row : ElementRow) → In row (last_rows rows) → In (block_in graph row.cid) (blocks_in graph order)
    kept_within row i =
        let from = origin (blocks_in graph order) key row (back row (last_in (reverse rows) row i)).0 in
        let own : block_in graph row.cid ≡ from.block = ap (block_in graph) (ap (λ (r : ElementRow). r.cid) from.is) ∙ is_own graph order from.block from.within in
        subst (λ (b : Block). In b (blocks_in graph order)) (sym own) from.within

    to_pairs : (test : Pair → Bool) → list_any test (map row_pair (last_rows rows)) ≡ true → list_any test (filter_map (pair_in (blocks_in graph order) key) (blocks_in graph order)) ≡ true
    to_pairs test e =
        let found = in_from_any test (map row_pair (last_rows rows)) e in
        let made = from_map row_pair found.item (last_rows rows) found.within in
        let gives : pair_in (blocks_in graph order) key (block_in graph made.item.cid) ≡ Some found.item = kept_pair made.item made.within ∙ ap (λ (z : Pair). Some z) (sym made.is) in
        any_from_in test found.item (filter_map (pair_in (blocks_in graph order) key) (blocks_in graph order))
        (in_filter_map (pair_in (blocks_in graph order) key) (block_in graph made.item.cid) found.item (blocks_in graph order) (kept_within made.item made.within) gives) found.passes

    from_pairs : (test : Pair → Bool) → list_any test (filter_map (pair_in (blocks_in graph order) key) (blocks_in graph order)) ≡ true → list_any test (map row_pair (last_rows rows)) ≡ true
    from_pairs test e =
        let found = in_from_any test (filter_map (pair_in (blocks_in graph order) key) (blocks_in graph order)) e in
        let given = from_filter_map (pair_in (blocks_in graph order) key) found.item (blocks_in graph order) found.within in
        let block : Block = given.item in
        let element = element_of_pair (blocks_in graph order) key block found.item given.gives in
        let free : shown (element_row block element.0) ≡ true = shown_of_pair (blocks_in graph order) key block found.item given.gives in
        let last = last_there (reverse rows) (element_row block element.0) (forth (element_row block element.0) (has_row (blocks_in graph order) key block element.0 given.within element.1 element.2) free) in
        let row : ElementRow = last.0 in
        let cid : row.cid ≡ block.cid = (block_of row (element_row block element.0) last.2).1 in
        let own : block_in graph row.cid ≡ block = ap (block_in graph) cid ∙ is_own graph order block given.within in
        let same : row_pair row ≡ found.item = some_same (row_pair row) found.item (sym (kept_pair row last.1) ∙ ap (pair_in (blocks_in graph order) key) own ∙ given.gives) in
        any_from_in test (row_pair row) (map row_pair (last_rows rows)) (in_map row_pair row (last_rows rows) last.1) (ap test same ∙ found.passes)
      where
        some_same : (x y : Pair) → Some x ≡ Some y → x ≡ y
        some_same x y e = cc

    taken_members : SameMembers (map row_pair (last_rows rows)) (filter_map (pair_in (blocks_in graph order) key) (blocks_in graph order))
    taken_members = record { same = λ test. same_truth _ _ (to_pairs test) (from_pairs test) }

swapped : (a b : Bool) → (a || (b || false)) ≡ (b || a)
swapped true true = refl
swapped true false = refl
swapped false true = refl
swapped false false = refl

any_reverse : (test : ElementRow → Bool) (rows : List ElementRow) → list_any test rows ≡ list_any test (reverse rows)
any_reverse test [] = refl
any_reverse test (row ∷ rows) =
    ap (λ rest. test row || rest) (any_reverse test rows) ∙ sym (swapped (list_any test (reverse rows)) (test row))
    ∙ sym (list_any-append test (reverse rows) (row ∷ [])) ∙ ap (list_any test) (sym (reverse_cons row rows))

-- what is read of a keeper that tells
pub taken_told : (told : Option Kept) (key : List ℕ) (rows : List ElementRow) (live done : List Pair)
    → IfSome told (λ kept. Ascends element_cmp rows (live_element_rows (processed kept) key))
    → live ≡ map row_pair (last_rows rows)
    → Ascends pair_cmp done live
    → IfSome told (λ kept. done ≡ pairs (processed kept) key)
taken_told None key rows live done a l d = a
taken_told (Some kept) key rows live done a l d =
    let members = taken_members kept.graph kept.order key rows a (record { same = λ test. any_reverse test rows }) in
    ascends_is pair_cmp pair_total pair_tied done (filter_map (pair_in (processed kept) key) (processed kept)) (record {
      sorted = d.sorted;
      members = record { same = λ test. d.members.same test ∙ ap (list_any test) l ∙ members.same test };
    })
