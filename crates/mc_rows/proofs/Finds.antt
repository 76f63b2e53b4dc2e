-- What a binary search finds in sorted rows.
use Rattle.std.proofs.Common.{◌≡◌, ℕ, zero, suc, ◌+◌, ◌-◌, ◌<◌, ◌≤◌, length, take, drop, get_or, Bool, true, false, cond, ◌&&◌, List, [], ◌∷◌, ◌⊎◌, inl, inr, sym, refl, ap, ◌∙◌, arith}
use Rattle.std.specs.Prelude.{filter, Result, Ok, Err}
use Rattle.std.specs.List.{list_any, AllWithin}
use Rattle.std.specs.List.Sorted.{IsStrictlySortedBy, IsSortedBy, IsNonDecreasingBy, IsPartitionedBy, IsPartitionPoint, IsBinarySearchResult, IsSearchInRange}
use Rattle.std.specs.Ordering.{is_lt, is_le, is_eq, ordering_index, ordering_reverse, ordering_then, nat_cmp}
use Rattle.std.specs.Result.{is_ok}
use Rattle.std.specs.Cmp.Lexicographic.{slice_cmp}
use Rattle.std.specs.Str.{bytes_eq}
use Rattle.std.specs.declared.cmp.Ordering.{Ordering}
use Rattle.std.specs.declared.cmp.Ordering.TheVariants.{Less, Equal, Greater}
use Rattle.std.proofs.lemmas.Bool.{cases_lt}
use Rattle.std.proofs.lemmas.List.{get_or_default}
use Rattle.std.proofs.lemmas.Cmp.{nat_list_cmp_total}
use Rattle.std.proofs.lemmas.List.Folds.{list_any_none, list_any-from_Any}
use Rattle.std.proofs.lemmas.List.Sorted.{searchable_from_sorted}
use Rattle.std.proofs.lemmas.Map.Keys.{Less-from_sorted}
use Rattle.std.proofs.lemmas.Map.Text.{is_eq-slice_cmp}
use Rattle.mc_model.proofs.Members.{list_any-map, any_agree}
use Rattle.mc_keep.specs.declared.rows.TombRow.{TombRow}
use Rattle.mc_keep.specs.Changes.{is_tomb_row, has_tomb_row}
use Rattle.mc_rows.specs.declared.elements.NewElement.{NewElement}
use Rattle.mc_rows.specs.declared.tombs.NewTomb.{NewTomb}
use Rattle.mc_rows.specs.Rows.{row_of, rows_of, tomb_of, tombs_of, new_element_cmp, new_tomb_cmp, new_tomb_total}
use Rattle.mc_rows.specs.Hiding.{has_tomb_of, rows_with}
use Rattle.mc_rows.specs.Places.{goes_before, IsPlace}

module _ {X : Type 0} where
  -- what an order tells of neighbours, a part of it tells too
  pub sorted_by_part : {K : Type 0} (cmp : X → X → Ordering) (part : K → K → Ordering) (key : X → K) → ((x y : X) → cmp x y ≡ Less → is_lt (part (key y) (key x)) ≡ false)
      → (xs : List X) → IsStrictlySortedBy cmp xs → IsSortedBy (λ a b. is_lt (part (key a) (key b))) xs
  sorted_by_part cmp part key below xs sorted = λ k d low high. below _ _ (Less-from_sorted cmp xs k (k + 1) d sorted (omega arith) high)

  none_equal : (ord : X → Ordering) (xs : List X) (i : ℕ) → IsPartitionPoint (λ y. ord y ≡ Less) (λ y. ord y ≡ Greater) xs i → list_any (λ y. is_eq (ord y)) xs ≡ false
  none_equal ord xs i point = list_any_none (λ y. is_eq (ord y)) xs (λ k d h. none k d h (cases_lt k i))
    where
      none : (k : ℕ) (d : X) → k < length xs → (k < i) ⊎ (i ≤ k) → is_eq (ord (get_or xs k d)) ≡ false
      none k d h (inl below) = ap is_eq (point.0 k d (omega arith) below)
      none k d h (inr above) = ap is_eq (point.1 k d above h)

  -- a search finds where an element is equal
  pub search_finds : (ord : X → Ordering) (xs : List X) (r : Result ℕ ℕ) → IsSearchInRange r (length xs) → IsBinarySearchResult ord xs r → IsNonDecreasingBy (λ y. ordering_index (ord y)) xs
      → is_ok r ≡ list_any (λ y. is_eq (ord y)) xs
  search_finds ord [] (Ok i) within found rising = absurd (omega (arith, within))
  search_finds ord (x ∷ xs) (Ok i) within found rising =
      sym (list_any-from_Any (λ y. is_eq (ord y)) (x ∷ xs) (i, get_or (x ∷ xs) i x, within, stays, ap is_eq (found x)))
    where
      stays : get_or (x ∷ xs) i (get_or (x ∷ xs) i x) ≡ get_or (x ∷ xs) i x
      stays = get_or_default (x ∷ xs) i (get_or (x ∷ xs) i x) x within
  search_finds ord xs (Err i) within found rising = sym (none_equal ord xs i (found rising))

  -- elements that all pass between two places, and not outside
  pub filter_between : (p : X → Bool) (xs : List X) (lo hi : ℕ) → lo ≤ hi → AllWithin (λ y. p y ≡ false) xs 0 lo → AllWithin (λ y. p y ≡ true) xs lo hi
      → AllWithin (λ y. p y ≡ false) xs hi (length xs) → drop lo (take hi xs) ≡ filter p xs
  filter_between p [] zero zero up before in' after = refl
  filter_between p [] zero (suc hi) up before in' after = refl
  filter_between p [] (suc lo) zero up before in' after = refl
  filter_between p [] (suc lo) (suc hi) up before in' after = refl
  filter_between p (x ∷ xs) zero zero up before in' after = filter_between p xs zero zero up (λ k d a b. absurd (omega (arith, b))) (λ k d a b. absurd (omega (arith, b))) (λ k d a b. after (suc k) d (omega arith) (omega (arith, b))) ∙ sym (ap (λ b. cond b (x ∷ filter p xs) (filter p xs)) (after 0 x (omega arith) (omega arith)))
  filter_between p (x ∷ xs) zero (suc hi) up before in' after =
      ap (λ rest. x ∷ rest) (filter_between p xs zero hi (omega arith) (λ k d a b. absurd (omega (arith, b))) (λ k d a b. in' (suc k) d (omega arith) (omega (arith, b))) (λ k d a b. after (suc k) d (omega (arith, a)) (omega (arith, b))))
      ∙ sym (ap (λ b. cond b (x ∷ filter p xs) (filter p xs)) (in' 0 x (omega arith) (omega arith)))
  filter_between p (x ∷ xs) (suc lo) zero up before in' after = absurd (omega (arith, up))
  filter_between p (x ∷ xs) (suc lo) (suc hi) up before in' after =
      filter_between p xs lo hi (omega (arith, up)) (λ k d a b. before (suc k) d (omega arith) (omega (arith, b))) (λ k d a b. in' (suc k) d (omega (arith, a)) (omega (arith, b))) (λ k d a b. after (suc k) d (omega (arith, a)) (omega (arith, b)))
      ∙ sym (ap (λ b. cond b (x ∷ filter p xs) (filter p xs)) (before 0 x (omega arith) (omega arith)))

eq_then : (a b : Ordering) → is_eq (ordering_then a b) ≡ (is_eq a && is_eq b)
eq_then Less b = refl
eq_then Equal b = refl
eq_then Greater b = refl

first_below : (a b : Ordering) → ordering_then a b ≡ Less → is_lt (ordering_reverse a) ≡ false
first_below Less b e = refl
first_below Equal b e = refl
first_below Greater b e = absurd (let no : false ≡ true = ap is_lt e in cc)

below_back : (o : Ordering) → o ≡ Less → is_lt (ordering_reverse o) ≡ false
below_back Less e = refl
below_back Equal e = refl
below_back Greater e = absurd (let no : false ≡ true = ap is_lt e in cc)

first_of_four : (a b c d : Ordering) → ordering_then (ordering_then (ordering_then a b) c) d ≡ Less → is_lt (ordering_reverse a) ≡ false
first_of_four Less b c d e = refl
first_of_four Equal b c d e = refl
first_of_four Greater b c d e = absurd (let no : false ≡ true = ap is_lt e in cc)

tomb_below : (x y : NewTomb) → new_tomb_cmp x y ≡ Less → is_lt (new_tomb_cmp y x) ≡ false
tomb_below x y e = ap is_lt (new_tomb_total.antisymm y x) ∙ below_back (new_tomb_cmp x y) e

tomb_key_below : (x y : NewTomb) → new_tomb_cmp x y ≡ Less → is_lt (slice_cmp nat_cmp y.key.now x.key.now) ≡ false
tomb_key_below x y e = ap is_lt (nat_list_cmp_total.antisymm y.key.now x.key.now) ∙ first_below (slice_cmp nat_cmp x.key.now y.key.now) (slice_cmp nat_cmp x.id.now y.id.now) e

element_key_below : (x y : NewElement) → new_element_cmp x y ≡ Less → is_lt (slice_cmp nat_cmp y.key.now x.key.now) ≡ false
element_key_below x y e = ap is_lt (nat_list_cmp_total.antisymm y.key.now x.key.now) ∙ first_of_four (slice_cmp nat_cmp x.key.now y.key.now) _ _ _ e

pub tomb_found : (tombs : List NewTomb) (sought : NewTomb) (r : Result ℕ ℕ) → IsStrictlySortedBy new_tomb_cmp tombs → IsSearchInRange r (length tombs) → IsBinarySearchResult (λ t. new_tomb_cmp t sought) tombs r
    → is_ok r ≡ has_tomb_row (tombs_of tombs) sought.key.now sought.id.now
tomb_found tombs sought r sorted within found =
    search_finds (λ t. new_tomb_cmp t sought) tombs r within found
    (searchable_from_sorted new_tomb_total (λ t. t) tombs sought (sorted_by_part new_tomb_cmp new_tomb_cmp (λ t. t) tomb_below tombs sorted))
    ∙ any_agree (λ t. is_eq (new_tomb_cmp t sought)) (λ t. is_tomb_row sought.key.now sought.id.now (tomb_of t)) same tombs
    ∙ sym (list_any-map (is_tomb_row sought.key.now sought.id.now) tomb_of tombs)
  where
    same : (t : NewTomb) → is_eq (new_tomb_cmp t sought) ≡ is_tomb_row sought.key.now sought.id.now (tomb_of t)
    same t =
        eq_then (slice_cmp nat_cmp t.key.now sought.key.now) (slice_cmp nat_cmp t.id.now sought.id.now)
        ∙ ap (λ b. b && is_eq (slice_cmp nat_cmp t.id.now sought.id.now)) (is_eq-slice_cmp t.key.now sought.key.now)
        ∙ ap (λ b. bytes_eq t.key.now sought.key.now && b) (is_eq-slice_cmp t.id.now sought.id.now)

pub tomb_key_found : (tombs : List NewTomb) (key : List ℕ) (r : Result ℕ ℕ) → IsStrictlySortedBy new_tomb_cmp tombs → IsSearchInRange r (length tombs)
    → IsBinarySearchResult (λ (t : NewTomb). slice_cmp nat_cmp t.key.now key) tombs r → is_ok r ≡ has_tomb_of (tombs_of tombs) key
tomb_key_found tombs key r sorted within found =
    search_finds (λ (t : NewTomb). slice_cmp nat_cmp t.key.now key) tombs r within found
    (searchable_from_sorted nat_list_cmp_total (λ (t : NewTomb). t.key.now) tombs key (sorted_by_part new_tomb_cmp (slice_cmp nat_cmp) (λ (t : NewTomb). t.key.now) tomb_key_below tombs sorted))
    ∙ any_agree (λ (t : NewTomb). is_eq (slice_cmp nat_cmp t.key.now key)) (λ (t : NewTomb). bytes_eq t.key.now key) (λ t. is_eq-slice_cmp t.key.now key) tombs
    ∙ sym (list_any-map (λ (row : TombRow). bytes_eq row.key key) tomb_of tombs)

lt_down : (o p : Ordering) → ordering_index o ≤ ordering_index p → is_lt p ≡ true → is_lt o ≡ true
lt_down Less p h e = refl
lt_down Equal Less h e = absurd (omega (arith, h))
lt_down Equal Equal h e = e
lt_down Equal Greater h e = e
lt_down Greater Less h e = absurd (omega (arith, h))
lt_down Greater Equal h e = e
lt_down Greater Greater h e = e

le_down : (o p : Ordering) → ordering_index o ≤ ordering_index p → is_le p ≡ true → is_le o ≡ true
le_down Less p h e = refl
le_down Equal p h e = refl
le_down Greater Less h e = absurd (omega (arith, h))
le_down Greater Equal h e = absurd (omega (arith, h))
le_down Greater Greater h e = e

lt_not_eq : (o : Ordering) → is_lt o ≡ true → is_eq o ≡ false
lt_not_eq Less e = refl
lt_not_eq Equal e = absurd (let no : false ≡ true = e in cc)
lt_not_eq Greater e = refl

between_eq : (o : Ordering) → is_lt o ≡ false → is_le o ≡ true → is_eq o ≡ true
between_eq Less e f = sym e
between_eq Equal e f = refl
between_eq Greater e f = f

above_not_eq : (o : Ordering) → is_le o ≡ false → is_eq o ≡ false
above_not_eq Less e = refl
above_not_eq Equal e = e
above_not_eq Greater e = refl

lt_then_le : (o : Ordering) → is_lt o ≡ true → is_le o ≡ true
lt_then_le Less e = refl
lt_then_le Equal e = refl
lt_then_le Greater e = e

map_filter : (key : List ℕ) (xs : List NewElement) → rows_of (filter (λ (e : NewElement). bytes_eq e.key.now key) xs) ≡ rows_with (rows_of xs) key
map_filter key [] = refl
map_filter key (x ∷ xs) =
    elim (bytes_eq x.key.now key) as (λ b. rows_of (cond b (x ∷ filter (λ (e : NewElement). bytes_eq e.key.now key) xs) (filter (λ (e : NewElement). bytes_eq e.key.now key) xs)) ≡ cond b (row_of x ∷ rows_with (rows_of xs) key) (rows_with (rows_of xs) key)) [
      | true ↦ ap (λ rest. row_of x ∷ rest) (map_filter key xs)
      | false ↦ map_filter key xs
    ]

module _ (xs : List NewElement) (key : List ℕ) (sorted : IsStrictlySortedBy new_element_cmp xs) where
  abbrev order : NewElement → Ordering
  order e = slice_cmp nat_cmp e.key.now key

  rising : IsNonDecreasingBy (λ e. ordering_index (order e)) xs
  rising = searchable_from_sorted nat_list_cmp_total (λ (e : NewElement). e.key.now) xs key (sorted_by_part new_element_cmp (slice_cmp nat_cmp) (λ (e : NewElement). e.key.now) element_key_below xs sorted)

  below_parted : IsPartitionedBy (λ (e : NewElement). is_lt (slice_cmp nat_cmp e.key.now key)) xs
  below_parted i j d up in' e = lt_down _ _ (rising i j d up in') e

  upto_parted : IsPartitionedBy (λ (e : NewElement). is_le (slice_cmp nat_cmp e.key.now key)) xs
  upto_parted i j d up in' e = le_down _ _ (rising i j d up in') e

-- so does each of both tests
pub parted : (xs : List NewElement) (key : List ℕ) (inclusive : Bool) → IsStrictlySortedBy new_element_cmp xs → IsPartitionedBy (goes_before inclusive key) xs
parted xs key true sorted = upto_parted xs key sorted
parted xs key false sorted = below_parted xs key sorted

-- a place that parts its neighbours parts all
pub place_here : (xs : List NewElement) (key : List ℕ) (inclusive : Bool) (at : ℕ) → IsStrictlySortedBy new_element_cmp xs → at ≤ length xs
    → ((d : NewElement) → 0 < at → goes_before inclusive key (get_or xs (at - 1) d) ≡ true)
    → ((d : NewElement) → at < length xs → goes_before inclusive key (get_or xs at d) ≡ false)
    → IsPlace xs key inclusive at
place_here xs key inclusive at sorted within before behind = (
  λ k d a b. parted xs key inclusive sorted k (at - 1) d (omega (arith, b)) (omega (arith, b, within)) (before d (omega (arith, b))),
  λ k d a b. rest k d a b (goes_before inclusive key (get_or xs k d)) refl,
)
  where
    rest : (k : ℕ) (d : NewElement) → at ≤ k → k < length xs → (b : Bool) → goes_before inclusive key (get_or xs k d) ≡ b → goes_before inclusive key (get_or xs k d) ≡ false
    rest k d a b false e = e
    rest k d a b true e =
        absurd (let no : true ≡ false = sym (parted xs key inclusive sorted at k d a b e) ∙ behind d (omega (arith, a, b)) in cc)

pub points_in_order : (xs : List NewElement) (key : List ℕ) (lo hi : ℕ) → lo ≤ length xs → IsPlace xs key false lo → IsPlace xs key true hi → lo ≤ hi
points_in_order xs key lo hi within below upto = in_order (cases_lt hi lo) xs within below upto
  where
    in_order : (hi < lo) ⊎ (lo ≤ hi) → (ys : List NewElement) → lo ≤ length ys → IsPlace ys key false lo → IsPlace ys key true hi → lo ≤ hi
    in_order (inr up) ys within below upto = up
    in_order (inl down) [] within below upto = absurd (omega (arith, within, down))
    in_order (inl down) (y ∷ ys) within below upto =
        absurd (let yes : true ≡ false = sym (lt_then_le _ (below.0 hi y (omega arith) down)) ∙ upto.1 hi y (omega arith) (omega (arith, within, down)) in cc)

pub elements_found : (xs : List NewElement) (key : List ℕ) (lo hi : ℕ) → lo ≤ length xs → hi ≤ length xs → IsPlace xs key false lo → IsPlace xs key true hi
    → rows_of (drop lo (take hi xs)) ≡ rows_with (rows_of xs) key
elements_found xs key lo hi within top below upto =
    ap rows_of (filter_between (λ (e : NewElement). bytes_eq e.key.now key) xs lo hi (points_in_order xs key lo hi within below upto)
    (λ k d a b. sym (is_eq-slice_cmp _ key) ∙ lt_not_eq _ (below.0 k d a b))
    (λ k d a b. sym (is_eq-slice_cmp _ key) ∙ between_eq _ (below.1 k d a (omega (arith, b, top))) (upto.0 k d (omega arith) b))
    (λ k d a b. sym (is_eq-slice_cmp _ key) ∙ above_not_eq _ (upto.1 k d a b)))
    ∙ map_filter key xs
