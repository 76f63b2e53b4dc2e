-- There is no first difference exactly where each sentence holds.
use Rattle.std.proofs.Common.{◌≡◌, ℕ, ◌+◌, Bool, true, false, cond, not, List, [], ◌∷◌, ◌++◌, map, ◌||◌, ◌&&◌, Option, Some, None, ◌⊎◌, inl, inr, sym, refl, ap, ◌∙◌}
use Rattle.std.specs.Prelude.{nat_eq}
use Rattle.std.specs.List.{list_any, AllByRecursion}
use Rattle.std.specs.List.Sorted.{IsStrictlySortedBy}
use Rattle.std.specs.Ordering.{nat_cmp, on, is_eq, is_lt}
use Rattle.std.specs.Cmp.{Equal-is}
use Rattle.std.specs.Cmp.Lexicographic.{slice_cmp}
use Rattle.std.specs.declared.cmp.Ordering.TheVariants.{Less}
use Rattle.std.proofs.Math.Bool.{or-false}
use Rattle.std.proofs.lemmas.Bool.{and_parts, and_from, or_parts, or_from, or_cases, eqb-true, eq-eqb}
use Rattle.std.proofs.lemmas.Cmp.{tied_itself}
use Rattle.std.proofs.lemmas.List.Folds.{list_any-append}
use Rattle.mc_base.specs.declared.cid.Cid.{Cid}
use Rattle.mc_model.specs.Ascending.{is_once}
use Rattle.mc_model.specs.Front.{same_cid, is_among}
use Rattle.mc_model.specs.Offer.{is_good}
use Rattle.mc_model.proofs.Counts.{same_cid-symm}
use Rattle.mc_raw.specs.declared.raw.Row.{Row}
use Rattle.mc_raw.specs.Raw.{Tables, has_row}
use Rattle.mc_raw.specs.RowOrder.{row_cmp, row_total}
use Rattle.mc_raw.specs.RowTables.{element_table, tomb_table, value_table, winner_table, head_table, link_table}
use Rattle.mc_audit.specs.declared.verdict.Place.{Place}
use Rattle.mc_audit.specs.Rows.{same_row, cid_in, blocks_of}
use Rattle.mc_audit.specs.Sound.{is_above, is_block, block_break, is_place, place_break, rows_break, is_mark, mark_break, has_gap, in_table, or_then, line_break, value_break, front_break, first_break}
use Rattle.mc_audit.proofs.Sorts.{row_tied}
use Rattle.mc_audit.proofs.Taken.{Ascend, ascend_all, stored_all}
use Rattle.mc_audit.specs.Laws.{AreFrom, AreSound}

step : (t : Bool) (more : Option ℕ) (at : ℕ) → cond t more (Some at) ≡ None → (t ≡ true) × (more ≡ None)
step true more at e = (refl, e)
step false more at e = absurd (let f : Some at ≡ None = e in cc)

-- table 1

abbrev AreGood : List Row → Type 0
AreGood rows = AllByRecursion (λ (row : Row). is_good (cid_in row) row.b ≡ true) rows

abbrev AreAscending : List Row → Type 0
AreAscending rows = IsStrictlySortedBy (on (λ (row : Row). row.a) (slice_cmp nat_cmp)) rows

good_all : (at : ℕ) (last : Option Cid) (rows : List Row) → block_break at last rows ≡ None → AreGood rows
good_all at last [] e = tt {0}
good_all at last (row ∷ rows) e =
    let passed = step (is_block last row) (block_break (at + 1) (Some (cid_in row)) rows) at e in
    ((and_parts (is_above last (cid_in row)) (is_good (cid_in row) row.b) passed.0).1, good_all (at + 1) (Some (cid_in row)) rows passed.1)

ascending_all : (rows : List Row) → Ascend rows → AreAscending rows
unfolding IsStrictlySortedBy
ascending_all [] s = tt {0}
ascending_all (row ∷ rows) s = (s.0, ascending_all rows s.1)

abbrev IsBelow : Option Cid → List Row → Type 0
IsBelow None rows = AllByRecursion (λ (row : Row). true ≡ true) []
IsBelow (Some last) rows = AllByRecursion (λ (row : Row). slice_cmp nat_cmp last.0 row.a ≡ Less) rows

no_block_break : (at : ℕ) (last : Option Cid) (rows : List Row) → AreGood rows → AreAscending rows → IsBelow last rows → block_break at last rows ≡ None
unfolding IsStrictlySortedBy
no_block_break at last [] good sorted low = refl
no_block_break at last (row ∷ rows) good sorted low =
    ap (λ t. cond t (block_break (at + 1) (Some (cid_in row)) rows) (Some at)) (and_from (is_above last (cid_in row)) (is_good (cid_in row) row.b) (above last low) good.0)
    ∙ no_block_break (at + 1) (Some (cid_in row)) rows good.1 sorted.1 sorted.0
  where
    above : (last : Option Cid) → IsBelow last (row ∷ rows) → is_above last (cid_in row) ≡ true
    above None low = refl
    above (Some last) low = ap is_lt low.0

-- table 2

abbrev NotIn : List Cid → List Row → Type 0
NotIn seen marks = AllByRecursion (λ (mark : Row). is_among seen (cid_in mark) ≡ false) marks

none_of : (b : Bool) → not b ≡ true → b ≡ false
none_of true e = absurd (let f : false ≡ true = e in cc)
none_of false e = refl

split_in : (seen : List Cid) (c : Cid) (marks : List Row) → NotIn (seen ++ c ∷ []) marks → NotIn seen marks × (list_any (same_cid c) (map cid_in marks) ≡ false)
split_in seen c [] n = (tt {0}, refl)
split_in seen c (mark ∷ marks) n =
    let parts = or_parts (is_among seen (cid_in mark)) (is_among (c ∷ []) (cid_in mark)) (sym (list_any-append (same_cid (cid_in mark)) seen (c ∷ [])) ∙ n.0) in
    let more = split_in seen c marks n.1 in
    ((parts.0, more.0), or_from (same_cid c (cid_in mark)) (list_any (same_cid c) (map cid_in marks)) (same_cid-symm c (cid_in mark) ∙ sym (or-false (same_cid (cid_in mark) c)) ∙ parts.1) more.1)

join_in : (seen : List Cid) (c : Cid) (marks : List Row) → NotIn seen marks → list_any (same_cid c) (map cid_in marks) ≡ false → NotIn (seen ++ c ∷ []) marks
join_in seen c [] n e = tt {0}
join_in seen c (mark ∷ marks) n e =
    let parts = or_parts (same_cid c (cid_in mark)) (list_any (same_cid c) (map cid_in marks)) e in (
      list_any-append (same_cid (cid_in mark)) seen (c ∷ []) ∙ or_from (is_among seen (cid_in mark)) (is_among (c ∷ []) (cid_in mark)) n.0 (or-false (same_cid (cid_in mark) c) ∙ same_cid-symm (cid_in mark) c ∙ parts.0),
      join_in seen c marks n.1 parts.1,
    )

places_all : (stored : Cid → Bool) (at : ℕ) (seen : List Cid) (marks : List Row) → place_break stored at seen marks ≡ None → AreFrom at marks × NotIn seen marks × (is_once same_cid (map cid_in marks) ≡ true)
places_all stored at seen [] e = (refl, tt {0}, refl)
places_all stored at seen (mark ∷ marks) e =
    let passed = step (is_place stored at seen mark) (place_break stored (at + 1) (seen ++ cid_in mark ∷ []) marks) at e in
    let right = and_parts (nat_eq mark.n at) (stored (cid_in mark) && not (is_among seen (cid_in mark))) passed.0 in
    let fresh = and_parts (stored (cid_in mark)) (not (is_among seen (cid_in mark))) right.1 in
    let more = places_all stored (at + 1) (seen ++ cid_in mark ∷ []) marks passed.1 in
    let parts = split_in seen (cid_in mark) marks more.1 in
    ((eqb-true mark.n at right.0, more.0), (none_of (is_among seen (cid_in mark)) fresh.1, parts.0), and_from (not (list_any (same_cid (cid_in mark)) (map cid_in marks))) (is_once same_cid (map cid_in marks)) (ap not parts.1) more.2)

no_place_break : (stored : Cid → Bool) (at : ℕ) (seen : List Cid) (marks : List Row) → AreFrom at marks → AllByRecursion (λ (mark : Row). stored (cid_in mark) ≡ true) marks → NotIn seen marks → is_once same_cid (map cid_in marks) ≡ true
    → place_break stored at seen marks ≡ None
no_place_break stored at seen [] from held n once = refl
no_place_break stored at seen (mark ∷ marks) from held n once =
    let parts = and_parts (not (list_any (same_cid (cid_in mark)) (map cid_in marks))) (is_once same_cid (map cid_in marks)) once in
    ap (λ t. cond t (place_break stored (at + 1) (seen ++ cid_in mark ∷ []) marks) (Some at))
    (and_from (nat_eq mark.n at) (stored (cid_in mark) && not (is_among seen (cid_in mark))) (eq-eqb mark.n at from.0)
    (and_from (stored (cid_in mark)) (not (is_among seen (cid_in mark))) held.0 (ap not n.0)))
    ∙ no_place_break stored (at + 1) (seen ++ cid_in mark ∷ []) marks from.1 held.1 (join_in seen (cid_in mark) marks n.1 (none_of (list_any (same_cid (cid_in mark)) (map cid_in marks)) parts.0)) parts.1

-- tables 3 to 8

rows_same : (at : ℕ) (xs ys : List Row) → rows_break at xs ys ≡ None → xs ≡ ys
rows_same at [] [] e = refl
rows_same at [] (y ∷ ys) e = absurd (let f : Some at ≡ None = e in cc)
rows_same at (x ∷ xs) [] e = absurd (let f : Some at ≡ None = e in cc)
rows_same at (x ∷ xs) (y ∷ ys) e =
    let passed = step (same_row x y) (rows_break (at + 1) xs ys) at e in
    ap (λ z. z ∷ xs) (row_tied x y ((Equal-is (row_cmp x y)).0 passed.0)) ∙ ap (λ rest. y ∷ rest) (rows_same (at + 1) xs ys passed.1)

no_rows_break : (at : ℕ) (xs : List Row) → rows_break at xs xs ≡ None
no_rows_break at [] = refl
no_rows_break at (x ∷ xs) = ap (λ o. cond (is_eq o) (rows_break (at + 1) xs xs) (Some at)) (tied_itself row_total x) ∙ no_rows_break (at + 1) xs

same_no_break : (xs ys : List Row) → xs ≡ ys → rows_break 0 xs ys ≡ None
same_no_break xs ys e = ap (rows_break 0 xs) (sym e) ∙ no_rows_break 0 xs

-- table 9

abbrev IsRightMark : Bool → Row → Type 0
IsRightMark gap row = (row.n ≡ 1) ⊎ ((row.n ≡ 0) × (gap ≡ false))

right_mark : (gap : Bool) (row : Row) → is_mark gap row ≡ true → IsRightMark gap row
right_mark gap row e = elim (or_cases (nat_eq row.n 1) (nat_eq row.n 0 && not gap) e) [
  | inl one ↦ inl (eqb-true row.n 1 one)
  | inr zero ↦ let parts = and_parts (nat_eq row.n 0) (not gap) zero in inr (eqb-true row.n 0 parts.0, none_of gap parts.1)
]

mark_right : (gap : Bool) (row : Row) → IsRightMark gap row → is_mark gap row ≡ true
mark_right gap row (inl one) = ap (λ t. t || (nat_eq row.n 0 && not gap)) (eq-eqb row.n 1 one)
mark_right gap row (inr zero) = last (nat_eq row.n 1) (nat_eq row.n 0 && not gap) (and_from (nat_eq row.n 0) (not gap) (eq-eqb row.n 0 zero.0) (ap not zero.1))
  where
    last : (a b : Bool) → b ≡ true → (a || b) ≡ true
    last true b e = refl
    last false b e = e

mark_all : (gap : Bool) (rows : List Row) → mark_break gap rows ≡ None → (row : Row) × (rows ≡ row ∷ []) × IsRightMark gap row
mark_all gap [] e = absurd (let f : Some 0 ≡ None = e in cc)
mark_all gap (row ∷ []) e = (row, refl, right_mark gap row (turn (is_mark gap row) e))
  where
    turn : (t : Bool) → ◌≡◌ {A = Option ℕ} (cond t None (Some 0)) None → t ≡ true
    turn true e = refl
    turn false e = absurd (let f : Some 0 ≡ None = e in cc)
mark_all gap (row ∷ next ∷ rows) e = absurd (some (is_mark gap row) e)
  where
    some : (t : Bool) → ◌≡◌ {A = Option ℕ} (cond t (Some 1) (Some 0)) None → ⊥
    some true e = let f : ◌≡◌ {A = Option ℕ} (Some 1) None = e in cc
    some false e = let f : ◌≡◌ {A = Option ℕ} (Some 0) None = e in cc

no_mark_break : (gap : Bool) (rows : List Row) → (row : Row) × (rows ≡ row ∷ []) × IsRightMark gap row → mark_break gap rows ≡ None
no_mark_break gap rows found = ap (mark_break gap) found.1 ∙ ap (λ t. cond t None (Some 0)) (mark_right gap found.0 found.2)

-- all of them

both_none : (a b : Option Place) → or_then a b ≡ None → (a ≡ None) × (b ≡ None)
both_none None b e = (refl, e)
both_none (Some p) b e = absurd (let f : Some p ≡ None = e in cc)

nowhere : (table : ℕ) (found : Option ℕ) → in_table table found ≡ None → found ≡ None
nowhere table None e = refl
nowhere table (Some index) e = absurd (let f : Some (record { table = table; index = index }) ≡ None = e in cc)

then_none : (table : ℕ) (found : Option ℕ) (later : Option Place) → found ≡ None → later ≡ None → or_then (in_table table found) later ≡ None
then_none table found later e f = ap (λ z. or_then (in_table table z) later) e ∙ f

pub sound_from : (t : Tables) → first_break t ≡ None → AreSound t
sound_from t e =
    let one = both_none _ _ e in
    let two = both_none _ _ one.1 in
    let later = both_none (line_break t (blocks_of t)) _ two.1 in
    let lines = both_none _ _ later.0 in
    let rest = both_none (value_break t (blocks_of t)) _ later.1 in
    let values = both_none _ _ rest.0 in
    let front = both_none _ _ rest.1 in
    let last = both_none _ _ front.1 in
    let blocks = nowhere 1 (block_break 0 None (t 1)) one.0 in
    let places = nowhere 2 (place_break (has_row (t 1)) 0 [] (t 2)) two.0 in
    let all = places_all (has_row (t 1)) 0 [] (t 2) places in
    record {
      good = good_all 0 None (t 1) blocks;
      ascend = ascending_all (t 1) (ascend_all 0 None (t 1) blocks);
      positions = all.0;
      stored = stored_all (t 1) 0 [] (t 2) places;
      distinct = all.2;
      elements = rows_same 0 (t 3) (element_table (blocks_of t)) (nowhere 3 _ lines.0);
      tombs = rows_same 0 (t 4) (tomb_table (blocks_of t)) (nowhere 4 _ lines.1);
      values = rows_same 0 (t 5) (value_table (blocks_of t)) (nowhere 5 _ values.0);
      winners = rows_same 0 (t 6) (winner_table (blocks_of t)) (nowhere 6 _ values.1);
      heads = rows_same 0 (t 7) (head_table (blocks_of t)) (nowhere 7 _ front.0);
      links = rows_same 0 (t 8) (link_table (blocks_of t)) (nowhere 8 _ last.0);
      mark = mark_all (has_gap (blocks_of t)) (t 9) (nowhere 9 _ last.1);
    }

nothing_seen : (marks : List Row) → NotIn [] marks
nothing_seen [] = tt {0}
nothing_seen (mark ∷ marks) = (refl, nothing_seen marks)

pub from_sound : (t : Tables) → AreSound t → first_break t ≡ None
from_sound t s =
    then_none 1 (block_break 0 None (t 1)) _ (no_block_break 0 None (t 1) s.good s.ascend (tt {0}))
    (then_none 2 (place_break (has_row (t 1)) 0 [] (t 2)) _ (no_place_break (has_row (t 1)) 0 [] (t 2) s.positions s.stored (nothing_seen (t 2)) s.distinct)
    (ap (λ p. or_then p (or_then (value_break t (blocks_of t)) (front_break t (blocks_of t))))
    (then_none 3 _ _ (same_no_break (t 3) _ s.elements) (ap (in_table 4) (same_no_break (t 4) _ s.tombs)))
    ∙ ap (λ p. or_then p (front_break t (blocks_of t)))
    (then_none 5 _ _ (same_no_break (t 5) _ s.values) (ap (in_table 6) (same_no_break (t 6) _ s.winners)))
    ∙ then_none 7 _ _ (same_no_break (t 7) _ s.heads)
    (then_none 8 _ _ (same_no_break (t 8) _ s.links) (ap (in_table 9) (no_mark_break (has_gap (blocks_of t)) (t 9) s.mark)))))
