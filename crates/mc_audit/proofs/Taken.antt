-- The blocks that are taken in the order of table 1, against those of table 2 in its order.
use Rattle.std.proofs.Common.{◌≡◌, ℕ, ◌+◌, Bool, true, false, cond, not, List, [], ◌∷◌, ◌++◌, length, map, ◌||◌, ◌&&◌, Option, Some, None, sym, refl, ap, ◌∙◌, subst}
use Rattle.std.specs.Prelude.{filter, find, ◌≢◌, nat_eq}
use Rattle.std.specs.Option.{option_map}
use Rattle.std.specs.List.{list_any, AllByRecursion}
use Rattle.std.specs.Ordering.{nat_cmp}
use Rattle.std.specs.Cmp.Lexicographic.{slice_cmp}
use Rattle.std.specs.Str.{bytes_eq}
use Rattle.std.specs.declared.cmp.Ordering.TheVariants.{Less, Equal}
use Rattle.std.proofs.lemmas.Bool.{and_parts}
use Rattle.std.proofs.Math.Bool.{and-false, or-false}
use Rattle.std.proofs.lemmas.Cmp.{nat_list_cmp_total, tied_itself}
use Rattle.std.proofs.lemmas.Slice.Eq.{bytes_eq-Decides}
use Rattle.mc_base.specs.Cid.{digest_of}
use Rattle.mc_base.specs.declared.cid.Cid.{Cid}
use Rattle.mc_base.proofs.Digest.{digest_length}
use Rattle.mc_base.proofs.Orders.{less_is}
use Rattle.mc_model.specs.declared.block.Block.{Block}
use Rattle.mc_model.specs.Front.{same_cid, is_among}
use Rattle.mc_model.specs.Kept.{block_in, blocks_in, block_under}
use Rattle.mc_model.specs.declared.block.Stored.{Stored}
use Rattle.mc_model.specs.Offer.{is_good, block_of}
use Rattle.mc_model.specs.SameMembers.{SameMembers}
use Rattle.mc_model.proofs.Blocks.{block_in_cid}
use Rattle.mc_model.proofs.Counts.{cid_is, same_cid-symm}
use Rattle.mc_model.proofs.Found.{good_digest}
use Rattle.mc_model.proofs.Members.{list_any-map, list_any-filter}
use Rattle.mc_raw.specs.declared.raw.Row.{Row}
use Rattle.mc_raw.specs.Raw.{has_row, is_row_of}
use Rattle.mc_audit.specs.Checks.{AreCids, Marks, block_in_row, marked_blocks}
use Rattle.mc_audit.specs.Rows.{cid_in, stored_in}
use Rattle.mc_audit.specs.Sound.{is_above, is_block, block_break, is_place, place_break}

-- Rows of table 1 that are right.

-- each is above the one before, and has 32 bytes
abbrev Over : Cid → List Row → Type 0
Over cid rows = AllByRecursion (λ (row : Row). slice_cmp nat_cmp cid.0 row.a ≡ Less) rows

abbrev pub Digests : List Row → Type 0
Digests rows = AllByRecursion (λ (row : Row). length row.a ≡ 32) rows

abbrev pub Ascend : List Row → Type 0
Ascend [] = AllByRecursion (λ (row : Row). length row.a ≡ 32) []
Ascend (row ∷ rows) = Over (cid_in row) rows × Ascend rows

-- of a walk that found no break, the first row passed
step : (t : Bool) (more : Option ℕ) (at : ℕ) → cond t more (Some at) ≡ None → (t ≡ true) × (more ≡ None)
step true more at e = (refl, e)
step false more at e = absurd (let f : Some at ≡ None = e in cc)

over_all : (cid : Cid) (at : ℕ) (last : Cid) (rows : List Row) → slice_cmp nat_cmp cid.0 last.0 ≡ Less → block_break at (Some last) rows ≡ None → Over cid rows
over_all cid at last [] low e = tt {0}
over_all cid at last (row ∷ rows) low e =
    let passed = step (is_block (Some last) row) (block_break (at + 1) (Some (cid_in row)) rows) at e in
    let above = and_parts (is_above (Some last) (cid_in row)) (is_good (cid_in row) row.b) passed.0 in
    let here : slice_cmp nat_cmp cid.0 row.a ≡ Less = nat_list_cmp_total.trans cid.0 last.0 row.a low (less_is _ above.0) in
    (here, over_all cid (at + 1) (cid_in row) rows here passed.1)

over_next : (at : ℕ) (last : Cid) (rows : List Row) → block_break at (Some last) rows ≡ None → Over last rows
over_next at last [] e = tt {0}
over_next at last (row ∷ rows) e =
    let passed = step (is_block (Some last) row) (block_break (at + 1) (Some (cid_in row)) rows) at e in
    let above = and_parts (is_above (Some last) (cid_in row)) (is_good (cid_in row) row.b) passed.0 in
    (less_is _ above.0, over_all last (at + 1) (cid_in row) rows (less_is _ above.0) passed.1)

pub ascend_all : (at : ℕ) (last : Option Cid) (rows : List Row) → block_break at last rows ≡ None → Ascend rows
ascend_all at last [] e = tt {0}
ascend_all at last (row ∷ rows) e =
    let passed = step (is_block last row) (block_break (at + 1) (Some (cid_in row)) rows) at e in
    (over_next (at + 1) (cid_in row) rows passed.1, ascend_all (at + 1) (Some (cid_in row)) rows passed.1)

pub digests_all : (at : ℕ) (last : Option Cid) (rows : List Row) → block_break at last rows ≡ None → Digests rows
digests_all at last [] e = tt {0}
digests_all at last (row ∷ rows) e =
    let passed = step (is_block last row) (block_break (at + 1) (Some (cid_in row)) rows) at e in
    let good = and_parts (is_above last (cid_in row)) (is_good (cid_in row) row.b) passed.0 in
    let own : digest_of row.b ≡ row.a = (bytes_eq-Decides (digest_of row.b) row.a).0 (good_digest (cid_in row) row.b good.1) in
    (sym (ap length own) ∙ digest_length row.b, digests_all (at + 1) (Some (cid_in row)) rows passed.1)

-- no row has an identifier of another length
pub none_of : (rows : List Row) → Digests rows → (cid : Cid) → length cid.0 ≢ 32 → has_row rows cid ≡ false
none_of [] all cid other = refl
none_of (row ∷ rows) all cid other =
    ap (λ t. t || has_row rows cid) (unlike (bytes_eq row.a cid.0) (bytes_eq-Decides row.a cid.0).0) ∙ none_of rows all.1 cid other
  where
    unlike : (t : Bool) → (t ≡ true → row.a ≡ cid.0) → t ≡ false
    unlike true same = absurd (other (sym (ap length (same refl)) ∙ all.0))
    unlike false same = refl

-- Tests of the row of an identifier.

none_over : (cid : Cid) (rows : List Row) → Over cid rows → has_row rows cid ≡ false
none_over cid [] over = refl
none_over cid (row ∷ rows) over =
    ap (λ t. t || has_row rows cid) (unlike (bytes_eq row.a cid.0) (bytes_eq-Decides row.a cid.0).0) ∙ none_over cid rows over.1
  where
    unlike : (t : Bool) → (t ≡ true → row.a ≡ cid.0) → t ≡ false
    unlike true same = absurd (let f : Equal ≡ Less = sym (tied_itself nat_list_cmp_total cid.0) ∙ ap (slice_cmp nat_cmp cid.0) (sym (same refl)) ∙ over.0 in cc)
    unlike false same = refl

abbrev row_test : (Block → Bool) → Cid → Row → Bool
row_test test cid row = is_row_of cid row && test (block_in_row row)

no_row_test : (test : Block → Bool) (cid : Cid) (rows : List Row) → has_row rows cid ≡ false → list_any (row_test test cid) rows ≡ false
no_row_test test cid [] none = refl
no_row_test test cid (row ∷ rows) none =
    elim (is_row_of cid row) as (λ t. (t || has_row rows cid) ≡ false → ((t && test (block_in_row row)) || list_any (row_test test cid) rows) ≡ false) [
      | true ↦ λ e. absurd (let f : true ≡ false = e in cc)
      | false ↦ λ e. no_row_test test cid rows e
    ] none

-- the row of an identifier is the one that the graph gives
row_test_is : (test : Block → Bool) (cid : Cid) (rows : List Row) → Ascend rows → list_any (row_test test cid) rows ≡ (has_row rows cid && test (block_in (map stored_in rows) cid))
row_test_is test cid [] ascend = refl
row_test_is test cid (row ∷ rows) ascend =
    elim (same_cid cid (cid_in row)) as (λ s. same_cid cid (cid_in row) ≡ s →
    list_any (row_test test cid) (row ∷ rows) ≡ (has_row (row ∷ rows) cid && test (block_under cid (option_map (λ (stored : Stored). stored.bytes) (cond s (Some (stored_in row)) (find (λ (stored : Stored). same_cid cid stored.cid) (map stored_in rows))))))) [
      | true ↦ λ s.
          let own : cid ≡ cid_in row = cid_is cid (cid_in row) s in
          let rest : list_any (row_test test cid) rows ≡ false =
          no_row_test test cid rows (none_over cid rows (subst (λ (c : Cid). Over c rows) (sym own) ascend.0)) in
          let here : is_row_of cid row ≡ true = same_cid-symm (cid_in row) cid ∙ s in
          ap (λ t. (t && test (block_in_row row)) || list_any (row_test test cid) rows) here
          ∙ ap (λ t. test (block_in_row row) || t) rest ∙ or-false (test (block_in_row row))
          ∙ ap (λ (c : Cid). test (block_of c row.b)) (sym own)
          ∙ sym (ap (λ t. (t || has_row rows cid) && test (block_of cid row.b)) here)
      | false ↦ λ s.
          let not_here : is_row_of cid row ≡ false = same_cid-symm (cid_in row) cid ∙ s in
          ap (λ t. (t && test (block_in_row row)) || list_any (row_test test cid) rows) not_here
          ∙ row_test_is test cid rows ascend.1
          ∙ sym (ap (λ t. (t || has_row rows cid) && test (block_in (map stored_in rows) cid)) not_here)
    ] refl

-- Tests over two lists.

either : {A : Type 0} (p q : A → Bool) (xs : List A) → list_any (λ x. p x || q x) xs ≡ (list_any p xs || list_any q xs)
either p q [] = refl
either p q (x ∷ xs) = ap (λ rest. (p x || q x) || rest) (either p q xs) ∙ mixed (p x) (q x) (list_any p xs) (list_any q xs)
  where
    mixed : (a b c d : Bool) → ((a || b) || (c || d)) ≡ ((a || c) || (b || d))
    mixed true b c d = refl
    mixed false true true d = refl
    mixed false true false d = refl
    mixed false false c d = refl

nothing : {A : Type 0} (xs : List A) → false ≡ list_any (λ x. false) xs
nothing [] = refl
nothing (x ∷ xs) = nothing xs

swapped : {A B : Type 0} (p : A → B → Bool) (xs : List A) (ys : List B) → list_any (λ x. list_any (p x) ys) xs ≡ list_any (λ y. list_any (λ x. p x y) xs) ys
swapped p [] ys = nothing ys
swapped p (x ∷ xs) ys = ap (λ rest. list_any (p x) ys || rest) (swapped p xs ys) ∙ sym (either (p x) (λ y. list_any (λ x. p x y) xs) ys)

taken_out : {A : Type 0} (p : A → Bool) (t : Bool) (xs : List A) → list_any (λ x. p x && t) xs ≡ (list_any p xs && t)
taken_out p t [] = refl
taken_out p t (x ∷ xs) = ap (λ rest. (p x && t) || rest) (taken_out p t xs) ∙ joined (p x) t (list_any p xs)
  where
    joined : (a b c : Bool) → ((a && b) || (c && b)) ≡ ((a || c) && b)
    joined true true c = refl
    joined true false true = refl
    joined true false false = refl
    joined false b c = refl

agree_on : {A : Type 0} (p q : A → Bool) (xs : List A) → AllByRecursion (λ x. p x ≡ q x) xs → list_any p xs ≡ list_any q xs
agree_on p q [] all = refl
agree_on p q (x ∷ xs) all = ap (λ t. t || list_any p xs) all.0 ∙ ap (λ rest. q x || rest) (agree_on p q xs all.1)

-- The rows of table 2 are all of rows of table 1.

abbrev pub AllStored : List Row → List Row → Type 0
AllStored rows marks = AllByRecursion (λ (mark : Row). has_row rows (cid_in mark) ≡ true) marks

pub stored_all : (rows : List Row) (at : ℕ) (seen : List Cid) (marks : List Row) → place_break (has_row rows) at seen marks ≡ None → AllStored rows marks
stored_all rows at seen [] e = tt {0}
stored_all rows at seen (mark ∷ marks) e =
    let passed = step (is_place (has_row rows) at seen mark) (place_break (has_row rows) (at + 1) (seen ++ cid_in mark ∷ []) marks) at e in
    let right = and_parts (nat_eq mark.n at) (has_row rows (cid_in mark) && not (is_among seen (cid_in mark))) passed.0 in
    ((and_parts (has_row rows (cid_in mark)) (not (is_among seen (cid_in mark))) right.1).0, stored_all rows (at + 1) (seen ++ cid_in mark ∷ []) marks passed.1)

module _ (rows marks : List Row) (marked : List Cid) (ascend : Ascend rows) (digests : Digests rows) (stored : AllStored rows marks) (cids : AreCids marked marks) where
  known : (test : Block → Bool) (more : List Row) → AllStored rows more
      → AllByRecursion (λ (mark : Row). test (block_in (map stored_in rows) (cid_in mark)) ≡ list_any (row_test test (cid_in mark)) rows) more
  known test [] all = tt {0}
  known test (mark ∷ more) all =
      (sym (row_test_is test (cid_in mark) rows ascend ∙ ap (λ t. t && test (block_in (map stored_in rows) (cid_in mark))) all.0), known test more all.1)

  marked_rows : (test : Block → Bool) (more : List Row) → Digests more
      → AllByRecursion (λ (row : Row). list_any (λ (mark : Row). row_test test (cid_in mark) row) marks ≡ (is_among marked (cid_in row) && test (block_in_row row))) more
  marked_rows test [] all = tt {0}
  marked_rows test (row ∷ more) all = (
    taken_out (λ (mark : Row). is_row_of (cid_in mark) row) (test (block_in_row row)) marks
        ∙ ap (λ t. t && test (block_in_row row)) (agree_on (λ (mark : Row). is_row_of (cid_in mark) row) (is_row_of (cid_in row)) marks (turned marks) ∙ sym (cids (cid_in row) all.0)),
    marked_rows test more all.1,
  )
    where
      turned : (some : List Row) → AllByRecursion (λ (mark : Row). is_row_of (cid_in mark) row ≡ is_row_of (cid_in row) mark) some
      turned [] = tt {0}
      turned (mark ∷ some) = (same_cid-symm (cid_in row) (cid_in mark), turned some)

  -- the same blocks in two orders
  pub taken_members : SameMembers (blocks_in (map stored_in rows) (map cid_in marks)) (marked_blocks marked rows)
  taken_members = record {
    same = λ test.
        list_any-map test (block_in (map stored_in rows)) (map cid_in marks)
        ∙ list_any-map (λ (cid : Cid). test (block_in (map stored_in rows) cid)) cid_in marks
        ∙ agree_on (λ (mark : Row). test (block_in (map stored_in rows) (cid_in mark))) (λ (mark : Row). list_any (row_test test (cid_in mark)) rows) marks (known test marks stored)
        ∙ swapped (λ (mark : Row). row_test test (cid_in mark)) marks rows
        ∙ agree_on (λ (row : Row). list_any (λ (mark : Row). row_test test (cid_in mark) row) marks) (λ (row : Row). is_among marked (cid_in row) && test (block_in_row row)) rows (marked_rows test rows digests)
        ∙ sym (list_any-filter (λ (row : Row). test (block_in_row row)) (λ (row : Row). is_among marked (cid_in row)) rows)
        ∙ sym (list_any-map test block_in_row (filter (λ (row : Row). is_among marked (cid_in row)) rows));
  }

  -- an identifier is marked where a block that is taken has it
  pub taken_marks : Marks marked (marked_blocks marked rows)
  taken_marks cid digest =
      cids cid digest
      ∙ sym (list_any-map (same_cid cid) cid_in marks ∙ turned marks)
      ∙ sym (ap (λ t. t) (list_any-map (λ (block : Block). same_cid cid block.cid) (block_in (map stored_in rows)) (map cid_in marks) ∙ named (map cid_in marks)))
      ∙ taken_members.same (λ (block : Block). same_cid cid block.cid)
    where
      turned : (some : List Row) → list_any (λ (mark : Row). same_cid cid (cid_in mark)) some ≡ has_row some cid
      turned [] = refl
      turned (mark ∷ some) = ap (λ t. t || list_any (λ (mark : Row). same_cid cid (cid_in mark)) some) (same_cid-symm cid (cid_in mark)) ∙ ap (λ rest. is_row_of cid mark || rest) (turned some)

      named : (some : List Cid) → list_any (λ (c : Cid). same_cid cid (block_in (map stored_in rows) c).cid) some ≡ list_any (same_cid cid) some
      named [] = refl
      named (c ∷ some) = ap (λ (d : Cid). same_cid cid d || list_any (λ (c : Cid). same_cid cid (block_in (map stored_in rows) c).cid) some) (block_in_cid (map stored_in rows) c) ∙ ap (λ rest. same_cid cid c || rest) (named some)

-- a row whose digest hasn't 32 bytes is no block
pub not_block : (last : Option Cid) (row : Row) → length row.a ≢ 32 → is_block last row ≡ false
not_block last row other =
    ap (λ t. is_above last (cid_in row) && t) (no_good (is_good (cid_in row) row.b) (good_digest (cid_in row) row.b)) ∙ and-false (is_above last (cid_in row))
  where
    no_good : (t : Bool) → (t ≡ true → bytes_eq (digest_of row.b) row.a ≡ true) → t ≡ false
    no_good true same =
        let own : digest_of row.b ≡ row.a = (bytes_eq-Decides (digest_of row.b) row.a).0 (same refl) in
        absurd (other (sym (ap length own) ∙ digest_length row.b))
    no_good false same = refl
