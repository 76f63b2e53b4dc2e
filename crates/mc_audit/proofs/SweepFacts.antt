-- What a sweep removes, one block after another.
use Rattle.std.proofs.Common.{◌≡◌, ℕ, zero, suc, ◌+◌, ◌<◌, ◌≤◌, Bool, true, false, cond, not, ◌||◌, ◌&&◌, ◌⊎◌, inl, inr, List, [], ◌∷◌, ◌++◌, map, length, take, get_or, Option, Some, None, sym, refl, ap, ◌∙◌, subst, arith}
use Rattle.std.specs.Prelude.{filter, fold, IfSome, ◌==◌, ◌≢◌, slice_get, Result, Ok, Err}
use Rattle.std.specs.List.{AllByRecursion}
use Rattle.std.specs.Str.{bytes_eq}
use Rattle.std.proofs.lemmas.Bool.{and_parts, eqb-true, eq-eqb}
use Rattle.std.proofs.Math.Bool.{and-false}
use Rattle.std.proofs.lemmas.List.Elements.{filter-append}
use Rattle.std.proofs.lemmas.List.{append-nil, map-append, take_all, take_more}
use Rattle.std.proofs.lemmas.Slice.Eq.{bytes_eq-Decides}
use Rattle.mc_base.specs.declared.cid.Cid.{Cid}
use Rattle.mc_base.specs.Told.{Told}
use Rattle.mc_model.specs.Front.{is_among}
use Rattle.mc_raw.specs.declared.raw.Row.{Row}
use Rattle.mc_raw.specs.Raw.{Tables, IsFree, IsWithout, without, has_row, is_row_of}
use Rattle.mc_audit.specs.Checks.{AreCids}
use Rattle.mc_audit.specs.Rows.{cid_in}
use Rattle.mc_audit.proofs.Steps.{take_at, row_past}
use Rattle.mc_audit.specs.Sweep.{is_free, free_cids, Drops, Sweeps}
use Rattle.mc_keep.specs.declared.error.KeepError.{KeepError}
use Rattle.mc_keep.specs.declared.error.KeepError.TheVariants.{Failed, Memory}
use Rattle.mc_keep.specs.Plan.{is_fault}
use Rattle.std.specs.Result.{is_err}

-- a row that isn't free is of no free block
not_row : (marks : List Row) (row : Row) → is_free marks row ≡ false → (rows : List Row) → AllByRecursion (λ (c : Cid). is_row_of c row ≡ false) (free_cids marks rows)
not_row marks row kept [] = tt {0}
not_row marks row kept (other ∷ rows) =
    elim (is_free marks other) as (λ t. is_free marks other ≡ t → AllByRecursion (λ (c : Cid). is_row_of c row ≡ false) (map cid_in (cond t (other ∷ filter (is_free marks) rows) (filter (is_free marks) rows)))) [
      | true ↦ λ e. (unlike (bytes_eq row.a other.a) (bytes_eq-Decides row.a other.a).0 e, not_row marks row kept rows)
      | false ↦ λ e. not_row marks row kept rows
    ] refl
  where
    unlike : (t : Bool) → (t ≡ true → row.a ≡ other.a) → is_free marks other ≡ true → t ≡ false
    unlike false same e = refl
    unlike true same e =
        absurd (let f : false ≡ true = sym kept ∙ ap (λ (a : List ℕ). (length a == 32) && not (has_row marks (record { 0 = a }))) (same refl) ∙ e in cc)

all_take : {X : Type 0} (P : X → Type 0) (n : ℕ) (xs : List X) → AllByRecursion P xs → AllByRecursion P (take n xs)
all_take P zero [] all = tt {0}
all_take P (suc n) [] all = tt {0}
all_take P zero (x ∷ xs) all = tt {0}
all_take P (suc n) (x ∷ xs) all = (all.0, all_take P n xs all.1)

-- removals pass such a row over
passed : (row : Row) (rows : List Row) (cids : List Cid) → AllByRecursion (λ (c : Cid). is_row_of c row ≡ false) cids → fold without (row ∷ rows) cids ≡ row ∷ fold without rows cids
passed row rows [] all = refl
passed row rows (c ∷ cids) all =
    ap (λ t. fold without (cond t rows (row ∷ without rows c)) cids) all.0 ∙ passed row (without rows c) cids all.1

-- the row of a block that is to be removed is there, whatever was removed before
pub there : (marks rows : List Row) (i : ℕ) (d : Cid) → i < length (free_cids marks rows) → has_row (fold without rows (take i (free_cids marks rows))) (get_or (free_cids marks rows) i d) ≡ true
there marks [] i d within = absurd (omega (arith, within))
there marks (row ∷ rows) i d within =
    elim (is_free marks row) as (λ t. is_free marks row ≡ t → i < length (map cid_in (cond t (row ∷ filter (is_free marks) rows) (filter (is_free marks) rows)))
    → has_row (fold without (row ∷ rows) (take i (map cid_in (cond t (row ∷ filter (is_free marks) rows) (filter (is_free marks) rows))))) (get_or (map cid_in (cond t (row ∷ filter (is_free marks) rows) (filter (is_free marks) rows))) i d) ≡ true) [
      | true ↦ λ e h. first (λ j k. there marks rows j d k) i h
      | false ↦ λ e h.
          ap (λ z. has_row z (get_or (free_cids marks rows) i d)) (passed row rows (take i (free_cids marks rows)) (all_take (λ (c : Cid). is_row_of c row ≡ false) i (free_cids marks rows) (not_row marks row e rows)))
          ∙ later (is_row_of (get_or (free_cids marks rows) i d) row) (there marks rows i d h)
    ] refl within
  where
    later : {b : Bool} (a : Bool) → b ≡ true → (a || b) ≡ true
    later true e = refl
    later false e = e

    first : ((j : ℕ) → j < length (free_cids marks rows) → has_row (fold without rows (take j (free_cids marks rows))) (get_or (free_cids marks rows) j d) ≡ true) → (i : ℕ) → i < length (cid_in row ∷ free_cids marks rows) → has_row (fold without (row ∷ rows) (take i (cid_in row ∷ free_cids marks rows))) (get_or (cid_in row ∷ free_cids marks rows) i d) ≡ true
    first more zero h = ap (λ t. t || has_row rows (cid_in row)) ((bytes_eq-Decides row.a row.a).1 refl)
    first more (suc j) h =
        ap (λ t. has_row (fold without (cond t rows (row ∷ without rows (cid_in row))) (take j (free_cids marks rows))) (get_or (free_cids marks rows) j d)) ((bytes_eq-Decides row.a row.a).1 refl)
        ∙ more j (omega (arith, h))

-- and table 2 has no row of it
pub unmarked : (marks rows : List Row) (i : ℕ) (d : Cid) → i < length (free_cids marks rows) → has_row marks (get_or (free_cids marks rows) i d) ≡ false
unmarked marks [] i d within = absurd (omega (arith, within))
unmarked marks (row ∷ rows) i d within =
    elim (is_free marks row) as (λ t. is_free marks row ≡ t → i < length (map cid_in (cond t (row ∷ filter (is_free marks) rows) (filter (is_free marks) rows)))
    → has_row marks (get_or (map cid_in (cond t (row ∷ filter (is_free marks) rows) (filter (is_free marks) rows))) i d) ≡ false) [
      | true ↦ λ e h. first (λ j k. unmarked marks rows j d k) i e h
      | false ↦ λ e h. unmarked marks rows i d h
    ] refl within
  where
    none : (b : Bool) → not b ≡ true → b ≡ false
    none true e = absurd (let f : false ≡ true = e in cc)
    none false e = refl

    first : ((j : ℕ) → j < length (free_cids marks rows) → has_row marks (get_or (free_cids marks rows) j d) ≡ false) → (i : ℕ) → is_free marks row ≡ true → i < length (cid_in row ∷ free_cids marks rows) → has_row marks (get_or (cid_in row ∷ free_cids marks rows) i d) ≡ false
    first more zero e h = none (has_row marks (cid_in row)) (and_parts (length row.a == 32) (not (has_row marks (cid_in row))) e).1
    first more (suc j) e h = more j (omega (arith, h))

-- what stays
pub left_is : (marks rows : List Row) → fold without rows (free_cids marks rows) ≡ filter (λ (row : Row). not (is_free marks row)) rows
left_is marks [] = refl
left_is marks (row ∷ rows) =
    elim (is_free marks row) as (λ t. is_free marks row ≡ t → fold without (row ∷ rows) (map cid_in (cond t (row ∷ filter (is_free marks) rows) (filter (is_free marks) rows))) ≡ cond (not t) (row ∷ filter (λ (r : Row). not (is_free marks r)) rows) (filter (λ (r : Row). not (is_free marks r)) rows)) [
      | true ↦ λ e. ap (λ t. fold without (cond t rows (row ∷ without rows (cid_in row))) (free_cids marks rows)) ((bytes_eq-Decides row.a row.a).1 refl) ∙ left_is marks rows
      | false ↦ λ e. passed row rows (free_cids marks rows) (not_row marks row e rows) ∙ ap (λ rest. row ∷ rest) (left_is marks rows)
    ] refl

-- the next removal may come
pub may_drop : (old now : Option Tables) (cids : List Cid) (i : ℕ) (d : Cid) → i < length cids → IfSome old (λ t. cids ≡ free_cids (t 2) (t 1)) → (old ≡ None → now ≡ None) → Told old now (IsWithout (take i cids)) → IfSome now (IsFree (get_or cids i d))
may_drop None now cids i d within free silent told = subst (λ z. IfSome z (IsFree (get_or cids i d))) (sym (silent refl)) tt
may_drop (Some t) None cids i d within free silent told = absurd told
may_drop (Some t) (Some u) cids i d within free silent told =
    let inside : i < length (free_cids (t 2) (t 1)) = subst (λ (z : List Cid). i < length z) free within in (
      ap (λ z. has_row z (get_or cids i d)) told.blocks ∙ ap (λ (z : List Cid). has_row (fold without (t 1) (take i z)) (get_or z i d)) free ∙ there (t 2) (t 1) i d inside,
      ap (λ z. has_row z (get_or cids i d)) (told.others 2 refl) ∙ ap (λ (z : List Cid). has_row (t 2) (get_or z i d)) free ∙ unmarked (t 2) (t 1) i d inside,
    )

-- one more row of table 1

free_append : (marks rows : List Row) (row : Row) → free_cids marks (rows ++ row ∷ []) ≡ free_cids marks rows ++ free_cids marks (row ∷ [])
free_append marks rows row = ap (map cid_in) (filter-append (is_free marks) rows (row ∷ [])) ∙ map-append cid_in (filter (is_free marks) rows) (filter (is_free marks) (row ∷ []))

pub freeing_more : (raw : Option Tables) (marked : List Cid) (at : ℕ) (row : Row) (old new : List Cid) → IfSome raw (λ t. Some row ≡ slice_get (t 1) at) → ((marks : List Row) → AreCids marked marks → new ≡ old ++ free_cids marks (row ∷ []))
    → IfSome raw (λ t. AreCids marked (t 2) → old ≡ free_cids (t 2) (take at (t 1))) → IfSome raw (λ t. AreCids marked (t 2) → new ≡ free_cids (t 2) (take (at + 1) (t 1)))
freeing_more None marked at row old new found more before = tt
freeing_more (Some t) marked at row old new found more before = λ are.
    more (t 2) are ∙ ap (λ z. z ++ free_cids (t 2) (row ∷ [])) (before are) ∙ sym (free_append (t 2) (take at (t 1)) row)
    ∙ ap (free_cids (t 2)) (sym (take_at (t 1) at row found))

pub freeing_whole : (raw : Option Tables) (marked : List Cid) (at : ℕ) (old : List Cid) → IfSome raw (λ t. None ≡ slice_get (t 1) at)
    → IfSome raw (λ t. AreCids marked (t 2) → old ≡ free_cids (t 2) (take at (t 1))) → IfSome raw (λ t. AreCids marked (t 2) → old ≡ free_cids (t 2) (t 1))
freeing_whole None marked at old found before = tt
freeing_whole (Some t) marked at old found before = λ are. before are ∙ ap (free_cids (t 2)) (take_all at (t 1) (row_past (t 1) at found))

not_32 : (n : ℕ) → n ≢ 32 → (n == 32) ≡ false
not_32 n other = unlike (n == 32) (eqb-true n 32)
  where
    unlike : (t : Bool) → (t ≡ true → n ≡ 32) → t ≡ false
    unlike true same = absurd (other (same refl))
    unlike false same = refl

pub free_other : (marks : List Row) (row : Row) (old : List Cid) → length row.a ≢ 32 → old ≡ old ++ free_cids marks (row ∷ [])
free_other marks row old other =
    sym (append-nil old) ∙ ap (λ t. old ++ map cid_in (cond (t && not (has_row marks (cid_in row))) (row ∷ []) [])) (sym (not_32 (length row.a) other))

pub free_marked : (marks : List Row) (row : Row) (old : List Cid) → has_row marks (cid_in row) ≡ true → old ≡ old ++ free_cids marks (row ∷ [])
free_marked marks row old there =
    sym (append-nil old) ∙ ap (λ t. old ++ map cid_in (cond t (row ∷ []) [])) (sym (ap (λ m. (length row.a == 32) && not m) there ∙ and-false (length row.a == 32)))

pub free_new : (marks : List Row) (row : Row) (old : List Cid) → length row.a ≡ 32 → has_row marks (cid_in row) ≡ false → old ++ cid_in row ∷ [] ≡ old ++ free_cids marks (row ∷ [])
free_new marks row old digest none =
    ap (λ t. old ++ map cid_in (cond t (row ∷ []) [])) (sym (ap (λ m. (length row.a == 32) && not m) none ∙ ap (λ b. b && true) (eq-eqb (length row.a) 32 digest)))

-- what a look-up among the marked ones tells of a row
pub marked_row : (marked : List Cid) (marks : List Row) (row : Row) (cid : Cid) (found : Bool) → cid ≡ cid_in row → length row.a ≡ 32 → found ≡ is_among marked cid → AreCids marked marks → has_row marks (cid_in row) ≡ found
marked_row marked marks row cid found same digest is are = sym (are (cid_in row) digest) ∙ ap (is_among marked) (sym same) ∙ sym is

-- removals one after another

pub drops_end : {S : Type 0} (goes : List Cid → Bool → S → S → Type 0) (cids : List Cid) (i : ℕ) (old new : S) → length cids ≤ i → goes (take i cids) false old new → goes cids false old new
drops_end goes cids i old new past h = subst (λ (z : List Cid). goes z false old new) (take_all i cids past) h

pub drops_more : {S : Type 0} (goes : List Cid → Bool → S → S → Type 0) (on : (first next : List Cid) (failed : Bool) (old mid new : S) → goes first false old mid → goes next failed mid new → goes (first ++ next) failed old new)
    (cids : List Cid) (i : ℕ) (d : Cid) (failed : Bool) (old mid new : S) → i < length cids → goes (take i cids) false old mid → goes (get_or cids i d ∷ []) failed mid new → goes (take (i + 1) cids) failed old new
drops_more goes on cids i d failed old mid new within first next =
    subst (λ (z : List Cid). goes z failed old new) (sym (take_more cids i d within)) (on (take i cids) (get_or cids i d ∷ []) failed old mid new first next)

pub drops_cut : {S : Type 0} (goes : List Cid → Bool → S → S → Type 0) (on : (first next : List Cid) (failed : Bool) (old mid new : S) → goes first false old mid → goes next failed mid new → goes (first ++ next) failed old new)
    (cids : List Cid) (i : ℕ) (d : Cid) (old mid new : S) → i < length cids → goes (take i cids) false old mid → goes [] true mid new ⊎ goes (get_or cids i d ∷ []) true mid new → (count : ℕ) × goes (take count cids) true old new
drops_cut goes on cids i d old mid new within first (inl none) = (i, subst (λ (z : List Cid). goes z true old new) (append-nil (take i cids)) (on (take i cids) [] true old mid new first none))
drops_cut goes on cids i d old mid new within first (inr one) = (i + 1, drops_more goes on cids i d true old mid new within first one)

pub drops_err : {E : Type 0} (goes : List Cid → Bool → Type 0) (cids : List Cid) (result : Result (Unit {0}) E) → is_err result ≡ true → (count : ℕ) × goes (take count cids) true → Drops goes cids result
drops_err goes cids (Ok value) e h = absurd (let f : false ≡ true = e in cc)
drops_err goes cids (Err error) e h = h

-- a sweep that ended before its first removal

told_cids : Option Tables → List Cid
told_cids None = []
told_cids (Some t) = free_cids (t 2) (t 1)

told_are : (raw : Option Tables) → IfSome raw (λ t. told_cids raw ≡ free_cids (t 2) (t 1))
unfolding told_cids
told_are None = tt
told_are (Some t) = refl

pub sweeps_err : (goes : List Cid → Bool → Type 0) (raw : Option Tables) (error : KeepError) → goes [] (is_fault {T = ℕ} (Err error)) → Sweeps goes raw (Err error)
sweeps_err goes raw Failed h = record { cids = told_cids raw; swept = (0, subst (λ (z : List Cid). goes z true) (nothing (told_cids raw)) h); told = told_are raw }
  where
    nothing : (xs : List Cid) → [] ≡ take 0 xs
    nothing [] = refl
    nothing (x ∷ xs) = refl
sweeps_err goes raw Memory h = record { cids = told_cids raw; swept = h; told = told_are raw }
