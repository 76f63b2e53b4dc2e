-- Rows that are let go.
use Rattle.std.proofs.Common.{◌≡◌, ℕ, ◌+◌, ◌<◌, Bool, true, false, cond, ◌||◌, List, [], ◌∷◌, length, take, get_or, Option, Some, refl, sym, ap, ◌∙◌, subst, arith}
use Rattle.std.specs.Prelude.{slice_index_or}
use Rattle.std.specs.BinaryHeap.{IsHeap}
use Rattle.std.specs.declared.string.String.{String}
use Rattle.std.specs.HashMap.{HashMap, get_by_text}
use Rattle.std.specs.List.{list_any}
use Rattle.std.specs.List.Sorted.{IsPermutation}
use Rattle.std.specs.Str.{bytes_eq}
use Rattle.std.proofs.lemmas.Bool.{or_parts}
use Rattle.std.proofs.lemmas.List.Sorted.{list_any-IsPermutation}
use Rattle.mc_live.specs.Order.{row_cmp}
use Rattle.mc_live.specs.Prune.{OfShown, Prunes, PrunesKeys}
use Rattle.std.proofs.lemmas.List.Folds.{list_any-append}
use Rattle.std.proofs.lemmas.Slice.Eq.{bytes_eq-Decides}
use Rattle.mc_live.proofs.RowFacts.{keeps_heaps, keeps_rows, next_item, or_none, rows_set}
use Rattle.mc_live.specs.Rows.{IsTopShown, is_shown, items_of, rows_in}
use Rattle.mc_live.specs.declared.held.Held.{Held}
use Rattle.mc_live.specs.declared.order.Row.{Row}

pub record IsPruning (hidden : List ℕ → Bool) (ids : List (Option (List ℕ))) (old new : List Row) : Type 0 where
  pub rest : (test : Row → Bool) → OfShown hidden ids test → list_any test new ≡ list_any test old
  pub fewer : (test : Row → Bool) → list_any test old ≡ false → list_any test new ≡ false
  pub heap : IsHeap row_cmp old → IsHeap row_cmp new

pub pruning_begins : (hidden : List ℕ → Bool) (ids : List (Option (List ℕ))) (rows : List Row) → IsPruning hidden ids rows rows
pruning_begins hidden ids rows = record { rest = λ test of. refl; fewer = λ test none. none; heap = λ was. was }

-- one row less, which isn't shown
pub pruning_next : (hidden : List ℕ → Bool) (ids : List (Option (List ℕ))) (old now new : List Row) (row : Row) → IsPruning hidden ids old now → is_shown hidden ids row ≡ false
    → IsPermutation now (row ∷ new) → (IsHeap row_cmp now → IsHeap row_cmp new) → IsPruning hidden ids old new
pruning_next hidden ids old now new row pruning gone moved heap = record {
  rest = λ test of. ap (λ b. b || list_any test new) (sym (of row gone)) ∙ sym (list_any-IsPermutation test now (row ∷ new) moved) ∙ pruning.rest test of;
  fewer = λ test none. (or_parts (test row) (list_any test new) (sym (list_any-IsPermutation test now (row ∷ new) moved) ∙ pruning.fewer test none)).1;
  heap = λ was. heap (pruning.heap was);
}

-- the first row
pub first_is : (rows : List Row) (row : Row) → 0 < length rows → row ≡ slice_index_or rows 0 row → (rest : List Row) × (rows ≡ row ∷ rest)
first_is [] row some is = absurd (omega (arith, some))
first_is (first ∷ rows) row some is = let same : first ≡ row = sym is in (rows, ap (λ z. z ∷ rows) same)

pub pruned : (hidden : List ℕ → Bool) (ids : List (Option (List ℕ))) (old new : List Row) → IsPruning hidden ids old new → IsTopShown hidden ids new → Prunes hidden ids old new
pruned hidden ids old new pruning top = record { rest = pruning.rest; fewer = pruning.fewer; heap = pruning.heap; top = top }

pub top_shown : (hidden : List ℕ → Bool) (ids : List (Option (List ℕ))) (rows : List Row) (row : Row) → 0 < length rows → row ≡ slice_index_or rows 0 row → is_shown hidden ids row ≡ true → IsTopShown hidden ids rows
top_shown hidden ids rows row some is shown = let first = first_is rows row some is in subst (IsTopShown hidden ids) (sym first.1) shown

pub no_top : (hidden : List ℕ → Bool) (ids : List (Option (List ℕ))) (rows : List Row) → length rows ≡ 0 → IsTopShown hidden ids rows
no_top hidden ids [] none = tt
no_top hidden ids (row ∷ rows) none = absurd (omega (arith, none))

-- what two ways of reading the first row give
same_first : (rows : List Row) (a b : Row) → list_any (λ _. true) rows ≡ true → a ≡ slice_index_or rows 0 a → b ≡ slice_index_or rows 0 b → a ≡ b
same_first [] a b some e f = absurd (let g : false ≡ true = some in cc)
same_first (first ∷ rows) a b some e f = let g : a ≡ first = e in let h : b ≡ first = f in g ∙ sym h

pub pruning_pops : (hidden : List ℕ → Bool) (ids : List (Option (List ℕ))) (old now new : List Row) (row gone : Row) → IsPruning hidden ids old now → row ≡ slice_index_or now 0 row → gone ≡ slice_index_or now 0 gone
    → is_shown hidden ids row ≡ false → IsPermutation now (gone ∷ new) → (IsHeap row_cmp now → IsHeap row_cmp new) → IsPruning hidden ids old new
pruning_pops hidden ids old now new row gone pruning e f hides moved heap =
    let some : list_any (λ _. true) now ≡ true = list_any-IsPermutation (λ _. true) now (gone ∷ new) moved in
    let same = same_first now row gone some e f in
    pruning_next hidden ids old now new gone pruning (subst (λ (r : Row). is_shown hidden ids r ≡ false) same hides) moved heap

-- the rows of one key among all
module _ {Y S : Type 0} (old new : HashMap (String Y) Held S) (key : List ℕ) (held : Held)
    (updates : (other : List ℕ) → get_by_text new other ≡ cond (bytes_eq key other) (Some held) (get_by_text old other)) where
  pub key_pruned : (tombs : List ℕ → List ℕ → Bool) (ids : List (Option (List ℕ))) → Prunes (tombs key) ids (rows_in old key) (items_of held) → PrunesKeys tombs ids (bytes_eq key) (rows_in old) (rows_in new)
  key_pruned tombs ids prunes =
      let set = rows_set old new key held updates in
      record {
        rest = λ other test of. ap (list_any test) (set other) ∙ rest_by other test of (bytes_eq key other) refl;
        fewer = λ other test none. ap (list_any test) (set other) ∙ fewer_by other test none (bytes_eq key other) refl;
        heaps = keeps_heaps old new key held updates prunes.heap;
        top = λ other is. subst (IsTopShown (tombs other) ids) (sym (set other)) (top_by other (bytes_eq key other) refl is);
        others = keeps_rows old new key held updates;
      }
    where
      rest_by : (other : List ℕ) (test : Row → Bool) → OfShown (tombs other) ids test → (b : Bool) → bytes_eq key other ≡ b → list_any test (cond b (items_of held) (rows_in old other)) ≡ list_any test (rows_in old other)
      rest_by other test of true e =
          let same = (bytes_eq-Decides key other).0 e in
          prunes.rest test (subst (λ k. OfShown (tombs k) ids test) (sym same) of) ∙ ap (λ k. list_any test (rows_in old k)) same
      rest_by other test of false e = refl

      fewer_by : (other : List ℕ) (test : Row → Bool) → list_any test (rows_in old other) ≡ false → (b : Bool) → bytes_eq key other ≡ b → list_any test (cond b (items_of held) (rows_in old other)) ≡ false
      fewer_by other test none true e = prunes.fewer test (ap (λ k. list_any test (rows_in old k)) ((bytes_eq-Decides key other).0 e) ∙ none)
      fewer_by other test none false e = none

      top_by : (other : List ℕ) (b : Bool) → bytes_eq key other ≡ b → bytes_eq key other ≡ true → IsTopShown (tombs other) ids (cond b (items_of held) (rows_in old other))
      top_by other true e is = subst (λ k. IsTopShown (tombs k) ids (items_of held)) ((bytes_eq-Decides key other).0 e) prunes.top
      top_by other false e is = absurd (let f : false ≡ true = sym e ∙ is in cc)

module _ (tombs : List ℕ → List ℕ → Bool) (ids : List (Option (List ℕ))) where
  pub prunes_nothing : (rows : List ℕ → List Row) → PrunesKeys tombs ids (λ _. false) rows rows
  prunes_nothing rows = record { rest = λ key test of. refl; fewer = λ key test none. none; heaps = λ key was. was; top = λ key is. absurd (cc); others = λ key is. refl }

  -- one after the other
  pub prunes_more : (first second : List ℕ → Bool) (old now new : List ℕ → List Row) → PrunesKeys tombs ids first old now → PrunesKeys tombs ids second now new → PrunesKeys tombs ids (λ key. first key || second key) old new
  prunes_more first second old now new p q = record {
    rest = λ key test of. q.rest key test of ∙ p.rest key test of;
    fewer = λ key test none. q.fewer key test (p.fewer key test none);
    heaps = λ key was. q.heaps key (p.heaps key was);
    top = λ key is. top_by key (first key) (second key) refl refl is;
    others = λ key is. let parts = or_parts (first key) (second key) is in q.others key parts.1 ∙ p.others key parts.0;
  }
    where
      top_by : (key : List ℕ) (a b : Bool) → first key ≡ a → second key ≡ b → (a || b) ≡ true → IsTopShown (tombs key) ids (new key)
      top_by key a true e f is = q.top key f
      top_by key true false e f is = subst (IsTopShown (tombs key) ids) (sym (q.others key f)) (p.top key e)
      top_by key false false e f is = absurd (cc)

  pub prunes_alike : (these those : List ℕ → Bool) (old new : List ℕ → List Row) → ((key : List ℕ) → those key ≡ these key) → PrunesKeys tombs ids these old new → PrunesKeys tombs ids those old new
  prunes_alike these those old new same p = record {
    rest = p.rest;
    fewer = p.fewer;
    heaps = p.heaps;
    top = λ key is. p.top key (sym (same key) ∙ is);
    others = λ key is. p.others key (sym (same key) ∙ is);
  }

  -- of one item more
  pub prunes_next : {A : Type 0} (key_in : A → List ℕ) (items : List A) (i : ℕ) (item : A) (text : List ℕ) (old now new : List ℕ → List Row) → i < length items → item ≡ get_or items i item → text ≡ key_in item
      → PrunesKeys tombs ids (λ key. list_any (λ x. bytes_eq (key_in x) key) (take i items)) old now → PrunesKeys tombs ids (λ key. bytes_eq text key) now new
      → PrunesKeys tombs ids (λ key. list_any (λ x. bytes_eq (key_in x) key) (take (i + 1) items)) old new
  prunes_next key_in items i item text old now new within at is p q =
      prunes_alike _ _ old new (λ key.
      ap (list_any (λ x. bytes_eq (key_in x) key)) (next_item items i item within at)
      ∙ list_any-append (λ x. bytes_eq (key_in x) key) (take i items) (item ∷ [])
      ∙ ap (λ b. list_any (λ x. bytes_eq (key_in x) key) (take i items) || b) (or_none (bytes_eq (key_in item) key)))
      (prunes_more (λ key. list_any (λ x. bytes_eq (key_in x) key) (take i items)) (λ key. bytes_eq (key_in item) key) old now new p (subst (λ (z : List ℕ). PrunesKeys tombs ids (λ key. bytes_eq z key) now new) is q))
