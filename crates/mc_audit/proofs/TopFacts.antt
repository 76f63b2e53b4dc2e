-- The rows of the value table and of the winner table, as they are made.
use Rattle.std.proofs.Common.{◌≡◌, Bool, true, false, cond, not, List, [], ◌∷◌, ◌++◌, map, sym, refl, ap, ◌∙◌, subst}
use Rattle.std.specs.Prelude.{filter}
use Rattle.std.specs.List.{list_any, dedup, dedup_from, AllByRecursion}
use Rattle.std.specs.List.Sorted.{IsSorted, IsPermutation, IsStrictlySortedBy}
use Rattle.std.specs.Ordering.{eq_by_cmp}
use Rattle.std.specs.Str.{bytes_eq}
use Rattle.std.specs.declared.cmp.Ordering.TheVariants.{Less, Equal}
use Rattle.std.proofs.lemmas.List.Elements.{filter-append, filter_agree}
use Rattle.mc_model.specs.declared.block.Block.{Block}
use Rattle.mc_model.specs.Ascending.{Ascends}
use Rattle.mc_model.specs.SameMembers.{SameMembers}
use Rattle.mc_model.proofs.Ascending.{ascending_ascends}
use Rattle.mc_model.proofs.Members.{list_any-map, same_filter}
use Rattle.mc_model.proofs.SortFacts.{sorted_once}
use Rattle.mc_raw.specs.declared.raw.Row.{Row}
use Rattle.mc_raw.specs.RowOrder.{row_cmp, row_total}
use Rattle.mc_raw.specs.RowTables.{element_lines, element_table, tomb_table, value_table, winner_table}
use Rattle.mc_audit.specs.declared.values.Candidate.{Candidate}
use Rattle.mc_audit.specs.Values.{top_cmp, candidate_cmp, candidate_total, rows_in, same_key, is_shown_by, value_in, winner_in, tops_in, IsTopsOf}
use Rattle.mc_audit.proofs.Lives.{is_shown, tomb_found}
use Rattle.mc_audit.proofs.Sorts.{row_tied}
use Rattle.mc_audit.proofs.Tops.{top_tied}
use Rattle.mc_audit.proofs.ValueTables.{values_are, winners_are}

pub shown_more : (tombs : List Row) (now new before : List Row) (row : Row) → now ≡ filter (is_shown_by tombs) before → new ≡ now ++ filter (is_shown_by tombs) (row ∷ []) → new ≡ filter (is_shown_by tombs) (before ++ row ∷ [])
shown_more tombs now new before row is step = step ∙ ap (λ z. z ++ filter (is_shown_by tombs) (row ∷ [])) is ∙ sym (filter-append (is_shown_by tombs) before (row ∷ []))

abbrev pub same_top : Candidate → Candidate → Bool
same_top a b = bytes_eq a.row.a b.row.a

candidate_tied : (x y : Candidate) → candidate_cmp x y ≡ Equal → x ≡ y
candidate_tied x y e = ap (λ (row : Row). record { row = row }) (top_tied x.row y.row e)

below_rows : (x : Candidate) (ys : List Candidate) → AllByRecursion (λ y. candidate_cmp x y ≡ Less) ys → AllByRecursion (λ y. top_cmp x.row y ≡ Less) (rows_in ys)
below_rows x [] b = b
below_rows x (y ∷ ys) b = (b.0, below_rows x ys b.1)

sorted_rows : (all : List Candidate) → IsStrictlySortedBy candidate_cmp all → IsStrictlySortedBy top_cmp (rows_in all)
unfolding IsStrictlySortedBy
sorted_rows [] s = s
sorted_rows (x ∷ all) s = (below_rows x all s.0, sorted_rows all s.1)

dedup_rows_from : (x : Candidate) (xs : List Candidate) → rows_in (dedup_from same_top x xs) ≡ dedup_from same_key x.row (rows_in xs)
dedup_rows_from x [] = refl
dedup_rows_from x (y ∷ ys) =
    elim (bytes_eq y.row.a x.row.a) as (λ t. rows_in (cond t (dedup_from same_top x ys) (x ∷ dedup_from same_top y ys)) ≡ cond t (dedup_from same_key x.row (rows_in ys)) (x.row ∷ dedup_from same_key y.row (rows_in ys))) [
      | true ↦ dedup_rows_from x ys
      | false ↦ ap (λ rest. x.row ∷ rest) (dedup_rows_from y ys)
    ]

dedup_rows : (xs : List Candidate) → rows_in (dedup same_top xs) ≡ tops_in (rows_in xs)
dedup_rows [] = refl
dedup_rows (x ∷ xs) = dedup_rows_from x xs

pub tops_made : (live sorted once tops : List Candidate) → IsPermutation live sorted → IsSorted candidate_cmp sorted → once ≡ dedup (eq_by_cmp candidate_cmp) sorted → tops ≡ dedup same_top once → IsTopsOf (rows_in live) (rows_in tops)
tops_made live sorted once tops moved order is first =
    let ascends : Ascends candidate_cmp once live = subst (λ (z : List Candidate). Ascends candidate_cmp z live) (sym is) (sorted_once candidate_cmp candidate_total candidate_tied live sorted moved order) in
    record {
      sorted = rows_in once;
      ascends = record {
        sorted = sorted_rows once ascends.sorted;
        members = record { same = λ test. list_any-map test (λ (c : Candidate). c.row) once ∙ ascends.members.same (λ (c : Candidate). test c.row) ∙ sym (list_any-map test (λ (c : Candidate). c.row) live) };
      };
      first = ap rows_in first ∙ dedup_rows once;
    }

module _ (blocks : List Block) (elements tombs live tops : List Row) (all : elements ≡ element_table blocks) (hiding : tombs ≡ tomb_table blocks) (shown : live ≡ filter (is_shown_by tombs) elements) (made : IsTopsOf live tops) where
  of_blocks : SameMembers made.sorted (filter (is_shown blocks) (element_lines blocks))
  of_blocks = record {
    same = λ test.
        made.ascends.members.same test
        ∙ ap (list_any test) (shown ∙ ap (λ z. filter (is_shown_by z) elements) hiding ∙ ap (filter (is_shown_by (tomb_table blocks))) all
        ∙ filter_agree (is_shown_by (tomb_table blocks)) (is_shown blocks) (λ row. ap not (tomb_found blocks row)) (element_table blocks))
        ∙ (same_filter (is_shown blocks) (element_table blocks) (element_lines blocks) (ascending_ascends row_cmp row_total row_tied (element_lines blocks)).members).same test;
  }

  pub value_made : map value_in tops ≡ value_table blocks
  value_made = ap (map value_in) made.first ∙ values_are blocks made.sorted made.ascends.sorted of_blocks

  pub winner_made : map winner_in tops ≡ winner_table blocks
  winner_made = ap (map winner_in) made.first ∙ winners_are blocks made.sorted made.ascends.sorted of_blocks
