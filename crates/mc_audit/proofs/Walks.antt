-- Walks along a table, row by row.
use Rattle.std.proofs.Common.{◌≡◌, ℕ, suc, ◌+◌, ◌<◌, Bool, true, false, cond, List, [], ◌∷◌, length, drop, get_or, Option, Some, None, sym, refl, ap, ◌∙◌, subst, arith}
use Rattle.std.specs.Prelude.{slice_get, IfSome, ◌==◌}
use Rattle.std.specs.Option.{is_some}
use Rattle.std.proofs.Math.Seq.{drop-cons}
use Rattle.std.proofs.lemmas.Bool.{eqb-true}
use Rattle.std.proofs.lemmas.Option.{slice_get_past}
use Rattle.mc_base.specs.Told.{Told}
use Rattle.mc_raw.specs.declared.raw.Row.{Row}
use Rattle.mc_raw.specs.Raw.{Tables, IsWithout}
use Rattle.mc_audit.specs.Checks.{is_row_at, mark_found}
use Rattle.mc_audit.specs.Sound.{rows_break, mark_break}
use Rattle.mc_audit.proofs.Steps.{drop_at, drop_end}

-- reads leave what is told
pub raw_kept : (old new : Option Tables) → Told old new (IsWithout []) → (old ≡ None → new ≡ None) → new ≡ old
raw_kept None new without silent = silent refl
raw_kept (Some t) None without silent = absurd without
raw_kept (Some t) (Some u) without silent = let same : u ≡ t = λ i table. each table i in ap (λ z. Some z) same
  where
    each : (table : ℕ) → u table ≡ t table
    each table = elim (table == 1) as (λ b. (table == 1) ≡ b → u table ≡ t table) [
      | true ↦ λ e. subst (λ n. u n ≡ t n) (sym (eqb-true table 1 e)) without.blocks
      | false ↦ λ e. without.others table e
    ] refl

-- rows of a table against other rows

one_more : (at : ℕ) (found : Option Row) (xs more : List Row) (row : Row) (rest : List Row) → ((x : Row) → found ≡ Some x → xs ≡ x ∷ more) → true ≡ is_row_at row found → rows_break at xs (row ∷ rest) ≡ rows_break (at + 1) more rest
one_more at None xs more row rest is e = absurd (let f : true ≡ false = e in cc)
one_more at (Some x) xs more row rest is e =
    ap (λ z. rows_break at z (row ∷ rest)) (is x refl) ∙ ap (λ t. cond t (rows_break (at + 1) more rest) (Some at)) (sym e)

not_here : (at : ℕ) (found : Option Row) (xs more : List Row) (row : Row) (rest : List Row) → ((x : Row) → found ≡ Some x → xs ≡ x ∷ more) → (found ≡ None → xs ≡ []) → false ≡ is_row_at row found → rows_break at xs (row ∷ rest) ≡ Some at
not_here at None xs more row rest is ends e = ap (λ z. rows_break at z (row ∷ rest)) (ends refl)
not_here at (Some x) xs more row rest is ends e =
    ap (λ z. rows_break at z (row ∷ rest)) (is x refl) ∙ ap (λ t. cond t (rows_break (at + 1) more rest) (Some at)) (sym e)

module _ (raw : Option Tables) (table : ℕ) (rows : List Row) where
  abbrev pub IsAhead : ℕ → Type 0
  IsAhead at = IfSome raw (λ t. rows_break 0 (t table) rows ≡ rows_break at (drop at (t table)) (drop at rows))

  rows_at : (at : ℕ) (row : Row) → at < length rows → row ≡ get_or rows at row → drop at rows ≡ row ∷ drop (at + 1) rows
  rows_at at row within is =
      let next : at + 1 ≡ suc at = omega arith in
      drop-cons rows at row within ∙ ap (λ z. z ∷ drop (suc at) rows) (sym is) ∙ ap (λ n. row ∷ drop n rows) (sym next)

  pub compared_more : (at : ℕ) (row : Row) → at < length rows → row ≡ get_or rows at row → IfSome raw (λ t. true ≡ is_row_at row (slice_get (t table) at)) → IsAhead at → IsAhead (at + 1)
  compared_more at row within is same ahead = go raw same ahead
    where
      go : (told : Option Tables) → IfSome told (λ t. true ≡ is_row_at row (slice_get (t table) at)) → IfSome told (λ t. rows_break 0 (t table) rows ≡ rows_break at (drop at (t table)) (drop at rows))
          → IfSome told (λ t. rows_break 0 (t table) rows ≡ rows_break (at + 1) (drop (at + 1) (t table)) (drop (at + 1) rows))
      go None same ahead = tt
      go (Some t) same ahead =
          ahead ∙ ap (rows_break at (drop at (t table))) (rows_at at row within is)
          ∙ one_more at (slice_get (t table) at) (drop at (t table)) (drop (at + 1) (t table)) row (drop (at + 1) rows) (λ x e. drop_at (t table) at x (sym e)) same

  pub compared_here : (at : ℕ) (row : Row) → at < length rows → row ≡ get_or rows at row → IfSome raw (λ t. false ≡ is_row_at row (slice_get (t table) at)) → IsAhead at → IfSome raw (λ t. Some at ≡ rows_break 0 (t table) rows)
  compared_here at row within is same ahead = go raw same ahead
    where
      go : (told : Option Tables) → IfSome told (λ t. false ≡ is_row_at row (slice_get (t table) at)) → IfSome told (λ t. rows_break 0 (t table) rows ≡ rows_break at (drop at (t table)) (drop at rows))
          → IfSome told (λ t. Some at ≡ rows_break 0 (t table) rows)
      go None same ahead = tt
      go (Some t) same ahead =
          sym (ahead ∙ ap (rows_break at (drop at (t table))) (rows_at at row within is)
          ∙ not_here at (slice_get (t table) at) (drop at (t table)) (drop (at + 1) (t table)) row (drop (at + 1) rows) (λ x e. drop_at (t table) at x (sym e)) (λ e. drop_end (t table) at (sym e)) same)

  at_end : (at : ℕ) → at ≡ length rows → drop at rows ≡ []
  at_end at e = drop_end rows at (sym (slice_get_past rows at (omega (arith, e))))

  pub compared_end : (at : ℕ) (more : Bool) → at ≡ length rows → IfSome raw (λ t. more ≡ is_some (slice_get (t table) at)) → IsAhead at → IfSome raw (λ t. cond more (Some at) None ≡ rows_break 0 (t table) rows)
  compared_end at more end found ahead = go raw found ahead
    where
      past : (told : Option Row) (xs rest : List Row) → ((x : Row) → told ≡ Some x → xs ≡ x ∷ rest) → (told ≡ None → xs ≡ []) → more ≡ is_some told → cond more (Some at) None ≡ rows_break at xs []
      past None xs rest is ends e = ap (λ t. cond t (Some at) None) e ∙ sym (ap (λ z. rows_break at z []) (ends refl))
      past (Some x) xs rest is ends e = ap (λ t. cond t (Some at) None) e ∙ sym (ap (λ z. rows_break at z []) (is x refl))

      go : (told : Option Tables) → IfSome told (λ t. more ≡ is_some (slice_get (t table) at)) → IfSome told (λ t. rows_break 0 (t table) rows ≡ rows_break at (drop at (t table)) (drop at rows))
          → IfSome told (λ t. cond more (Some at) None ≡ rows_break 0 (t table) rows)
      go None found ahead = tt
      go (Some t) found ahead =
          past (slice_get (t table) at) (drop at (t table)) (drop (at + 1) (t table)) (λ x e. drop_at (t table) at x (sym e)) (λ e. drop_end (t table) at (sym e)) found
          ∙ sym (ahead ∙ ap (rows_break at (drop at (t table))) (at_end at end))

-- table 9

pub mark_is : (raw : Option Tables) (gap right more : Bool) → IfSome raw (λ t. right ≡ mark_found gap (slice_get (t 9) 0)) → (right ≡ true → IfSome raw (λ t. more ≡ is_some (slice_get (t 9) 1)))
    → IfSome raw (λ t. cond right (cond more (Some 1) None) (Some 0) ≡ mark_break gap (t 9))
mark_is None gap right more found next = tt
mark_is (Some t) gap right more found next = go (t 9) right found next
  where
    go : (rows : List Row) (right : Bool) → right ≡ mark_found gap (slice_get rows 0) → (right ≡ true → more ≡ is_some (slice_get rows 1)) → cond right (cond more (Some 1) None) (Some 0) ≡ mark_break gap rows
    go [] right e n = ap (λ t. cond t (cond more (Some 1) None) (Some 0)) e
    go (row ∷ []) true e n = ap (λ t. cond t (Some 1) None) (n refl) ∙ ap (λ t. cond t None (Some 0)) e
    go (row ∷ []) false e n = ap (λ t. cond t None (Some 0)) e
    go (row ∷ next ∷ rows) true e n = ap (λ t. cond t (Some 1) None) (n refl) ∙ ap (λ t. cond t (Some 1) (Some 0)) e
    go (row ∷ next ∷ rows) false e n = ap (λ t. cond t (Some 1) (Some 0)) e
