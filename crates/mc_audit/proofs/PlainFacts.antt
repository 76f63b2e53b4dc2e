-- A row is taken out of plain rows.
use Rattle.std.proofs.Common.{◌≡◌, ℕ, suc, ◌+◌, ◌<◌, ◌≤◌, true, false, cond, List, [], ◌∷◌, ◌++◌, length, take, drop, get_or, sym, ap, ◌∙◌, arith}
use Rattle.std.proofs.Math.Seq.{drop-cons}
use Rattle.std.proofs.lemmas.List.{append_assoc, append-nil, take_all, take_more}
use Rattle.std.proofs.lemmas.Option.{slice_get_past}
use Rattle.std.specs.Str.{bytes_eq}
use Rattle.mc_base.specs.declared.cid.Cid.{Cid}
use Rattle.mc_raw.specs.declared.raw.Row.{Row}
use Rattle.mc_raw.specs.Raw.{without}
use Rattle.mc_audit.proofs.Steps.{drop_end}

pub passes : (rows : List Row) (cid : Cid) (i : ℕ) (row : Row) → i < length rows → row ≡ get_or rows i row → bytes_eq row.a cid.0 ≡ false
    → without rows cid ≡ take i rows ++ without (drop i rows) cid → without rows cid ≡ take (i + 1) rows ++ without (drop (i + 1) rows) cid
passes rows cid i row within at other before =
    let next : suc i ≡ i + 1 = omega arith in
    before
    ∙ ap (λ z. take i rows ++ without z cid) (drop-cons rows i row within ∙ ap (λ z. z ∷ drop (suc i) rows) (sym at))
    ∙ ap (λ t. take i rows ++ cond t (drop (suc i) rows) (row ∷ without (drop (suc i) rows) cid)) other
    ∙ sym (append_assoc (take i rows) (row ∷ []) (without (drop (suc i) rows) cid))
    ∙ ap (λ z. (take i rows ++ z ∷ []) ++ without (drop (suc i) rows) cid) at
    ∙ ap (λ z. z ++ without (drop (suc i) rows) cid) (sym (take_more rows i row within))
    ∙ ap (λ n. take (i + 1) rows ++ without (drop n rows) cid) next

pub found : (rows : List Row) (cid : Cid) (i : ℕ) (row : Row) → i < length rows → row ≡ get_or rows i row → bytes_eq row.a cid.0 ≡ true
    → without rows cid ≡ take i rows ++ without (drop i rows) cid → without rows cid ≡ take i rows ++ drop (i + 1) rows
found rows cid i row within at own before =
    let next : suc i ≡ i + 1 = omega arith in
    before
    ∙ ap (λ z. take i rows ++ without z cid) (drop-cons rows i row within ∙ ap (λ z. z ∷ drop (suc i) rows) (sym at))
    ∙ ap (λ t. take i rows ++ cond t (drop (suc i) rows) (row ∷ without (drop (suc i) rows) cid)) own
    ∙ ap (λ n. take i rows ++ drop n rows) next

pub whole : (rows : List Row) (i : ℕ) → length rows ≤ i → take i rows ++ drop (i + 1) rows ≡ rows
whole rows i past = ap (λ z. take i rows ++ z) (drop_end rows (i + 1) (sym (slice_get_past rows (i + 1) (omega (arith, past))))) ∙ append-nil (take i rows) ∙ take_all i rows past

pub none : (rows : List Row) (cid : Cid) (i : ℕ) → length rows ≤ i → without rows cid ≡ take i rows ++ without (drop i rows) cid → without rows cid ≡ take (length rows) rows ++ drop (length rows + 1) rows
none rows cid i past before =
    before ∙ ap (λ z. take i rows ++ without z cid) (drop_end rows i (sym (slice_get_past rows i past))) ∙ append-nil (take i rows) ∙ take_all i rows past ∙ sym (whole rows (length rows) (omega arith))
