-- The tables stay those of the processed blocks.
use Rattle.std.proofs.Common.{◌≡◌, ℕ, Bool, true, false, not, cond, List, [], ◌∷◌, ◌||◌, ◌&&◌, sym, refl, ap, ◌∙◌}
use Rattle.std.specs.Prelude.{fold}
use Rattle.std.specs.List.{list_any}
use Rattle.std.specs.Str.{bytes_eq}
use Rattle.std.proofs.Math.Bool.{or-false}
use Rattle.mc_base.specs.declared.cid.Cid.{Cid}
use Rattle.mc_base.proofs.Booleans.{or_after}
use Rattle.mc_model.specs.Front.{same_cid, is_among}
use Rattle.mc_model.proofs.Counts.{cid_is}
use Rattle.mc_keep.specs.declared.rows.ElementRow.{ElementRow}
use Rattle.mc_keep.specs.declared.rows.TombRow.{TombRow}
use Rattle.mc_keep.specs.Changes.{has_tomb_row, is_tomb_row}
use Rattle.mc_tables.specs.Chains.{with_element}
use Rattle.mc_graph.specs.Front.{closed_by, opened_by}
use Rattle.mc_graph.specs.Tombs.{with_tomb}

-- rows that are put in turn

pub elements_put : (test : ElementRow → Bool) (key : List ℕ) (rows new : List ElementRow)
    → list_any test (fold (with_element key) rows new) ≡ (list_any test rows || list_any (λ row. bytes_eq row.key key && test row) new)
elements_put test key rows [] = sym (or-false (list_any test rows))
elements_put test key rows (row ∷ new) =
    elements_put test key (with_element key rows row) new
    ∙ ap (λ t. t || list_any (λ r. bytes_eq r.key key && test r) new) (one (bytes_eq row.key key))
    ∙ or_after (bytes_eq row.key key && test row) (list_any test rows) (list_any (λ r. bytes_eq r.key key && test r) new)
  where
    one : (b : Bool) → list_any test (cond b (row ∷ rows) rows) ≡ ((b && test row) || list_any test rows)
    one true = refl
    one false = refl

pub tombs_put : (key id : List ℕ) (there : Bool) (rows : List TombRow) → fold (with_tomb key id) there rows ≡ (there || has_tomb_row rows key id)
tombs_put key id there [] = sym (or-false there)
tombs_put key id there (row ∷ rows) = tombs_put key id (is_tomb_row key id row || there) rows ∙ or_after (is_tomb_row key id row) there (has_tomb_row rows key id)

-- links and gaps that are put in turn

pub closed_all : (cid : Cid) (there : Bool) (marks : List Cid) → fold (closed_by cid) there marks ≡ (there && not (is_among marks cid))
closed_all cid there [] = and_yes there
  where
    and_yes : (a : Bool) → a ≡ (a && true)
    and_yes true = refl
    and_yes false = refl
closed_all cid there (mark ∷ marks) = closed_all cid (not (same_cid cid mark) && there) marks ∙ swap (same_cid cid mark) there (is_among marks cid)
  where
    swap : (a b c : Bool) → ((not a && b) && not c) ≡ (b && not (a || c))
    swap true true c = refl
    swap true false c = refl
    swap false true c = refl
    swap false false c = refl

pub opened_all : (order : List Cid) (cid : Cid) (there : Bool) (links : List Cid) → fold (opened_by order cid) there links ≡ (there || (is_among links cid && not (is_among order cid)))
opened_all order cid there [] = sym (or-false there)
opened_all order cid there (link ∷ links) =
    opened_all order cid ((same_cid cid link && not (is_among order link)) || there) links
    ∙ ap (λ t. (t || there) || (is_among links cid && not (is_among order cid))) (at_link (same_cid cid link) refl)
    ∙ swap (same_cid cid link) (not (is_among order cid)) there (is_among links cid)
  where
    at_link : (b : Bool) → same_cid cid link ≡ b → (same_cid cid link && not (is_among order link)) ≡ (same_cid cid link && not (is_among order cid))
    at_link true e = ap (λ (z : Cid). same_cid cid link && not (is_among order z)) (sym (cid_is cid link e))
    at_link false e = ap (λ t. t && not (is_among order link)) e ∙ ap (λ t. t && not (is_among order cid)) (sym e)

    swap : (a n b c : Bool) → (((a && n) || b) || (c && n)) ≡ (b || ((a || c) && n))
    swap true true true c = refl
    swap true true false c = refl
    swap true false true true = refl
    swap true false true false = refl
    swap true false false true = refl
    swap true false false false = refl
    swap false n true c = refl
    swap false n false c = refl
