-- Rows that are found.
use Rattle.std.proofs.Common.{◌≡◌, arith, ℕ, Bool, true, false, not, cond, List, [], ◌∷◌, ◌&&◌, ◌||◌, Option, Some, None, sym, refl, ap, ◌∙◌}
use Rattle.std.specs.Prelude.{find, is_some, nat_eq}
use Rattle.std.specs.Str.{bytes_eq}
use Rattle.std.specs.List.{list_any}
use Rattle.std.proofs.lemmas.Bool.{and_parts}
use Rattle.std.proofs.lemmas.Bool.Decides.{nat_tests}
use Rattle.std.proofs.lemmas.Slice.Eq.{bytes_eq-Decides}
use Rattle.mc_model.specs.declared.block.Block.{Block}
use Rattle.mc_model.specs.Id.{id_text}
use Rattle.mc_model.specs.Live.{has_tomb, live, value_row}
use Rattle.mc_model.specs.Rank.{Ranked, same_ranked}
use Rattle.mc_model.proofs.Greatest.{greatest_member}
use Rattle.mc_model.proofs.Members.{any_agree}
use Rattle.mc_keep.specs.declared.rows.ElementRow.{ElementRow}
use Rattle.mc_keep.specs.LiveRows.{ranked_of}
use Rattle.mc_keep.specs.Tables.{element_rows_of}
use Rattle.mc_keep.proofs.Lives.{live_rows-element_rows_of, live_rows_any}
use Rattle.mc_tables.specs.Values.{row_with}

-- a row that is found passes
pub found_row : (test : ElementRow → Bool) (rows : List ElementRow) (row : ElementRow) → find test rows ≡ Some row → test row ≡ true
found_row test [] row e = absurd (let no : None ≡ Some row = e in cc)
found_row test (r ∷ rows) row e =
    elim (test r) as (λ t. test r ≡ t → cond t (Some r) (find test rows) ≡ Some row → test row ≡ true) [
      | true ↦ λ t h.
          let same : r ≡ row = cc (h) in
          ap test (sym same) ∙ t
      | false ↦ λ t h. found_row test rows row h
    ] refl e

none_found : (test : ElementRow → Bool) (rows : List ElementRow) → find test rows ≡ None → list_any test rows ≡ false
none_found test [] e = refl
none_found test (r ∷ rows) e =
    elim (test r) as (λ t. cond t (Some r) (find test rows) ≡ None → (t || list_any test rows) ≡ false) [
      | true ↦ λ h. absurd (let no : Some r ≡ None = h in cc)
      | false ↦ λ h. none_found test rows h
    ] e

-- a value is that of a row that is not hidden
pub some_row : (blocks : List Block) (key : List ℕ) (ranked : Ranked) → value_row blocks key ≡ Some ranked → list_any (λ (row : ElementRow). same_ranked ranked (ranked_of row) && not (has_tomb blocks key (id_text row.cid.0))) (element_rows_of blocks key) ≡ true
some_row blocks key ranked e =
    any_agree (λ (row : ElementRow). same_ranked ranked (ranked_of row) && not (has_tomb blocks key (id_text row.cid.0))) (λ (row : ElementRow). not (has_tomb blocks key (id_text row.cid.0)) && same_ranked ranked (ranked_of row)) (λ row. turned (same_ranked ranked (ranked_of row)) (not (has_tomb blocks key (id_text row.cid.0)))) (element_rows_of blocks key)
    ∙ sym (live_rows_any (has_tomb blocks key) (same_ranked ranked) (element_rows_of blocks key))
    ∙ ap (list_any (same_ranked ranked)) (live_rows-element_rows_of blocks blocks key)
    ∙ greatest_member (live blocks key) ranked e
  where
    turned : (a b : Bool) → (a && b) ≡ (b && a)
    turned true true = refl
    turned true false = refl
    turned false true = refl
    turned false false = refl

-- a row that is found has what was asked for
pub found_is : (ranked : Ranked) (rows : List ElementRow) (row : ElementRow) → row_with ranked rows ≡ Some row → ranked ≡ ranked_of row
found_is ranked rows row e =
    let parts = and_parts (nat_eq ranked.0 row.priority) (bytes_eq ranked.1 row.value) (found_row (λ (r : ElementRow). same_ranked ranked (ranked_of r)) rows row e) in
    let first : ranked.0 ≡ row.priority = let test = parts.0 in grind (arith, nat_tests, test) in
    let second : ranked.1 ≡ row.value = (bytes_eq-Decides ranked.1 row.value).0 parts.1 in
    λ i. (first i, second i)

-- a row is found where one has what is asked for
pub is_found : (test : ElementRow → Bool) (rows : List ElementRow) → list_any test rows ≡ true → is_some (find test rows) ≡ true
is_found test rows any = by (find test rows) refl
  where
    by : (found : Option ElementRow) → find test rows ≡ found → is_some (find test rows) ≡ true
    by None e = absurd (let f : true ≡ false = sym any ∙ none_found test rows e in cc)
    by (Some row) e = ap is_some e
