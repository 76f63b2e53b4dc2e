-- A sweep takes no processed block.
use Rattle.std.proofs.Common.{◌≡◌, ℕ, zero, suc, ◌+◌, Bool, true, false, cond, not, ◌||◌, List, [], ◌∷◌, map, take, find, filter, Option, Some, sym, refl, ap, ◌∙◌}
use Rattle.std.specs.Prelude.{◌==◌, length}
use Rattle.std.specs.Str.{bytes_eq}
use Rattle.std.proofs.lemmas.Bool.{and_parts, or_parts}
use Rattle.std.proofs.lemmas.Slice.Eq.{bytes_eq-Decides}
use Rattle.mc_base.specs.declared.cid.Cid.{Cid}
use Rattle.mc_model.specs.declared.block.Block.{Block}
use Rattle.mc_model.specs.declared.block.Stored.{Stored}
use Rattle.mc_model.specs.Front.{same_cid, is_among}
use Rattle.std.specs.Option.{option_map}
use Rattle.mc_model.specs.Kept.{block_in, block_under}
use Rattle.mc_model.proofs.Counts.{cid_is, same_cid-symm}
use Rattle.mc_raw.specs.declared.raw.Row.{Row}
use Rattle.mc_raw.specs.Raw.{has_row}
use Rattle.mc_raw.specs.RowTables.{place_table, block_table}
use Rattle.mc_audit.specs.Laws.{SweepKeepsProcessed}
use Rattle.mc_audit.specs.Rows.{cid_in}
use Rattle.mc_audit.specs.Sweep.{is_free, free_cids}

later : {b : Bool} (a : Bool) → b ≡ true → (a || b) ≡ true
later true e = refl
later false e = e

-- what a test tells apart is not one
apart : (x y : Cid) (test : Cid → Bool) → test x ≡ false → test y ≡ true → same_cid x y ≡ false
apart x y test off on =
    elim (same_cid x y) as (λ t. same_cid x y ≡ t → t ≡ false) [
      | true ↦ λ e. absurd (let f : false ≡ true = sym off ∙ ap test (cid_is x y e) ∙ on in cc)
      | false ↦ λ e. refl
    ] refl

placed : (place : ℕ) (order : List Cid) (o : Cid) → is_among order o ≡ true → has_row (place_table place order) o ≡ true
placed place [] o e = absurd (let f : false ≡ true = e in cc)
placed place (cid ∷ order) o e =
    elim (same_cid o cid) as (λ t. same_cid o cid ≡ t → (t || is_among order o) ≡ true → has_row (place_table place (cid ∷ order)) o ≡ true) [
      | true ↦ λ own h. ap (λ t. t || has_row (place_table (place + 1) order) o) (same_cid-symm cid o ∙ own)
      | false ↦ λ own h. later (bytes_eq cid.0 o.0) (placed (place + 1) order o h)
    ] refl e

not_freed : (marks rows : List Row) (o : Cid) → has_row marks o ≡ true → is_among (free_cids marks rows) o ≡ false
not_freed marks [] o marked = refl
not_freed marks (row ∷ rows) o marked =
    elim (is_free marks row) as (λ t. is_free marks row ≡ t → is_among (map cid_in (cond t (row ∷ filter (is_free marks) rows) (filter (is_free marks) rows))) o ≡ false) [
      | true ↦ λ e.
          ap (λ t. t || is_among (free_cids marks rows) o) (apart o (cid_in row) (λ c. not (has_row marks c)) (ap not marked) (and_parts (length row.a == 32) (not (has_row marks (cid_in row))) e).1)
          ∙ not_freed marks rows o marked
      | false ↦ λ e. not_freed marks rows o marked
    ] refl

among_take : (n : ℕ) (cids : List Cid) (o : Cid) → is_among cids o ≡ false → is_among (take n cids) o ≡ false
among_take zero [] o e = refl
among_take (suc n) [] o e = refl
among_take zero (cid ∷ cids) o e = refl
among_take (suc n) (cid ∷ cids) o e =
    let both = or_parts (same_cid o cid) (is_among cids o) e in
    ap (λ t. t || is_among (take n cids) o) both.0 ∙ among_take n cids o both.1

module _ (cids : List Cid) (o : Cid) (kept : is_among cids o ≡ false) where
  same_find : (graph : List Stored) → find (λ (s : Stored). same_cid o s.cid) (filter (λ (s : Stored). not (is_among cids s.cid)) graph) ≡ find (λ (s : Stored). same_cid o s.cid) graph
  same_find [] = refl
  same_find (stored ∷ graph) =
      elim (is_among cids stored.cid) as (λ t. is_among cids stored.cid ≡ t → find (λ (s : Stored). same_cid o s.cid) (cond (not t) (stored ∷ filter (λ (s : Stored). not (is_among cids s.cid)) graph) (filter (λ (s : Stored). not (is_among cids s.cid)) graph)) ≡ find (λ (s : Stored). same_cid o s.cid) (stored ∷ graph)) [
        | true ↦ λ gone. same_find graph ∙ sym (ap (λ t. cond t (Some stored) (find (λ (s : Stored). same_cid o s.cid) graph)) (apart o stored.cid (λ c. is_among cids c) kept gone))
        | false ↦ λ left. ap (λ z. cond (same_cid o stored.cid) (Some stored) z) (same_find graph)
      ] refl

  same_block : (graph : List Stored) → block_in (filter (λ (s : Stored). not (is_among cids s.cid)) graph) o ≡ block_in graph o
  same_block graph = ap (λ (found : Option Stored). block_under o (option_map (λ (s : Stored). s.bytes) found)) (same_find graph)

map_same : (f g : Cid → Block) (order : List Cid) → ((o : Cid) → is_among order o ≡ true → f o ≡ g o) → map f order ≡ map g order
map_same f g [] same = refl
map_same f g (o ∷ order) same =
    let here : f o ≡ g o = same o (ap (λ t. t || is_among order o) ((bytes_eq-Decides o.0 o.0).1 refl)) in
    let rest : map f order ≡ map g order = map_same f g order (λ x e. same x (later (same_cid x o) e)) in
    λ i. here i ∷ rest i

pub keeps : SweepKeepsProcessed
keeps layout kept count =
    map_same (block_in (filter (λ (s : Stored). not (is_among (take count (free_cids (place_table 0 kept.order) (block_table kept.graph))) s.cid)) kept.graph)) (block_in kept.graph) kept.order (λ o e.
    same_block (take count (free_cids (place_table 0 kept.order) (block_table kept.graph))) o (among_take count (free_cids (place_table 0 kept.order) (block_table kept.graph)) o (not_freed (place_table 0 kept.order) (block_table kept.graph) o (placed 0 kept.order o e))) kept.graph)
