-- The table of stored blocks against the list of them.
use Rattle.std.proofs.Common.{◌≡◌, true, false, cond, ◌||◌, List, [], ◌∷◌, ◌++◌, map, Option, Some, None, refl, ap, ◌∙◌}
use Rattle.std.specs.Prelude.{find, is_some}
use Rattle.std.specs.Option.{option_map}
use Rattle.std.specs.Map.{lookup}
use Rattle.std.specs.HashMap.{HashMap, get}
use Rattle.std.specs.List.{list_any}
use Rattle.std.proofs.lemmas.Bool.{or_parts}
use Rattle.mc_base.specs.declared.cid.Cid.{Cid}
use Rattle.mc_model.specs.declared.block.Stored.{Stored}
use Rattle.mc_model.specs.Front.{same_cid}
use Rattle.mc_model.specs.Kept.{bytes_at, is_stored, cids_of}
use Rattle.mc_model.proofs.Counts.{same_cid-symm}
use Rattle.mc_graph.specs.declared.graph.BlockRow.{BlockRow}
use Rattle.mc_graph.specs.Graph.{stored_of, graph_of}

pub bytes_at-map : (cid : Cid) (entries : List (Cid × BlockRow)) → bytes_at (map stored_of entries) cid ≡ option_map (λ (row : BlockRow). row.bytes) (lookup (same_cid cid) entries)
bytes_at-map cid [] = refl
bytes_at-map cid (entry ∷ entries) =
    elim (same_cid cid entry.0) as (λ t. option_map (λ (stored : Stored). stored.bytes) (cond t (Some (stored_of entry)) (find (λ (stored : Stored). same_cid cid stored.cid) (map stored_of entries)))
    ≡ option_map (λ (row : BlockRow). row.bytes) (cond t (Some entry.1) (lookup (same_cid cid) entries))) [
      | true ↦ refl
      | false ↦ bytes_at-map cid entries
    ]

pub bytes_at-graph : {S : Type 0} (cid : Cid) (blocks : HashMap Cid BlockRow S) → bytes_at (graph_of blocks) cid ≡ option_map (λ (row : BlockRow). row.bytes) (get same_cid blocks cid)
bytes_at-graph cid blocks = bytes_at-map cid blocks.entries

-- what is stored has a row
pub is_stored-graph : {S : Type 0} (cid : Cid) (blocks : HashMap Cid BlockRow S) → is_stored (graph_of blocks) cid ≡ is_some (get same_cid blocks cid)
is_stored-graph cid blocks = ap is_some (bytes_at-graph cid blocks) ∙ by (get same_cid blocks cid)
  where
    by : (row : Option BlockRow) → is_some (option_map (λ (r : BlockRow). r.bytes) row) ≡ is_some row
    by None = refl
    by (Some row) = refl

pub map-push : {A B : Type 0} (f : A → B) (xs : List A) (x : A) → map f (xs ++ x ∷ []) ≡ map f xs ++ f x ∷ []
map-push f [] x = refl
map-push f (y ∷ xs) x = ap (λ rest. f y ∷ rest) (map-push f xs x)

-- what is stored once one more block is
stored_more : (graph : List Stored) (stored : Stored) (cid : Cid) → is_stored graph cid ≡ false → same_cid cid stored.cid ≡ false → is_stored (graph ++ stored ∷ []) cid ≡ false
stored_more [] stored cid e f = ap (λ t. is_some (option_map (λ (s : Stored). s.bytes) (cond t (Some stored) None))) f
stored_more (first ∷ graph) stored cid e f =
    elim (same_cid cid first.cid) as (λ t. is_some (option_map (λ (s : Stored). s.bytes) (cond t (Some first) (find (λ (s : Stored). same_cid cid s.cid) graph))) ≡ false
    → is_some (option_map (λ (s : Stored). s.bytes) (cond t (Some first) (find (λ (s : Stored). same_cid cid s.cid) (graph ++ stored ∷ [])))) ≡ false) [
      | true ↦ λ h. h
      | false ↦ λ h. stored_more graph stored cid h f
    ] e

pub still_new : (graph : List Stored) (first : Stored) (store : List Stored) → list_any (λ (s : Stored). is_stored graph s.cid) store ≡ false → list_any (same_cid first.cid) (cids_of store) ≡ false
    → list_any (λ (s : Stored). is_stored (graph ++ first ∷ []) s.cid) store ≡ false
still_new graph first [] e f = refl
still_new graph first (s ∷ store) e f =
    let here = or_parts (is_stored graph s.cid) (list_any (λ (s : Stored). is_stored graph s.cid) store) e in
    let other = or_parts (same_cid first.cid s.cid) (list_any (same_cid first.cid) (cids_of store)) f in
    ap (λ t. t || list_any (λ (s : Stored). is_stored (graph ++ first ∷ []) s.cid) store) (stored_more graph first s.cid here.0 (same_cid-symm s.cid first.cid ∙ other.0))
    ∙ still_new graph first store here.1 other.1
