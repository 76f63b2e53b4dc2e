-- Stored blocks: their identifiers, and how to find them.
use Rattle.std.proofs.Common.{◌≡◌, ℕ, ◌+◌, ◌≤◌, Bool, true, false, not, cond, List, [], ◌∷◌, ◌++◌, Option, Some, None, ◌||◌, ◌&&◌, sym, refl, ap, ◌∙◌, arith, length}
use Rattle.std.specs.Prelude.{nat_le, is_some, Result, Ok, Err, unwrap_or}
use Rattle.std.specs.List.{list_all, find}
use Rattle.std.specs.Option.{option_map}
use Rattle.std.specs.Result.{result_ok}
use Rattle.std.specs.Str.{bytes_eq}
use Rattle.std.proofs.lemmas.Bool.{and_parts}
use Rattle.mc_base.specs.Cid.{digest_of}
use Rattle.mc_base.specs.NodeRead.{NodeFault, NodeText, node_of}
use Rattle.mc_base.specs.declared.cid.Cid.{Cid}
use Rattle.mc_model.specs.declared.block.Block.{Block}
use Rattle.mc_model.specs.declared.block.Stored.{Stored}
use Rattle.mc_model.specs.declared.delta.Delta.{Delta}
use Rattle.mc_model.specs.Ascending.{is_once}
use Rattle.mc_model.specs.Front.{same_cid, is_processed, is_linked, links}
use Rattle.mc_model.specs.Graph.{Vertex, times, has, cids_in, in_graph, links_of, links_in, all_links}
use Rattle.mc_model.specs.Kept.{bytes_at, is_stored, block_under, block_in, blocks_in, cids_of}
use Rattle.mc_model.specs.Offer.{Damage, TooLarge, WrongDigest, empty_delta, block_max, offer, block_of, block_with, block_of_node, links_from, data_of}
use Rattle.mc_model.specs.State.{vertex_of, vertices}
use Rattle.mc_model.proofs.Counts.{cid_is, cid_itself, times_has, times_none}
use Rattle.mc_model.proofs.Members.{list_any-flat_map}

-- the block of a reading has the identifier under which it is read

abbrev block_or : Cid → Result Block Damage → Block
block_or cid reading = unwrap_or (result_ok reading) (record { cid = cid; links = []; delta = empty_delta })

with_cid : (cid : Cid) (links : Result (List Cid) Damage) (delta : Result Delta Damage) → (block_or cid (block_with cid links delta)).cid ≡ cid
with_cid cid (Err damage) delta = refl
with_cid cid (Ok links) (Err damage) = refl
with_cid cid (Ok links) (Ok delta) = refl

node_cid : (cid : Cid) (node : Result NodeText NodeFault) → (block_or cid (block_of_node cid node)).cid ≡ cid
node_cid cid (Err fault) = refl
node_cid cid (Ok node) = with_cid cid (links_from 0 node.links) (data_of node.payload)

pub block_of_cid : (cid : Cid) (bytes : List ℕ) → (block_of cid bytes).cid ≡ cid
unfolding offer
block_of_cid cid bytes =
    elim (not (nat_le (length bytes) block_max)) as (λ t. (block_or cid (cond t (Err (TooLarge (length bytes))) (cond (not (bytes_eq (digest_of bytes) cid.0)) (Err (WrongDigest (digest_of bytes))) (block_of_node cid (node_of bytes))))).cid ≡ cid) [
      | true ↦ refl
      | false ↦ elim (not (bytes_eq (digest_of bytes) cid.0)) as (λ t. (block_or cid (cond t (Err (WrongDigest (digest_of bytes))) (block_of_node cid (node_of bytes)))).cid ≡ cid) [
        | true ↦ refl
        | false ↦ node_cid cid (node_of bytes)
      ]
    ]

under_cid : (cid : Cid) (bytes : Option (List ℕ)) → (block_under cid bytes).cid ≡ cid
under_cid cid None = block_of_cid cid []
under_cid cid (Some bytes) = block_of_cid cid bytes

pub block_in_cid : (graph : List Stored) (cid : Cid) → (block_in graph cid).cid ≡ cid
block_in_cid graph cid = under_cid cid (bytes_at graph cid)

-- what is processed, and what is linked

pub is_processed_has : (graph : List Stored) (cids : List Cid) (c : Cid) → is_processed (blocks_in graph cids) c ≡ has c cids
is_processed_has graph [] c = refl
is_processed_has graph (x ∷ cids) c =
    ap (λ z. same_cid c z || is_processed (blocks_in graph cids) c) (block_in_cid graph x) ∙ ap (λ rest. same_cid c x || rest) (is_processed_has graph cids c)

pub is_linked_has : (blocks : List Block) (c : Cid) → is_linked blocks c ≡ has c (links blocks)
is_linked_has blocks c = sym (list_any-flat_map (same_cid c) (λ (block : Block). block.links) blocks)

-- stored blocks and vertices

pub cids_in_vertices : (graph : List Stored) → cids_in (vertices graph) ≡ cids_of graph
cids_in_vertices [] = refl
cids_in_vertices (s ∷ graph) = ap (λ rest. s.cid ∷ rest) (cids_in_vertices graph)

pub in_graph_stored : (graph : List Stored) (c : Cid) → in_graph (vertices graph) c ≡ is_stored graph c
in_graph_stored [] c = refl
in_graph_stored (s ∷ graph) c =
    elim (same_cid c s.cid) as (λ t. (t || in_graph (vertices graph) c) ≡ is_some (option_map (λ (stored : Stored). stored.bytes) (cond t (Some s) (find (λ (stored : Stored). same_cid c stored.cid) graph)))) [
      | true ↦ refl
      | false ↦ in_graph_stored graph c
    ]

pub links_in_stored : (graph : List Stored) (c : Cid) → is_stored graph c ≡ true → links_in (vertices graph) c ≡ (block_in graph c).links
links_in_stored [] c e = absurd (cc)
links_in_stored (s ∷ graph) c e =
    elim (same_cid c s.cid) as (λ t. same_cid c s.cid ≡ t
    → is_some (option_map (λ (stored : Stored). stored.bytes) (cond t (Some s) (find (λ (stored : Stored). same_cid c stored.cid) graph))) ≡ true
    → links_of (cond t (Some (vertex_of s)) (find (λ (vertex : Vertex). same_cid c vertex.cid) (vertices graph)))
    ≡ (block_under c (option_map (λ (stored : Stored). stored.bytes) (cond t (Some s) (find (λ (stored : Stored). same_cid c stored.cid) graph)))).links) [
      | true ↦ λ t h. ap (λ (z : Cid). (block_of z s.bytes).links) (sym (cid_is c s.cid t))
      | false ↦ λ t h. links_in_stored graph c h
    ] refl e

pub all_links_blocks : (graph : List Stored) (cids : List Cid) → list_all (is_stored graph) cids ≡ true → all_links (vertices graph) cids ≡ links (blocks_in graph cids)
all_links_blocks graph [] e = refl
all_links_blocks graph (x ∷ cids) e =
    let parts = and_parts (is_stored graph x) (list_all (is_stored graph) cids) e in
    ap (λ front. front ++ all_links (vertices graph) cids) (links_in_stored graph x parts.0) ∙ ap (λ rest. (block_in graph x).links ++ rest) (all_links_blocks graph cids parts.1)

-- a list without repeats

pub times_once : (xs : List Cid) → is_once same_cid xs ≡ true → (c : Cid) → times c xs ≤ 1
times_once [] e c = omega arith
times_once (x ∷ xs) e c =
    elim (has x xs) as (λ t. has x xs ≡ t → (not t && is_once same_cid xs) ≡ true → times c (x ∷ xs) ≤ 1) [
      | true ↦ λ t h. absurd (cc)
      | false ↦ λ t h. elim (same_cid c x) as (λ s. same_cid c x ≡ s → cond s (1 + times c xs) (times c xs) ≤ 1) [
        | true ↦ λ s. let none : times c xs ≡ 0 = ap (λ (z : Cid). times z xs) (cid_is c x s) ∙ times_none x xs t in omega (arith, none)
        | false ↦ λ s. times_once xs h c
      ] refl
    ] refl e

pub once_times : (xs : List Cid) → ((c : Cid) → times c xs ≤ 1) → is_once same_cid xs ≡ true
once_times [] h = refl
once_times (x ∷ xs) h =
    elim (has x xs) as (λ t. has x xs ≡ t → (not t && is_once same_cid xs) ≡ true) [
      | true ↦ λ t. absurd (twice t)
      | false ↦ λ t. once_times xs rest
    ] refl
  where
    front : times x (x ∷ xs) ≡ 1 + times x xs
    front = ap (λ (t : Bool). cond t (1 + times x xs) (times x xs)) (cid_itself x)

    twice : has x xs ≡ true → ⊥
    twice t = omega (arith, front, times_has x xs t, h x)

    rest : (c : Cid) → times c xs ≤ 1
    rest c = elim (same_cid c x) as (λ s. cond s (1 + times c xs) (times c xs) ≤ 1 → times c xs ≤ 1) [
      | true ↦ λ k. omega (arith, k)
      | false ↦ λ k. k
    ] (h c)
