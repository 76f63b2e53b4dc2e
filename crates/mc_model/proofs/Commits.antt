-- What a keeper's commits need is where the events that they are may come.
use Rattle.std.proofs.Common.{◌≡◌, ◌+◌, ◌≤◌, Bool, true, false, List, [], ◌∷◌, ◌++◌, ◌||◌, sym, refl, ap, ◌∙◌, inl, inr, arith}
use Rattle.std.specs.List.{list_any}
use Rattle.std.proofs.lemmas.Bool.{or_parts, or_cases}
use Rattle.mc_base.specs.declared.cid.Cid.{Cid}
use Rattle.mc_model.specs.declared.block.Stored.{Stored}
use Rattle.mc_model.specs.Ascending.{is_once}
use Rattle.mc_model.specs.Events.{processed_mark, ended_mark, with_blocks, with_processed, with_walk_ended}
use Rattle.mc_model.specs.Front.{same_cid, is_among}
use Rattle.mc_model.specs.Graph.{Vertex, times, has, cids_in}
use Rattle.mc_model.specs.Kept.{Kept, is_stored, cids_of}
use Rattle.mc_model.specs.State.{Durable, vertex_of, vertices, durable_of}
use Rattle.mc_model.proofs.Blocks.{cids_in_vertices, in_graph_stored, times_once}
use Rattle.mc_model.proofs.Counts.{cid_is, times_none}
use Rattle.mc_model.proofs.Members.{list_any-map}

-- a test that holds for none of a list
none_has : (test : Cid → Bool) (xs : List Cid) → list_any test xs ≡ false → (c : Cid) → has c xs ≡ true → test c ≡ false
none_has test [] e c h = absurd (cc)
none_has test (x ∷ xs) e c h =
    let none = or_parts (test x) (list_any test xs) e in
    elim (or_cases (same_cid c x) (has c xs) h) [
      | inl s ↦ ap test (cid_is c x s) ∙ none.0
      | inr s ↦ none_has test xs none.1 c s
    ]

-- two lists without repeats, and nothing in both
pub apart_once : (xs ys : List Cid) → is_once same_cid xs ≡ true → is_once same_cid ys ≡ true → list_any (is_among xs) ys ≡ false → (c : Cid) → times c xs + times c ys ≤ 1
apart_once xs ys one two none c =
    elim (has c ys) as (λ t. has c ys ≡ t → times c xs + times c ys ≤ 1) [
      | true ↦ λ t. omega (arith, times_none c xs (none_has (is_among xs) ys none c t), times_once ys two c)
      | false ↦ λ t. omega (arith, times_none c ys t, times_once xs one c)
    ] refl

in_graph_has : (graph : List Stored) (c : Cid) → is_stored graph c ≡ has c (cids_of graph)
in_graph_has graph c =
    sym (in_graph_stored graph c) ∙ sym (list_any-map (same_cid c) (λ (vertex : Vertex). vertex.cid) (vertices graph)) ∙ ap (has c) (cids_in_vertices graph)

new_apart : (graph blocks : List Stored) → list_any (λ (stored : Stored). is_stored graph stored.cid) blocks ≡ list_any (is_among (cids_of graph)) (cids_of blocks)
new_apart graph [] = refl
new_apart graph (b ∷ blocks) = ap (λ z. z || list_any (λ (stored : Stored). is_stored graph stored.cid) blocks) (in_graph_has graph b.cid) ∙ ap (λ rest. has b.cid (cids_of graph) || rest) (new_apart graph blocks)

-- blocks that are new, each once
pub stored_apart : (graph blocks : List Stored) → is_once same_cid (cids_of graph) ≡ true → is_once same_cid (cids_of blocks) ≡ true
    → list_any (λ (stored : Stored). is_stored graph stored.cid) blocks ≡ false → (c : Cid) → times c (cids_in (vertices graph)) + times c (cids_in (vertices blocks)) ≤ 1
stored_apart graph blocks one two none c =
    let first : times c (cids_in (vertices graph)) ≡ times c (cids_of graph) = ap (times c) (cids_in_vertices graph) in
    let second : times c (cids_in (vertices blocks)) ≡ times c (cids_of blocks) = ap (times c) (cids_in_vertices blocks) in
    omega (arith, first, second, apart_once (cids_of graph) (cids_of blocks) one two (sym (new_apart graph blocks) ∙ none) c)

pub vertices-append : (graph blocks : List Stored) → vertices (graph ++ blocks) ≡ vertices graph ++ vertices blocks
vertices-append [] blocks = refl
vertices-append (s ∷ graph) blocks = ap (λ rest. vertex_of s ∷ rest) (vertices-append graph blocks)

-- what a commit leaves is what the event leaves

abbrev with_graph : Kept → List Vertex → Durable
with_graph kept graph = record { graph = graph; order = kept.order; mark = kept.mark }

pub store_is : (kept : Kept) (blocks : List Stored) → durable_of (record { graph = kept.graph ++ blocks; order = kept.order; mark = kept.mark }) ≡ with_blocks (durable_of kept) (vertices blocks)
store_is kept blocks = ap (with_graph kept) (vertices-append kept.graph blocks)

abbrev with_mark : Kept → List Cid → Bool → Durable
with_mark kept order mark = record { graph = vertices kept.graph; order = order; mark = mark }

pub process_is : (kept : Kept) (whole mark : Bool) (cids : List Cid) → mark ≡ processed_mark whole (durable_of kept) (kept.order ++ cids)
    → durable_of (record { graph = kept.graph; order = kept.order ++ cids; mark = mark }) ≡ with_processed whole (durable_of kept) cids
process_is kept whole mark cids e = ap (with_mark kept (kept.order ++ cids)) e

pub walk_end_is : (kept : Kept) (mark : Bool) → mark ≡ ended_mark (durable_of kept)
    → durable_of (record { graph = kept.graph; order = kept.order; mark = mark }) ≡ with_walk_ended (durable_of kept)
walk_end_is kept mark e = ap (with_mark kept kept.order) e
