-- What a keeper tells and what outlives a stop: the same links, gaps and heads, and both are sound together.
use Rattle.std.proofs.Common.{rules, ◌≡◌, ℕ, suc, ◌≤◌, Bool, true, false, not, cond, List, [], ◌∷◌, ◌++◌, map, ◌||◌, ◌&&◌, sym, refl, ap, ◌∙◌, subst, length}
use Rattle.std.specs.Prelude.{is_some, filter, ◌==◌, ◌↔◌, Option, Some, None, unwrap_or}
use Rattle.std.specs.List.{list_all, find, flat_map}
use Rattle.std.specs.Option.{option_map}
use Rattle.std.proofs.lemmas.List.Elements.{filter_agree}
use Rattle.std.proofs.Math.Bool.{and-false}
use Rattle.std.proofs.lemmas.Bool.{and_from, and_parts}
use Rattle.mc_base.specs.declared.cid.Cid.{Cid}
use Rattle.mc_model.specs.declared.block.Stored.{Stored}
use Rattle.mc_model.specs.Ascending.{once}
use Rattle.mc_model.specs.Events.{processed_mark}
use Rattle.mc_model.specs.Found.{Good, PeerOffers, peer_list, offers_from, found_in}
use Rattle.mc_model.specs.Front.{same_cid, is_processed, is_linked, is_gap, links, gaps, Head, heads, head_at}
use Rattle.mc_model.specs.Graph.{times, has, links_in, all_links, no_gaps, gaps_in, heads_in, HasNoCycle, IsReached}
use Rattle.mc_model.specs.Kept.{Kept, IsKept, bytes_at, is_stored, block_under, processed, blocks_in, cids_of}
use Rattle.mc_model.specs.Offer.{is_good}
use Rattle.mc_model.specs.State.{Durable, vertices, durable_of, AllGood, DurableHolds}
use Rattle.mc_model.proofs.Blocks.{is_processed_has, is_linked_has, cids_in_vertices, in_graph_stored, links_in_stored, all_links_blocks, times_once, once_times}
use Rattle.mc_model.proofs.Climb.{reached, path_within, reached_same}
use Rattle.mc_model.proofs.Counts.{cid_is, all_has, has_all}
use Rattle.mc_model.proofs.Found.{first_good}
use Rattle.mc_model.proofs.Heads.{heads_cid, is_head}

not_zero : (n : ℕ) → (suc n == 0) ≡ false
not_zero n = search rules

module _ (kept : Kept) (sound : IsKept kept) where
  abbrev durable : Durable
  durable = durable_of kept

  -- the links of processed blocks, block by block
  pub kept_links : links (processed kept) ≡ all_links durable.graph durable.order
  kept_links = sym (all_links_blocks kept.graph kept.order sound.stored)

  pub kept_linked : (c : Cid) → is_linked (processed kept) c ≡ has c (all_links durable.graph durable.order)
  kept_linked c = is_linked_has (processed kept) c ∙ ap (has c) kept_links

  pub kept_gaps : gaps (processed kept) ≡ once same_cid (gaps_in durable.graph durable.order)
  kept_gaps =
      ap (once same_cid)
      (filter_agree (λ c. not (is_processed (processed kept) c)) (λ c. not (has c kept.order)) (λ c. ap not (is_processed_has kept.graph kept.order c)) (links (processed kept))
      ∙ ap (filter (λ c. not (has c kept.order))) kept_links)

  pub kept_no_gaps : no_gaps durable.graph durable.order ≡ (length (gaps (processed kept)) == 0)
  kept_no_gaps = sym (ap (λ cids. length cids == 0) kept_gaps ∙ none_once (λ c. has c kept.order) (all_links durable.graph durable.order))
    where
      some_once : (x : Cid) (xs : List Cid) → (length (once same_cid (x ∷ xs)) == 0) ≡ false
      some_once x [] = refl
      some_once x (y ∷ xs) =
          elim (has x (y ∷ xs)) as (λ t. (length {A = Cid} (elim t [ true ↦ once same_cid (y ∷ xs) | false ↦ x ∷ once same_cid (y ∷ xs) ]) == 0) ≡ false) [ true ↦ some_once y xs | false ↦ not_zero (length (once same_cid (y ∷ xs))) ]

      none_once : (test : Cid → Bool) (xs : List Cid) → (length (once same_cid (filter (λ c. not (test c)) xs)) == 0) ≡ list_all test xs
      none_once test [] = refl
      none_once test (x ∷ xs) =
          elim (test x) as (λ t. (length (once same_cid (cond (not t) (x ∷ filter (λ c. not (test c)) xs) (filter (λ c. not (test c)) xs))) == 0) ≡ (t && list_all test xs)) [
            | true ↦ none_once test xs
            | false ↦ some_once x (filter (λ c. not (test c)) xs)
          ]

  has_filter : (keep : Cid → Bool) (c : Cid) (xs : List Cid) → has c (filter keep xs) ≡ (has c xs && keep c)
  has_filter keep c [] = refl
  has_filter keep c (x ∷ xs) =
      elim (same_cid c x) as (λ s. same_cid c x ≡ s → has c (cond (keep x) (x ∷ filter keep xs) (filter keep xs)) ≡ ((s || has c xs) && keep c)) [
        | true ↦ λ s. subst (λ (z : Cid). has c (cond (keep z) (x ∷ filter keep xs) (filter keep xs)) ≡ keep c) (cid_is c x s)
            (elim (keep c) as (λ t. keep c ≡ t → has c (cond t (x ∷ filter keep xs) (filter keep xs)) ≡ t) [
              | true ↦ λ k. ap (λ z. z || has c (filter keep xs)) s
              | false ↦ λ k. has_filter keep c xs ∙ ap (λ z. has c xs && z) k ∙ and-false (has c xs)
            ] refl)
        | false ↦ λ s. elim (keep x) as (λ t. has c (cond t (x ∷ filter keep xs) (filter keep xs)) ≡ (has c xs && keep c)) [
          | true ↦ ap (λ z. z || has c (filter keep xs)) s ∙ has_filter keep c xs
          | false ↦ has_filter keep c xs
        ]
      ] refl

  pub kept_gap : (c : Cid) → is_gap (processed kept) c ≡ has c (gaps_in durable.graph durable.order)
  kept_gap c =
      ap (λ z. z && not (is_processed (processed kept) c)) (kept_linked c)
      ∙ ap (λ z. has c (all_links durable.graph durable.order) && not z) (is_processed_has kept.graph kept.order c)
      ∙ sym (has_filter (λ d. not (has d kept.order)) c (all_links durable.graph durable.order))

  pub kept_head : (c : Cid) → is_some (head_at (processed kept) c) ≡ has c (heads_in durable.graph durable.order)
  kept_head c =
      is_head (processed kept) c
      ∙ ap (λ z. z && not (is_linked (processed kept) c)) (is_processed_has kept.graph kept.order c)
      ∙ ap (λ z. has c kept.order && not z) (kept_linked c)
      ∙ sym (has_filter (λ d. not (has d (all_links durable.graph durable.order))) c kept.order)

  pub kept_heads : (c : Cid) → has c (map (λ (head : Head). head.0) (heads (processed kept))) ≡ has c (heads_in durable.graph durable.order)
  kept_heads c = heads_cid (processed kept) c ∙ sym (is_head (processed kept) c) ∙ kept_head c

pub all_good : (graph : List Stored) → list_all (λ (stored : Stored). is_good stored.cid stored.bytes) graph ≡ true → AllGood (vertices graph)
all_good [] e = tt
all_good (s ∷ graph) e = let parts = and_parts (is_good s.cid s.bytes) (list_all (λ (stored : Stored). is_good stored.cid stored.bytes) graph) e in ((parts.0, refl), all_good graph parts.1)

good_all : (graph : List Stored) → AllGood (vertices graph) → list_all (λ (stored : Stored). is_good stored.cid stored.bytes) graph ≡ true
good_all [] h = refl
good_all (s ∷ graph) h = and_from _ _ h.0.0 (good_all graph h.1)

-- what a keeper tells is sound
pub kept_holds : (kept : Kept) → IsKept kept → DurableHolds (durable_of kept)
kept_holds kept sound = record {
  good = all_good kept.graph sound.good;
  stored_once = λ c. subst (λ (z : List Cid). times c z ≤ 1) (sym (cids_in_vertices kept.graph)) (times_once (cids_of kept.graph) sound.stored_once c);
  order_once = times_once kept.order sound.order_once;
  stored = λ c e. in_graph_stored kept.graph c ∙ all_has (is_stored kept.graph) kept.order sound.stored c e;
}

-- and where that is so it is what a keeper may tell
pub holds_kept : (kept : Kept) → DurableHolds (durable_of kept) → IsKept kept
holds_kept kept sound = record {
  good = good_all kept.graph sound.good;
  stored_once = once_times (cids_of kept.graph) (λ c. subst (λ (z : List Cid). times c z ≤ 1) (cids_in_vertices kept.graph) (sound.stored_once c));
  order_once = once_times kept.order sound.order_once;
  stored = has_all (is_stored kept.graph) kept.order (λ c e. sym (in_graph_stored kept.graph c) ∙ sound.stored c e);
}

abbrev head_cids : Kept → List Cid
head_cids kept = map (λ (head : Head). head.0) (heads (processed kept))

-- without gaps and without cycles, what is processed is what the heads reach
pub kept_reach : (kept : Kept) → IsKept kept → length (gaps (processed kept)) ≡ 0 → HasNoCycle (vertices kept.graph) → (c : Cid) → has c kept.order ≡ true ↔ IsReached (vertices kept.graph) (head_cids kept) c
kept_reach kept sound none acyclic c = (
  (λ e. reached_same (vertices kept.graph) (heads_in (vertices kept.graph) kept.order) (head_cids kept) (λ d. sym (kept_heads kept sound d)) c
      (reached (vertices kept.graph) kept.order acyclic (kept_holds kept sound).stored c e)),
  (λ h. let from : IsReached (vertices kept.graph) (heads_in (vertices kept.graph) kept.order) c = reached_same (vertices kept.graph) (head_cids kept) (heads_in (vertices kept.graph) kept.order) (kept_heads kept sound) c h in
      path_within (vertices kept.graph) kept.order full from.path c from.along),
)
  where
    full : no_gaps (vertices kept.graph) kept.order ≡ true
    full = kept_no_gaps kept sound ∙ ap (λ n. n == 0) none

-- the mark of a processing by the number of gaps that it leaves
pub kept_mark : (kept : Kept) (cids : List Cid) → IsKept (record { graph = kept.graph; order = kept.order ++ cids; mark = kept.mark })
    → processed_mark true (durable_of kept) (kept.order ++ cids) ≡ not (length (gaps (blocks_in kept.graph (kept.order ++ cids))) == 0)
kept_mark kept cids sound = ap not (kept_no_gaps (record { graph = kept.graph; order = kept.order ++ cids; mark = kept.mark }) sound)

-- a stored block is good
stored_good : (graph : List Stored) (c : Cid) (bytes : List ℕ) → list_all (λ (stored : Stored). is_good stored.cid stored.bytes) graph ≡ true → bytes_at graph c ≡ Some bytes → is_good c bytes ≡ true
stored_good [] c bytes all e = absurd (let no : false ≡ true = ap is_some e in cc)
stored_good (s ∷ graph) c bytes all e =
    let parts = and_parts (is_good s.cid s.bytes) (list_all (λ (stored : Stored). is_good stored.cid stored.bytes) graph) all in
    elim (same_cid c s.cid) as (λ t. same_cid c s.cid ≡ t
    → option_map (λ (stored : Stored). stored.bytes) (cond t (Some s) (find (λ (stored : Stored). same_cid c stored.cid) graph)) ≡ Some bytes → is_good c bytes ≡ true) [
      | true ↦ λ t h. let same : s.bytes ≡ bytes = ap (λ found. unwrap_or found []) h in ap (λ (z : Cid). is_good z bytes) (cid_is c s.cid t) ∙ ap (is_good s.cid) (sym same) ∙ parts.0
      | false ↦ λ t h. stored_good graph c bytes parts.1 h
    ] refl e

-- and its own replica finds it first, with the links that it has in the graph
pub own_found : (kept : Kept) → IsKept kept → (c : Cid) (peers : List PeerOffers) → is_stored kept.graph c ≡ true
    → found_in (offers_from (bytes_at kept.graph c) peers) c ≡ Good (links_in (vertices kept.graph) c)
own_found kept sound c peers e = found (bytes_at kept.graph c) refl e
  where
    found : (bytes : Option (List ℕ)) → bytes_at kept.graph c ≡ bytes → is_some bytes ≡ true → found_in (offers_from bytes peers) c ≡ Good (links_in (vertices kept.graph) c)
    found None same some = absurd (let no : false ≡ true = some in cc)
    found (Some bytes) same some =
        first_good c bytes (flat_map peer_list peers) (stored_good kept.graph c bytes sound.good same)
        ∙ ap Good (ap (λ z. (block_under c z).links) (sym same) ∙ sym (links_in_stored kept.graph c e))
