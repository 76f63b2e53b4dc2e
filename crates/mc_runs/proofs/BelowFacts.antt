-- What is found below a block is one over equal processed blocks, in whatever order and however often they stand.
use Rattle.std.proofs.Common.{◌≡◌, ℕ, Bool, true, false, true≢false, not, cond, ◌&&◌, ◌||◌, List, [], ◌∷◌, map, Option, Some, None, refl, sym, ◌∙◌, ap}
use Rattle.std.specs.Prelude.{find}
use Rattle.std.specs.List.{list_any}
use Rattle.std.proofs.lemmas.Bool.{or_right}
use Rattle.mc_base.specs.declared.cid.Cid.{Cid}
use Rattle.mc_model.specs.declared.block.Block.{Block}
use Rattle.mc_model.specs.declared.block.Stored.{Stored}
use Rattle.mc_model.specs.Ascending.{is_once, once}
use Rattle.mc_model.specs.Front.{same_cid}
use Rattle.mc_model.specs.Graph.{IsReached, Vertex, has, in_graph, is_path, links_in, links_of}
use Rattle.mc_model.specs.Kept.{Kept, block_in, blocks_in, processed}
use Rattle.mc_model.specs.SameMembers.{SameMembers}
use Rattle.mc_model.proofs.Blocks.{block_in_cid}
use Rattle.mc_model.proofs.Counts.{cid_is}
use Rattle.mc_model.proofs.Members.{list_any-map}
use Rattle.mc_past.specs.Past.{FoundsAreOne, IsFoundBelow}
use Rattle.mc_view.specs.Reach.{IsViewOf, graph_of, vertex_of}
use Rattle.mc_view.specs.View.{cids_of}

-- identifiers, each once

has_passes : (test : Cid → Bool) (x : Cid) (xs : List Cid) → list_any (same_cid x) xs ≡ true → test x ≡ true → list_any test xs ≡ true
has_passes test x [] is passes = absurd (true≢false (sym is))
has_passes test x (y ∷ xs) is passes = by (λ e. has_passes test x xs e passes) (same_cid x y) refl is
  where
    by : (list_any (same_cid x) xs ≡ true → list_any test xs ≡ true) → (b : Bool) → same_cid x y ≡ b → (b || list_any (same_cid x) xs) ≡ true → (test y || list_any test xs) ≡ true
    by again true same e = ap (λ t. t || list_any test xs) (sym (ap test (cid_is x y same)) ∙ passes)
    by again false same e = or_right (test y) (list_any test xs) (again e)

once_any : (test : Cid → Bool) (xs : List Cid) → list_any test (once same_cid xs) ≡ list_any test xs
once_any test [] = refl
once_any test (x ∷ xs) = by (once_any test xs) (list_any (same_cid x) xs) refl
  where
    again : (t : Bool) → test x ≡ t → list_any (same_cid x) xs ≡ true → list_any test xs ≡ (t || list_any test xs)
    again true passes is = has_passes test x xs is passes
    again false fails is = refl

    by : list_any test (once same_cid xs) ≡ list_any test xs → (b : Bool) → list_any (same_cid x) xs ≡ b → list_any test (elim b [ true ↦ once same_cid xs | false ↦ x ∷ once same_cid xs ]) ≡ (test x || list_any test xs)
    by rest true is = rest ∙ again (test x) refl is
    by rest false none = ap (λ b. test x || b) rest

once_is_once : (xs : List Cid) → is_once same_cid (once same_cid xs) ≡ true
once_is_once [] = refl
once_is_once (x ∷ xs) = by (once_is_once xs) (list_any (same_cid x) xs) refl
  where
    by : is_once same_cid (once same_cid xs) ≡ true → (b : Bool) → list_any (same_cid x) xs ≡ b → is_once same_cid (elim b [ true ↦ once same_cid xs | false ↦ x ∷ once same_cid xs ]) ≡ true
    by rest true is = rest
    by rest false none = ap (λ b. not b && is_once same_cid (once same_cid xs)) (once_any (same_cid x) xs ∙ none) ∙ rest

-- blocks that are told by their identifiers

abbrev links_to : Cid → Cid → Block → Bool
links_to c d block = same_cid c block.cid && has d block.links

absorbs : (a b : Bool) → (a || (b && a)) ≡ a
absorbs true b = refl
absorbs false true = refl
absorbs false false = refl

module _ (block_at : Cid → Block) (cid_at : (x : Cid) → (block_at x).cid ≡ x) where
  any_link : (xs : List Cid) (c d : Cid) → list_any (links_to c d) (map block_at xs) ≡ (has c xs && has d (block_at c).links)
  any_link [] c d = refl
  any_link (x ∷ xs) c d = (λ i. (same_cid c (cid_at x i) && has d (block_at x).links) || any_link xs c d i) ∙ by (same_cid c x) refl
    where
      by : (b : Bool) → same_cid c x ≡ b → ((b && has d (block_at x).links) || (has c xs && has d (block_at c).links)) ≡ ((b || has c xs) && has d (block_at c).links)
      by true same = ap (λ (z : Cid). has d (block_at z).links || (has c xs && has d (block_at c).links)) (sym (cid_is c x same)) ∙ absorbs (has d (block_at c).links) (has c xs)
      by false other = refl

  first_links : (xs : List Cid) (c d : Cid) → has d (links_in (graph_of (map block_at xs)) c) ≡ (has c xs && has d (block_at c).links)
  first_links [] c d = refl
  first_links (x ∷ xs) c d = ap (λ (z : Cid). has d (links_of (cond (same_cid c z) (Some (vertex_of (block_at x))) later))) (cid_at x) ∙ by (first_links xs c d) (same_cid c x) refl
    where
      later : Option Vertex
      later = find (λ (vertex : Vertex). same_cid c vertex.cid) (graph_of (map block_at xs))

      by : has d (links_of later) ≡ (has c xs && has d (block_at c).links) → (b : Bool) → same_cid c x ≡ b
          → has d (links_of (cond b (Some (vertex_of (block_at x))) later)) ≡ ((b || has c xs) && has d (block_at c).links)
      by rest true same = ap (λ (z : Cid). has d (block_at z).links) (sym (cid_is c x same))
      by rest false other = rest

  cids_are : (xs : List Cid) → cids_of (map block_at xs) ≡ xs
  cids_are [] = refl
  cids_are (x ∷ xs) = λ i. cid_at x i ∷ cids_are xs i

-- equal blocks reach the same ones

module _ (all other : List Block) (same : SameMembers all other) (links : (c d : Cid) → has d (links_in (graph_of all) c) ≡ has d (links_in (graph_of other) c)) where
  stands : (c : Cid) → in_graph (graph_of all) c ≡ in_graph (graph_of other) c
  stands c =
      list_any-map (λ (vertex : Vertex). same_cid c vertex.cid) vertex_of all ∙ same.same (λ block. same_cid c block.cid)
      ∙ sym (list_any-map (λ (vertex : Vertex). same_cid c vertex.cid) vertex_of other)

  same_path : (start path : List Cid) (c : Cid) → is_path (graph_of all) start path c ≡ is_path (graph_of other) start path c
  same_path start [] c = ap (λ b. has c start && b) (stands c)
  same_path start (m ∷ path) c = λ i. same_path start path m i && (links m c i && stands c i)

  view_moves : (start : Cid) (below : List Block) → IsViewOf all start below → IsViewOf other start below
  view_moves start below view = record {
    of_all = λ test none. view.of_all test (same.same test ∙ none);
    reached = λ c. (
      (λ is. let reached = (view.reached c).0 is in record { path = reached.path; along = sym (same_path (start ∷ []) reached.path c) ∙ reached.along }),
      (λ (reached : IsReached (graph_of other) (start ∷ []) c). (view.reached c).1 (record { path = reached.path; along = same_path (start ∷ []) reached.path c ∙ reached.along })),
    );
  }

  found_moves : (cid : Cid) (key : List ℕ) (found : Option (Option (List ℕ))) → IsFoundBelow cid key all found → IsFoundBelow cid key other found
  found_moves cid key None none = sym (same.same (λ block. same_cid cid block.cid)) ∙ none
  found_moves cid key (Some value) is = (sym (same.same (λ block. same_cid cid block.cid)) ∙ is.0, (is.1.0, view_moves cid is.1.0 is.1.1, is.1.2))

-- one answer

same_links : (graph graph2 : List Stored) (xs ys : List Cid) → SameMembers (blocks_in graph xs) (blocks_in graph2 ys) → (c d : Cid)
    → has d (links_in (graph_of (blocks_in graph xs)) c) ≡ has d (links_in (graph_of (blocks_in graph2 ys)) c)
same_links graph graph2 xs ys same c d =
    first_links (block_in graph) (block_in_cid graph) xs c d ∙ sym (any_link (block_in graph) (block_in_cid graph) xs c d) ∙ same.same (links_to c d)
    ∙ any_link (block_in graph2) (block_in_cid graph2) ys c d ∙ sym (first_links (block_in graph2) (block_in_cid graph2) ys c d)

once_members : (graph : List Stored) (xs : List Cid) → SameMembers (blocks_in graph xs) (blocks_in graph (once same_cid xs))
once_members graph xs = record {
  same = λ test.
      list_any-map test (block_in graph) xs ∙ sym (once_any (λ c. test (block_in graph c)) xs) ∙ sym (list_any-map test (block_in graph) (once same_cid xs));
}

pub below_one : (founds : FoundsAreOne) (graph graph2 : List Stored) (xs ys : List Cid) (cid : Cid) (key : List ℕ) (found found2 : Option (Option (List ℕ))) → SameMembers (blocks_in graph xs) (blocks_in graph2 ys)
    → IsFoundBelow cid key (blocks_in graph xs) found → IsFoundBelow cid key (blocks_in graph2 ys) found2 → found ≡ found2
below_one founds graph graph2 xs ys cid key found found2 same is is2 =
    founds (blocks_in graph each) cid key found found2 (ap (is_once same_cid) (cids_are (block_in graph) (block_in_cid graph) each) ∙ once_is_once xs)
    (found_moves (blocks_in graph xs) (blocks_in graph each) first (same_links graph graph xs each first) cid key found is)
    (found_moves (blocks_in graph2 ys) (blocks_in graph each) second (same_links graph2 graph ys each second) cid key found2 is2)
  where
    each : List Cid
    each = once same_cid xs

    first : SameMembers (blocks_in graph xs) (blocks_in graph each)
    first = once_members graph xs

    second : SameMembers (blocks_in graph2 ys) (blocks_in graph each)
    second = record { same = λ test. sym (same.same test) ∙ first.same test }

-- also over one replica's blocks
pub below_again : (founds : FoundsAreOne) (kept : Kept) (cid : Cid) (key : List ℕ) (found found2 : Option (Option (List ℕ))) → IsFoundBelow cid key (processed kept) found → IsFoundBelow cid key (processed kept) found2 → found ≡ found2
below_again founds kept cid key found found2 is is2 = below_one founds kept.graph kept.graph kept.order kept.order cid key found found2 (record { same = λ test. refl }) is is2
