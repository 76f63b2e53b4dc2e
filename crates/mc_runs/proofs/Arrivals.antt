-- The processed blocks alone as a graph, in which each is reached from a head.
use Rattle.std.proofs.Common.{◌≡◌, Bool, true, false, not, cond, ◌||◌, ◌&&◌, inl, inr, List, [], ◌∷◌, ◌++◌, map, Some, refl, sym, ap, ◌∙◌, subst}
use Rattle.std.specs.Prelude.{filter, find}
use Rattle.std.specs.List.{list_any}
use Rattle.std.proofs.lemmas.Bool.{and_from, and_parts, or_right}
use Rattle.mc_base.specs.declared.cid.Cid.{Cid}
use Rattle.mc_model.specs.Drain.{IsClosed, is_new, is_way}
use Rattle.mc_model.specs.Found.{Offers, found_links, is_found}
use Rattle.mc_model.specs.Front.{same_cid}
use Rattle.mc_model.specs.Graph.{HasNoCycle, IsReached, Vertex, all_links, gaps_in, has, heads_in, in_graph, is_path, is_trail, links_in, links_of}
use Rattle.mc_model.proofs.Climb.{heads_has, reached}
use Rattle.mc_model.proofs.Counts.{cid_is, cid_itself, linked_from}
use Rattle.mc_model.proofs.Members.{list_any-filter}
use Rattle.mc_runs.specs.Exports.{ExportsArrive}

module _ (graph : List Vertex) (order : List Cid) (none : HasNoCycle graph) where
  vertex_at : Cid → Vertex
  vertex_at c = record { cid = c; bytes = []; links = links_in graph c }

  abbrev known : List Cid → List Vertex
  known cids = map (λ (c : Cid). record { cid = c; bytes = []; links = links_in graph c }) cids

  known_in : (cids : List Cid) (c : Cid) → in_graph (known cids) c ≡ has c cids
  known_in [] c = refl
  known_in (x ∷ cids) c = ap (λ b. same_cid c x || b) (known_in cids c)

  -- the links of a processed block are the same, and any other has none
  known_links : (cids : List Cid) (c : Cid) → has c cids ≡ true → links_in (known cids) c ≡ links_in graph c
  known_links [] c e = absurd (let f : false ≡ true = e in cc)
  known_links (x ∷ cids) c e = by (known_links cids c) (same_cid c x) refl e
    where
      by : (has c cids ≡ true → links_in (known cids) c ≡ links_in graph c) → (b : Bool) → same_cid c x ≡ b → (b || has c cids) ≡ true
          → links_of (cond b (Some (record { cid = x; bytes = []; links = links_in graph x })) (find (λ (vertex : Vertex). same_cid c vertex.cid) (known cids))) ≡ links_in graph c
      by again true same f = ap (links_in graph) (sym (cid_is c x same))
      by again false same f = again f

  unknown_links : (cids : List Cid) (c : Cid) → has c cids ≡ false → links_in (known cids) c ≡ []
  unknown_links [] c e = refl
  unknown_links (x ∷ cids) c e = by (unknown_links cids c) (same_cid c x) e
    where
      by : (has c cids ≡ false → links_in (known cids) c ≡ []) → (b : Bool) → (b || has c cids) ≡ false
          → links_of (cond b (Some (record { cid = x; bytes = []; links = links_in graph x })) (find (λ (vertex : Vertex). same_cid c vertex.cid) (known cids))) ≡ []
      by again true f = absurd (cc)
      by again false f = again f

  -- so nothing leads back to itself there
  link_there : (a c : Cid) → has c (links_in (known order) a) ≡ true → has c (links_in graph a) ≡ true
  link_there a c e = by (has a order) refl
    where
      by : (b : Bool) → has a order ≡ b → has c (links_in graph a) ≡ true
      by true f = ap (has c) (sym (known_links order a f)) ∙ e
      by false f = absurd (let g : false ≡ true = sym (ap (has c) (unknown_links order a f)) ∙ e in cc)

  trail_there : (a : Cid) (between : List Cid) (c : Cid) → is_trail (known order) a between c ≡ true → is_trail graph a between c ≡ true
  trail_there a [] c e = link_there a c e
  trail_there a (m ∷ between) c e =
      let parts = and_parts (has m (links_in (known order) a)) (is_trail (known order) m between c) e in
      and_from _ _ (link_there a m parts.0) (trail_there m between c parts.1)

  no_cycle : HasNoCycle (known order)
  no_cycle a between = by (is_trail (known order) a between a) refl
    where
      by : (b : Bool) → is_trail (known order) a between a ≡ b → is_trail (known order) a between a ≡ false
      by true e = absurd (let f : false ≡ true = sym (none a between) ∙ trail_there a between a e in cc)
      by false e = e

  -- and the heads are the same
  same_links : (cids : List Cid) → ((c : Cid) → has c cids ≡ true → has c order ≡ true) → all_links (known order) cids ≡ all_links graph cids
  same_links [] within = refl
  same_links (x ∷ cids) within =
      ap (λ z. z ++ all_links (known order) cids) (known_links order x (within x (ap (λ b. b || has x cids) (cid_itself x))))
      ∙ ap (λ z. links_in graph x ++ z) (same_links cids (λ c e. within c (or_right (same_cid c x) (has c cids) e)))

  same_heads : heads_in (known order) order ≡ heads_in graph order
  same_heads = ap (λ (z : List Cid). filter (λ c. not (has c z)) order) (same_links order (λ c e. e))

  climbed : (c : Cid) → has c order ≡ true → IsReached (known order) (heads_in graph order) c
  climbed c e = subst (λ (z : List Cid). IsReached (known order) z c) same_heads (reached (known order) order no_cycle (λ d f. known_in order d ∙ f) c e)

  module _ (found : Offers) (good : (c : Cid) → has c order ≡ true → is_found (found c) ≡ true) (same : (c : Cid) → has c order ≡ true → found_links (found c) ≡ links_in graph c)
      (lost : (c : Cid) → has c (gaps_in graph order) ≡ true → is_found (found c) ≡ false) where
    fresh : (c : Cid) → has c order ≡ true → is_new found [] c ≡ true
    fresh c e = ap (λ b. b && true) (good c e)

    way : (path : List Cid) (c : Cid) → is_path (known order) (heads_in graph order) path c ≡ true → has c order ≡ true → is_way found [] (heads_in graph order) path c ≡ true
    way [] c along there = and_from _ _ (and_parts (has c (heads_in graph order)) (in_graph (known order) c) along).0 (fresh c there)
    way (m ∷ path) c along there =
        let parts = and_parts (is_path (known order) (heads_in graph order) path m) (has c (links_in (known order) m) && in_graph (known order) c) along in
        let link = (and_parts (has c (links_in (known order) m)) (in_graph (known order) c) parts.1).0 in
        let from : has m order ≡ true = on_path path m parts.0 in
        and_from _ _ (way path m parts.0 from) (and_from _ _ (ap (has c) (same m from) ∙ link_there m c link) (fresh c there))
      where
        on_path : (path : List Cid) (m : Cid) → is_path (known order) (heads_in graph order) path m ≡ true → has m order ≡ true
        on_path [] m e = heads_has graph order m (and_parts (has m (heads_in graph order)) (in_graph (known order) m) e).0
        on_path (n ∷ path) m e =
            let parts = and_parts (is_path (known order) (heads_in graph order) path n) (has m (links_in (known order) n) && in_graph (known order) m) e in
            sym (known_in order m) ∙ (and_parts (has m (links_in (known order) n)) (in_graph (known order) m) parts.1).1

    -- what is added was processed
    back : (path : List Cid) (c : Cid) → is_way found [] (heads_in graph order) path c ≡ true → has c order ≡ true
    back [] c along = heads_has graph order c (and_parts (has c (heads_in graph order)) (is_new found [] c) along).0
    back (m ∷ path) c along =
        let parts = and_parts (is_way found [] (heads_in graph order) path m) (has c (found_links (found m)) && is_new found [] c) along in
        let last = and_parts (has c (found_links (found m))) (is_new found [] c) parts.1 in
        let from = back path m parts.0 in
        inside c (linked_from graph order m c from (ap (has c) (sym (same m from)) ∙ last.0)) (and_parts (is_found (found c)) true last.1).0
      where
        inside : (c : Cid) → has c (all_links graph order) ≡ true → is_found (found c) ≡ true → has c order ≡ true
        inside c linked is = by (has c order) refl
          where
            gap : (links : List Cid) → has c links ≡ true → has c order ≡ false → has c (filter (λ d. not (has d order)) links) ≡ true
            gap links e f = list_any-filter (same_cid c) (λ d. not (has d order)) links ∙ each links e
              where
                each : (links : List Cid) → has c links ≡ true → list_any (λ d. not (has d order) && same_cid c d) links ≡ true
                each [] g = g
                each (x ∷ links) g = one (each links) (same_cid c x) refl g
                  where
                    one : (has c links ≡ true → list_any (λ d. not (has d order) && same_cid c d) links ≡ true) → (b : Bool) → same_cid c x ≡ b → (b || has c links) ≡ true
                        → ((not (has x order) && b) || list_any (λ d. not (has d order) && same_cid c d) links) ≡ true
                    one again true h k = ap (λ b. (not b && true) || list_any (λ d. not (has d order) && same_cid c d) links) (ap (λ (z : Cid). has z order) (sym (cid_is c x h)) ∙ f)
                    one again false h k = or_right (not (has x order) && false) (list_any (λ d. not (has d order) && same_cid c d) links) (again k)

            by : (b : Bool) → has c order ≡ b → has c order ≡ true
            by true e = e
            by false e = absurd (let f : true ≡ false = sym is ∙ lost c (gap (all_links graph order) linked e) in cc)

-- which blocks are on a way depends on what is wanted alone, not on its order
same_way : (found : Offers) (start other : List Cid) → ((c : Cid) → has c start ≡ has c other) → (path : List Cid) (c : Cid) → is_way found [] start path c ≡ is_way found [] other path c
same_way found start other same [] c = ap (λ b. b && is_new found [] c) (same c)
same_way found start other same (m ∷ path) c = ap (λ b. b && (has c (found_links (found m)) && is_new found [] c)) (same_way found start other same path m)

pub arrive : ExportsArrive
arrive graph order start found none heads good same lost c = (
  λ (closed : IsClosed found [] start c). elim closed [
    | inl e ↦ absurd (let f : false ≡ true = e in cc)
    | inr added ↦ back graph order none found good same lost added.path c (sym (same_way found start (heads_in graph order) heads added.path c) ∙ added.along)
  ],
  λ e.
      let up = climbed graph order none c e in
      inr (record { path = up.path; along = same_way found start (heads_in graph order) heads up.path c ∙ way graph order none found good same lost up.path c up.along e }),
)
