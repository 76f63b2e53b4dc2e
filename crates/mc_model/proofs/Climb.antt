-- Where nothing leads back to itself, each processed block is reached from a head: one climbs to a block that links to it, and on.
use Rattle.std.proofs.Common.{◌≡◌, ℕ, suc, zero, ◌+◌, ◌≤◌, ◌<◌, Bool, true, false, not, cond, List, [], ◌∷◌, ◌||◌, ◌&&◌, sym, refl, ap, ◌∙◌, subst, inl, inr, ◌⊎◌, arith}
use Rattle.std.proofs.lemmas.Bool.{and_from, and_parts, or_cases}
use Rattle.mc_base.specs.declared.cid.Cid.{Cid}
use Rattle.mc_model.specs.Front.{same_cid}
use Rattle.mc_model.specs.Graph.{Vertex, times, has, in_graph, links_in, all_links, no_gaps, heads_in, is_trail, HasNoCycle, is_path, IsReached}
use Rattle.mc_model.proofs.Counts.{cid_is, cid_itself, times_has, has_times, times-filter, all_has, Linker, linker, linked_from}

-- how many of the list the chain lacks
abbrev left : List Cid → List Cid → ℕ
left [] chain = 0
left (x ∷ order) chain = cond (has x chain) (left order chain) (1 + left order chain)

left_le : (order chain : List Cid) (a : Cid) → left order (a ∷ chain) ≤ left order chain
left_le [] chain a = omega arith
left_le (x ∷ order) chain a =
    elim (same_cid x a) as (λ s. cond (s || has x chain) (left order (a ∷ chain)) (1 + left order (a ∷ chain)) ≤ cond (has x chain) (left order chain) (1 + left order chain)) [
      | true ↦ elim (has x chain) as (λ t. left order (a ∷ chain) ≤ cond t (left order chain) (1 + left order chain)) [ true ↦ left_le order chain a | false ↦ omega (arith, left_le order chain a) ]
      | false ↦ elim (has x chain) as (λ t. cond t (left order (a ∷ chain)) (1 + left order (a ∷ chain)) ≤ cond t (left order chain) (1 + left order chain)) [ true ↦ left_le order chain a | false ↦ omega (arith, left_le order chain a) ]
    ]

left_lt : (order chain : List Cid) (a : Cid) → has a order ≡ true → has a chain ≡ false → left order (a ∷ chain) < left order chain
left_lt [] chain a e f = absurd (cc)
left_lt (x ∷ order) chain a e f =
    elim (same_cid a x) as (λ s. same_cid a x ≡ s → (s || has a order) ≡ true → left (x ∷ order) (a ∷ chain) < left (x ∷ order) chain) [
      | true ↦ λ s h.
          subst (λ (z : Cid). cond (same_cid z a || has z chain) (left order (a ∷ chain)) (1 + left order (a ∷ chain)) < cond (has z chain) (left order chain) (1 + left order chain)) (cid_is a x s)
          (subst (λ (b : Bool). cond (same_cid a a || b) (left order (a ∷ chain)) (1 + left order (a ∷ chain)) < cond b (left order chain) (1 + left order chain)) (sym f)
          (subst (λ (b : Bool). cond (b || false) (left order (a ∷ chain)) (1 + left order (a ∷ chain)) < 1 + left order chain) (sym (cid_itself a)) (omega (arith, left_le order chain a))))
      | false ↦ λ s h. less x (left_lt order chain a h f)
    ] refl e
  where
    less : (x : Cid) → left order (a ∷ chain) < left order chain → left (x ∷ order) (a ∷ chain) < left (x ∷ order) chain
    less x before =
        elim (same_cid x a) as (λ s. cond (s || has x chain) (left order (a ∷ chain)) (1 + left order (a ∷ chain)) < cond (has x chain) (left order chain) (1 + left order chain)) [
          | true ↦ elim (has x chain) as (λ t. left order (a ∷ chain) < cond t (left order chain) (1 + left order chain)) [ true ↦ before | false ↦ omega (arith, before) ]
          | false ↦ elim (has x chain) as (λ t. cond t (left order (a ∷ chain)) (1 + left order (a ∷ chain)) < cond t (left order chain) (1 + left order chain)) [ true ↦ before | false ↦ omega (arith, before) ]
        ]

-- the block is the identifier's own or leads to it
abbrev Leads : List Vertex → Cid → Cid → Type 0
Leads graph a c = (same_cid c a ≡ true) ⊎ ((between : List Cid) × (is_trail graph a between c ≡ true))

no_cycle : (graph : List Vertex) → HasNoCycle graph → (a : Cid) (between : List Cid) → is_trail graph a between a ≡ true → ⊥
no_cycle graph none a between e = let no : true ≡ false = sym e ∙ none a between in absurd (cc)

-- a links to b, so a leads to what b leads to
leads_up : (graph : List Vertex) (a b c : Cid) → has b (links_in graph a) ≡ true → Leads graph b c → (between : List Cid) × (is_trail graph a between c ≡ true)
leads_up graph a b c l (inl e) = ([], subst (λ (z : Cid). has z (links_in graph a) ≡ true) (sym (cid_is c b e)) l)
leads_up graph a b c l (inr t) = (b ∷ t.0, and_from (has b (links_in graph a)) _ l t.1)

pub has_heads : (graph : List Vertex) (order : List Cid) (b : Cid) → has b order ≡ true → has b (all_links graph order) ≡ false → has b (heads_in graph order) ≡ true
has_heads graph order b e f =
    has_times b (heads_in graph order)
    (subst (λ n. 1 ≤ n) (sym (times-filter b (λ c. not (has c (all_links graph order))) order ∙ ap (λ t. cond (not t) (times b order) 0) f)) (times_has b order e))

pub heads_has : (graph : List Vertex) (order : List Cid) (b : Cid) → has b (heads_in graph order) ≡ true → has b order ≡ true
heads_has graph order b e =
    has_times b order (elim (not (has b (all_links graph order))) as (λ t. 1 ≤ cond t (times b order) 0 → 1 ≤ times b order) [
      | true ↦ λ h. h
      | false ↦ λ h. absurd (omega arith)
    ] (subst (λ n. 1 ≤ n) (times-filter b (λ c. not (has c (all_links graph order))) order) (times_has b (heads_in graph order) e)))

module _ (graph : List Vertex) (order : List Cid) (none : HasNoCycle graph) (stored : (c : Cid) → has c order ≡ true → in_graph graph c ≡ true) where
  -- one step up, with a way to go on from a longer chain
  step : (chain : List Cid) (b : Cid) → has b order ≡ true → ((c : Cid) → has c chain ≡ true → Leads graph b c)
      → ((longer : List Cid) (a : Cid) → has a order ≡ true → ((c : Cid) → has c longer ≡ true → Leads graph a c) → left order longer < left order chain → IsReached graph (heads_in graph order) a)
      → IsReached graph (heads_in graph order) b
  step chain b e leads go =
      elim (has b (all_links graph order)) as (λ t. has b (all_links graph order) ≡ t → IsReached graph (heads_in graph order) b) [
        | false ↦ λ h. record { path = []; along = and_from _ _ (has_heads graph order b e h) (stored b e) }
        | true ↦ λ h. up (linker graph order b h)
      ] refl
    where
      on : (found : Linker graph order b) → has found.cid chain ≡ false → IsReached graph (heads_in graph order) b
      on found h =
          let above = go (found.cid ∷ chain) found.cid found.within
          (λ c k. elim (or_cases (same_cid c found.cid) (has c chain) k) [
            | inl s ↦ inl s
            | inr s ↦ inr (leads_up graph found.cid b c found.linked (leads c s))
          ])
          (left_lt order chain found.cid found.within h) in
          record { path = found.cid ∷ above.path; along = and_from _ _ above.along (and_from _ _ found.linked (stored b e)) }

      up : Linker graph order b → IsReached graph (heads_in graph order) b
      up found =
          elim (has found.cid chain) as (λ t. has found.cid chain ≡ t → IsReached graph (heads_in graph order) b) [
            | true ↦ λ h. let back = leads_up graph found.cid b found.cid found.linked (leads found.cid h) in absurd (no_cycle graph none found.cid back.0 back.1)
            | false ↦ λ h. on found h
          ] refl

  climb : (fuel : ℕ) (chain : List Cid) (b : Cid) → has b order ≡ true → ((c : Cid) → has c chain ≡ true → Leads graph b c) → left order chain ≤ fuel → IsReached graph (heads_in graph order) b
  climb zero chain b e leads enough = step chain b e leads (λ longer a f l less. absurd (omega (arith, less, enough)))
  climb (suc fuel) chain b e leads enough = step chain b e leads (λ longer a f l less. climb fuel longer a f l (omega (arith, less, enough)))

  pub reached : (b : Cid) → has b order ≡ true → IsReached graph (heads_in graph order) b
  reached b e = climb (left order []) [] b e (λ c k. absurd (let no : false ≡ true = k in cc)) (omega arith)

-- and nothing else is reached where there is no gap
pub path_within : (graph : List Vertex) (order : List Cid) → no_gaps graph order ≡ true → (path : List Cid) (c : Cid) → is_path graph (heads_in graph order) path c ≡ true → has c order ≡ true
path_within graph order full [] c e = heads_has graph order c (and_parts (has c (heads_in graph order)) (in_graph graph c) e).0
path_within graph order full (m ∷ path) c e =
    let parts = and_parts (is_path graph (heads_in graph order) path m) (has c (links_in graph m) && in_graph graph c) e in
    let link = and_parts (has c (links_in graph m)) (in_graph graph c) parts.1 in
    let from : has m order ≡ true = path_within graph order full path m parts.0 in
    all_has (λ d. has d order) (all_links graph order) full c (linked_from graph order m c from link.0)

-- reach is the least set: a test that the starts within the graph pass, and with each block its links within the graph, is passed by all that is reached
pub reach_least : (graph : List Vertex) (start : List Cid) (test : Cid → Bool) → ((c : Cid) → has c start ≡ true → in_graph graph c ≡ true → test c ≡ true)
    → ((m c : Cid) → test m ≡ true → has c (links_in graph m) ≡ true → in_graph graph c ≡ true → test c ≡ true)
    → (path : List Cid) (c : Cid) → is_path graph start path c ≡ true → test c ≡ true
reach_least graph start test starts goes [] c e = let parts = and_parts (has c start) (in_graph graph c) e in starts c parts.0 parts.1
reach_least graph start test starts goes (m ∷ path) c e =
    let parts = and_parts (is_path graph start path m) (has c (links_in graph m) && in_graph graph c) e in
    let link = and_parts (has c (links_in graph m)) (in_graph graph c) parts.1 in
    goes m c (reach_least graph start test starts goes path m parts.0) link.0 link.1

-- what is reached depends on the members of the starts alone
path_same : (graph : List Vertex) (start other : List Cid) → ((c : Cid) → has c start ≡ has c other) → (path : List Cid) (c : Cid) → is_path graph start path c ≡ is_path graph other path c
path_same graph start other same [] c = ap (λ t. t && in_graph graph c) (same c)
path_same graph start other same (m ∷ path) c = ap (λ t. t && (has c (links_in graph m) && in_graph graph c)) (path_same graph start other same path m)

pub reached_same : (graph : List Vertex) (start other : List Cid) → ((c : Cid) → has c start ≡ has c other) → (c : Cid) → IsReached graph start c → IsReached graph other c
reached_same graph start other same c h = record { path = h.path; along = sym (path_same graph start other same h.path c) ∙ h.along }
