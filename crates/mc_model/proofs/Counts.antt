-- Lists of identifiers: counts, tests and links.
use Rattle.std.proofs.Common.{◌≡◌, ℕ, ◌+◌, ◌≤◌, Bool, true, false, cond, List, [], ◌∷◌, ◌++◌, Some, ◌||◌, sym, refl, ap, ◌∙◌, subst, inl, inr, arith, map, filter}
use Rattle.std.specs.List.{list_all, find}
use Rattle.std.proofs.lemmas.Slice.Eq.{bytes_eq-Decides}
use Rattle.std.proofs.lemmas.List.Folds.{list_any-append}
use Rattle.std.proofs.lemmas.List.Concat.{flat_map-append}
use Rattle.std.proofs.lemmas.Cmp.{nat_list_eq_equiv}
use Rattle.std.proofs.lemmas.Bool.{and_from, and_parts, or_left, or_right, or_cases}
use Rattle.mc_base.specs.declared.cid.Cid.{Cid}
use Rattle.mc_model.specs.Front.{same_cid}
use Rattle.mc_model.specs.Graph.{Vertex, times, has, cids_in, in_graph, links_of, links_in, all_links}

-- the identifier of a digest
abbrev cid_with : List ℕ → Cid
cid_with bytes = record { 0 = bytes }

pub cid_is : (a b : Cid) → same_cid a b ≡ true → a ≡ b
cid_is a b e = ap cid_with ((bytes_eq-Decides a.0 b.0).0 e)

pub cid_itself : (a : Cid) → same_cid a a ≡ true
cid_itself a = (bytes_eq-Decides a.0 a.0).1 refl

pub same_cid-symm : (a b : Cid) → same_cid a b ≡ same_cid b a
same_cid-symm a b = nat_list_eq_equiv.symm a.0 b.0

-- counts and tests

pub times_has : (c : Cid) (xs : List Cid) → has c xs ≡ true → 1 ≤ times c xs
times_has c [] e = absurd (cc)
times_has c (x ∷ xs) e =
    elim (same_cid c x) as (λ t. (t || has c xs) ≡ true → 1 ≤ cond t (1 + times c xs) (times c xs)) [
      | true ↦ λ h. omega arith
      | false ↦ λ h. omega (arith, times_has c xs h)
    ] e

pub has_times : (c : Cid) (xs : List Cid) → 1 ≤ times c xs → has c xs ≡ true
has_times c [] e = absurd (omega arith)
has_times c (x ∷ xs) e =
    elim (same_cid c x) as (λ t. 1 ≤ cond t (1 + times c xs) (times c xs) → (t || has c xs) ≡ true) [
      | true ↦ λ h. refl
      | false ↦ λ h. has_times c xs h
    ] e

pub times_none : (c : Cid) (xs : List Cid) → has c xs ≡ false → times c xs ≡ 0
times_none c [] e = refl
times_none c (x ∷ xs) e =
    elim (same_cid c x) as (λ t. (t || has c xs) ≡ false → cond t (1 + times c xs) (times c xs) ≡ 0) [
      | true ↦ λ h. absurd (cc)
      | false ↦ λ h. times_none c xs h
    ] e

pub times-append : (c : Cid) (xs ys : List Cid) → times c (xs ++ ys) ≡ times c xs + times c ys
times-append c [] ys = omega arith
times-append c (x ∷ xs) ys =
    elim (same_cid c x) as (λ t. cond t (1 + times c (xs ++ ys)) (times c (xs ++ ys)) ≡ cond t (1 + times c xs) (times c xs) + times c ys) [
      | true ↦ omega (arith, times-append c xs ys)
      | false ↦ times-append c xs ys
    ]

pub times-one : (c d : Cid) → times c (d ∷ []) ≡ cond (same_cid c d) 1 0
times-one c d = elim (same_cid c d) as (λ t. cond t (1 + 0) 0 ≡ cond t 1 0) [ true ↦ refl | false ↦ refl ]

pub has-append : (c : Cid) (xs ys : List Cid) → has c (xs ++ ys) ≡ (has c xs || has c ys)
has-append c xs ys = list_any-append (same_cid c) xs ys

filtered : (c : Cid) (test : Cid → Bool) (x : Cid) (xs : List Cid) → times c (filter test xs) ≡ cond (test c) (times c xs) 0
    → times c (cond (test x) (x ∷ filter test xs) (filter test xs)) ≡ cond (test c) (cond (same_cid c x) (1 + times c xs) (times c xs)) 0
filtered c test x xs before =
    elim (same_cid c x) as (λ s. same_cid c x ≡ s → times c (cond (test x) (x ∷ filter test xs) (filter test xs)) ≡ cond (test c) (cond s (1 + times c xs) (times c xs)) 0) [
      | true ↦ λ h. subst (λ (z : Bool). times c (cond z (x ∷ filter test xs) (filter test xs)) ≡ cond (test c) (1 + times c xs) 0) (ap test (cid_is c x h))
          (elim (test c) as (λ t. times c (filter test xs) ≡ cond t (times c xs) 0 → times c (cond t (x ∷ filter test xs) (filter test xs)) ≡ cond t (1 + times c xs) 0) [
            | true ↦ λ k. subst (λ (s : Bool). cond s (1 + times c (filter test xs)) (times c (filter test xs)) ≡ 1 + times c xs) (sym h) (ap (λ n. 1 + n) k)
            | false ↦ λ k. k
          ] before)
      | false ↦ λ h. elim (test x) as (λ t. times c (cond t (x ∷ filter test xs) (filter test xs)) ≡ cond (test c) (times c xs) 0) [
        | true ↦ subst (λ (s : Bool). cond s (1 + times c (filter test xs)) (times c (filter test xs)) ≡ cond (test c) (times c xs) 0) (sym h) before
        | false ↦ before
      ]
    ] refl

-- a filter by a test of identifiers keeps the count of those that pass
pub times-filter : (c : Cid) (test : Cid → Bool) (xs : List Cid) → times c (filter test xs) ≡ cond (test c) (times c xs) 0
times-filter c test [] = elim (test c) as (λ t. times c [] ≡ cond t (times c []) 0) [ true ↦ refl | false ↦ refl ]
times-filter c test (x ∷ xs) = filtered c test x xs (times-filter c test xs)

-- the same where the identifiers stand in pairs
pub map-filter : (test : Cid → Bool) (xs : List (Cid × ℕ)) → map (λ (b : Cid × ℕ). b.0) (filter (λ (b : Cid × ℕ). test b.0) xs) ≡ filter test (map (λ (b : Cid × ℕ). b.0) xs)
map-filter test [] = refl
map-filter test (x ∷ xs) =
    elim (test x.0) as (λ t. map (λ (b : Cid × ℕ). b.0) (cond t (x ∷ filter (λ (b : Cid × ℕ). test b.0) xs) (filter (λ (b : Cid × ℕ). test b.0) xs)) ≡ cond t (x.0 ∷ filter test (map (λ (b : Cid × ℕ). b.0) xs)) (filter test (map (λ (b : Cid × ℕ). b.0) xs))) [
      | true ↦ ap (λ rest. x.0 ∷ rest) (map-filter test xs)
      | false ↦ map-filter test xs
    ]

pub map-append : (xs ys : List (Cid × ℕ)) → map (λ (b : Cid × ℕ). b.0) (xs ++ ys) ≡ map (λ (b : Cid × ℕ). b.0) xs ++ map (λ (b : Cid × ℕ). b.0) ys
map-append [] ys = refl
map-append (x ∷ xs) ys = ap (λ rest. x.0 ∷ rest) (map-append xs ys)

-- a test of identifiers that holds for all of a list
pub all_has : (test : Cid → Bool) (xs : List Cid) → list_all test xs ≡ true → (c : Cid) → has c xs ≡ true → test c ≡ true
all_has test [] e c h = absurd (cc)
all_has test (x ∷ xs) e c h =
    let parts = and_parts (test x) (list_all test xs) e in
    elim (same_cid c x) as (λ t. same_cid c x ≡ t → (t || has c xs) ≡ true → test c ≡ true) [
      | true ↦ λ s k. ap test (cid_is c x s) ∙ parts.0
      | false ↦ λ s k. all_has test xs parts.1 c k
    ] refl h

pub has_all : (test : Cid → Bool) (xs : List Cid) → ((c : Cid) → has c xs ≡ true → test c ≡ true) → list_all test xs ≡ true
has_all test [] h = refl
has_all test (x ∷ xs) h = and_from (test x) (list_all test xs) (h x (or_left (same_cid x x) (has x xs) (cid_itself x))) (has_all test xs (λ c k. h c (or_right (same_cid c x) (has c xs) k)))

-- links

pub links-append : (graph : List Vertex) (xs ys : List Cid) → all_links graph (xs ++ ys) ≡ all_links graph xs ++ all_links graph ys
links-append graph xs ys = flat_map-append (links_in graph) xs ys

-- a link of a list of blocks is a link of one of them
pub record Linker (graph : List Vertex) (xs : List Cid) (c : Cid) : Type 0 where
  pub cid : Cid
  pub within : has cid xs ≡ true
  pub linked : has c (links_in graph cid) ≡ true

pub linker : (graph : List Vertex) (xs : List Cid) (c : Cid) → has c (all_links graph xs) ≡ true → Linker graph xs c
linker graph [] c e = absurd (cc)
linker graph (x ∷ xs) c e =
    elim (or_cases (has c (links_in graph x)) (has c (all_links graph xs)) (sym (has-append c (links_in graph x) (all_links graph xs)) ∙ e)) [
      | inl h ↦ record { cid = x; within = or_left (same_cid x x) (has x xs) (cid_itself x); linked = h }
      | inr h ↦ let found = linker graph xs c h in record { cid = found.cid; within = or_right (same_cid found.cid x) (has found.cid xs) found.within; linked = found.linked }
    ]

pub linked_from : (graph : List Vertex) (xs : List Cid) (a c : Cid) → has a xs ≡ true → has c (links_in graph a) ≡ true → has c (all_links graph xs) ≡ true
linked_from graph [] a c e l = absurd (cc)
linked_from graph (x ∷ xs) a c e l =
    has-append c (links_in graph x) (all_links graph xs) ∙
    elim (same_cid a x) as (λ t. same_cid a x ≡ t → (t || has a xs) ≡ true → (has c (links_in graph x) || has c (all_links graph xs)) ≡ true) [
      | true ↦ λ s h. or_left _ _ (subst (λ (z : Cid). has c (links_in graph z) ≡ true) (cid_is a x s) l)
      | false ↦ λ s h. or_right _ _ (linked_from graph xs a c h l)
    ] refl e

-- further blocks in the graph change no links of those that are there
pub links_in_more : (graph more : List Vertex) (c : Cid) → in_graph graph c ≡ true → links_in (graph ++ more) c ≡ links_in graph c
links_in_more [] more c e = absurd (cc)
links_in_more (n ∷ graph) more c e =
    elim (same_cid c n.cid) as (λ t. (t || in_graph graph c) ≡ true → links_of (cond t (Some n) (find (λ (vertex : Vertex). same_cid c vertex.cid) (graph ++ more))) ≡ links_of (cond t (Some n) (find (λ (vertex : Vertex). same_cid c vertex.cid) graph))) [
      | true ↦ λ h. refl
      | false ↦ λ h. links_in_more graph more c h
    ] e

pub links_more : (graph more : List Vertex) (xs : List Cid) → ((c : Cid) → has c xs ≡ true → in_graph graph c ≡ true) → all_links (graph ++ more) xs ≡ all_links graph xs
links_more graph more [] h = refl
links_more graph more (x ∷ xs) h =
    ap (λ front. front ++ all_links (graph ++ more) xs) (links_in_more graph more x (h x (or_left (same_cid x x) (has x xs) (cid_itself x))))
    ∙ ap (λ rest. links_in graph x ++ rest) (links_more graph more xs (λ c k. h c (or_right (same_cid c x) (has c xs) k)))

pub cids_in-append : (graph more : List Vertex) → cids_in (graph ++ more) ≡ cids_in graph ++ cids_in more
cids_in-append [] more = refl
cids_in-append (v ∷ graph) more = ap (λ rest. v.cid ∷ rest) (cids_in-append graph more)

pub in_graph_more : (graph more : List Vertex) (c : Cid) → in_graph graph c ≡ true → in_graph (graph ++ more) c ≡ true
in_graph_more graph more c e = list_any-append (λ (vertex : Vertex). same_cid c vertex.cid) graph more ∙ or_left _ (in_graph more c) e
