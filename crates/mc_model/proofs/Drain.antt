-- How far a drain of the wanted set has come, in whatever order it goes, and that it ends with the closure.
use Rattle.std.proofs.Common.{◌≡◌, ◌+◌, ◌≤◌, Bool, true, false, not, List, [], ◌∷◌, ◌++◌, ◌&&◌, sym, refl, ap, ◌∙◌, subst, inl, inr, ◌⊎◌, arith}
use Rattle.std.proofs.lemmas.List.{append_assoc, append-nil}
use Rattle.std.proofs.lemmas.Bool.{not_from_false, not-true, and_from, and_parts, or_left, or_right, or_cases}
use Rattle.mc_base.specs.declared.cid.Cid.{Cid}
use Rattle.mc_model.specs.Drain.{is_new, is_way, IsAdded, IsClosed, IsComing, is_in_order, offered_links}
use Rattle.mc_model.specs.Events.{processed_queue}
use Rattle.mc_model.specs.Found.{is_found, found_links, Offers}
use Rattle.mc_model.specs.Front.{same_cid}
use Rattle.mc_model.specs.Graph.{times, has, links_in, all_links}
use Rattle.mc_model.specs.State.{Durable}
use Rattle.mc_model.specs.Wanted.{Queue, wanted, held, IsOnce, want_all, without}
use Rattle.mc_model.proofs.Counts.{cid_is, cid_itself, times_has, has_times, times_none, times-append, has-append, linker, linked_from}
use Rattle.mc_model.proofs.Held.{Grows, grows_want_all, all_wanted, taken, want_all_from, without_from}
use Rattle.mc_model.proofs.InOrder.{is_traced, traced_more, traced_link, offered-append, offered_link, offered_from, group_in_order, in_order-append}

-- How far a drain has come that began with the blocks `order` processed: these were added. What was wanted at first, or
-- is linked by one of them, is held; and each of them, and each that is wanted, is traced to the start.
pub record Drained (found : Offers) (order first start now : List Cid) (q : Queue) (added : List Cid) : Type 0 where
  pub grown : now ≡ order ++ added
  pub good : (c : Cid) → has c added ≡ true → is_new found order c ≡ true
  pub in_order : is_in_order found start [] added ≡ true
  pub still : (c : Cid) → has c first ≡ true → 1 ≤ held now q c
  pub linked : (c : Cid) → has c (offered_links found added) ≡ true → 1 ≤ held now q c
  pub traced : (c : Cid) → has c (wanted q) ≡ true → is_traced found start added c ≡ true

-- what is wanted is not processed
pub apart : (now : List Cid) (q : Queue) → IsOnce now q → (c : Cid) → has c (wanted q) ≡ true → has c now ≡ true → ⊥
apart now q once c e f = omega (arith, once c, times_has c (wanted q) e, times_has c now f)

-- and what is not processed is not among those
pub false_of : (c : Cid) (xs : List Cid) → (has c xs ≡ true → ⊥) → has c xs ≡ false
false_of c xs out = by_test (has c xs) refl
  where
    by_test : (b : Bool) → has c xs ≡ b → b ≡ false
    by_test true h = absurd (out h)
    by_test false h = refl

pub starts : (found : Offers) (order first start : List Cid) (q : Queue) → ((c : Cid) → has c first ≡ true → has c (wanted q) ≡ true) → ((c : Cid) → has c (wanted q) ≡ true → has c start ≡ true)
    → Drained found order first start order q []
starts found order first start q from to = record {
  grown = sym (append-nil order);
  good = λ c e. absurd (cc);
  in_order = refl;
  still = λ c e. omega (arith, times_has c (wanted q) (from c e));
  linked = λ c e. absurd (cc);
  traced = λ c e. or_left _ (has c []) (to c e);
}

module _ (found : Offers) (order first start : List Cid) where
  -- the same is wanted, in other parts
  pub drained_same : (now : List Cid) (q r : Queue) (added : List Cid) → ((d : Cid) → times d (wanted r) ≡ times d (wanted q)) → Drained found order first start now q added → Drained found order first start now r added
  drained_same now q r added same g = record {
    grown = g.grown;
    good = g.good;
    in_order = g.in_order;
    still = λ c e. omega (arith, same c, g.still c e);
    linked = λ c e. omega (arith, same c, g.linked c e);
    traced = λ c e. g.traced c (has_times c (wanted q) (omega (arith, same c, times_has c (wanted r) e)));
  }

  -- what was processed before is processed now
  pub old_now : (now : List Cid) (q : Queue) (added : List Cid) → Drained found order first start now q added → (c : Cid) → has c order ≡ true → has c now ≡ true
  old_now now q added g c e = ap (has c) g.grown ∙ has-append c order added ∙ or_left _ (has c added) e

  -- what is added is processed now
  pub added_now : (now : List Cid) (q : Queue) (added : List Cid) → Drained found order first start now q added → (c : Cid) → has c added ≡ true → has c now ≡ true
  added_now now q added g c e = ap (has c) g.grown ∙ has-append c order added ∙ or_right (has c order) _ e

  -- what is wanted with a good offer is new
  pub wanted_new : (now : List Cid) (q : Queue) (added : List Cid) → IsOnce now q → Drained found order first start now q added → (c : Cid) → has c (wanted q) ≡ true → is_found (found c) ≡ true → is_new found order c ≡ true
  wanted_new now q added once g c w good =
      and_from _ _ good (not_from_false (has c order) (false_of c order (λ h. apart now q once c w (old_now now q added g c h))))

  -- blocks are processed
  module _ (durable : Durable) (q : Queue) (cids added : List Cid) (once : IsOnce durable.order q) (fresh : (c : Cid) → times c durable.order + times c cids ≤ 1)
      (may : (c : Cid) → has c cids ≡ true → (has c (wanted q) ≡ true) × (is_found (found c) ≡ true) × (links_in durable.graph c ≡ found_links (found c)))
      (g : Drained found order first start durable.order q added) where
    more_held : (c : Cid) → held durable.order q c ≤ held (durable.order ++ cids) (processed_queue durable q cids) c
    more_held c = omega (arith, (taken durable.order q cids once fresh).more c, (grows_want_all (durable.order ++ cids) (without q cids) (all_links durable.graph cids)).more c)

    pub drained_process : Drained found order first start (durable.order ++ cids) (processed_queue durable q cids) (added ++ cids)
    drained_process = record {
      grown = ap (λ front. front ++ cids) g.grown ∙ append_assoc order added cids;
      good = λ c e. elim (or_cases (has c added) (has c cids) (sym (has-append c added cids) ∙ e)) [
        | inl h ↦ g.good c h
        | inr h ↦ wanted_new durable.order q added once g c (may c h).0 (may c h).1
      ];
      in_order = in_order-append found start [] added cids g.in_order (group_in_order found start added cids (λ c e. g.traced c (may c e).0));
      still = λ c e. omega (arith, g.still c e, more_held c);
      linked = λ c e. elim (or_cases (has c (offered_links found added)) (has c (offered_links found cids)) (sym (offered-append found added cids c) ∙ e)) [
        | inl h ↦ omega (arith, g.linked c h, more_held c)
        | inr h ↦ let by = offered_from found cids c h in
            all_wanted (durable.order ++ cids) (without q cids) (all_links durable.graph cids) c (linked_from durable.graph cids by.cid c by.within (ap (has c) (may by.cid by.within).2 ∙ by.linked))
      ];
      traced = λ c e. elim (want_all_from (durable.order ++ cids) (without q cids) (all_links durable.graph cids) c e) [
        | inl h ↦ traced_more found start added cids c (g.traced c (without_from q cids c h))
        | inr h ↦ let by = linker durable.graph cids c h in
            traced_link found start added cids by.cid c by.within (sym (ap (has c) (may by.cid by.within).2) ∙ by.linked)
      ];
    }

    -- what is wanted is processed then, or wanted still
    pub wanted_on : (c : Cid) → has c (wanted q) ≡ true → (has c cids ≡ true) ⊎ (has c (wanted (processed_queue durable q cids)) ≡ true)
    wanted_on c w = by_test (has c cids) refl
      where
        by_test : (b : Bool) → has c cids ≡ b → (has c cids ≡ true) ⊎ (has c (wanted (processed_queue durable q cids)) ≡ true)
        by_test true h = inl h
        by_test false h =
            let none : times c (durable.order ++ cids) ≡ 0 = omega (arith, times-append c durable.order cids, times_none c cids h, times_none c durable.order (false_of c durable.order (apart durable.order q once c w))) in
            inr (has_times c (wanted (processed_queue durable q cids)) (omega (arith, none, times_has c (wanted q) w, more_held c)))

  -- links that are traced come to be wanted
  pub drained_want : (now : List Cid) (q : Queue) (cids added : List Cid) → IsOnce now q → ((c : Cid) → has c cids ≡ true → has c now ≡ false → is_traced found start added c ≡ true)
      → Drained found order first start now q added → Drained found order first start now (want_all now q cids) added
  drained_want now q cids added once from g = record {
    grown = g.grown;
    good = g.good;
    in_order = g.in_order;
    still = λ c e. omega (arith, g.still c e, grows.more c);
    linked = λ c e. omega (arith, g.linked c e, grows.more c);
    traced = λ c e. elim (want_all_from now q cids c e) [
      | inl h ↦ g.traced c h
      | inr h ↦ from c h (false_of c now (apart now (want_all now q cids) (grows.once once) c e))
    ];
  }
    where
      grows : Grows now q (want_all now q cids)
      grows = grows_want_all now q cids

  -- after one drain another
  module _ (mid : List Cid) (p : Queue) (now : List Cid) (q : Queue) (added more : List Cid) (once : IsOnce mid p) (g : Drained found order first start mid p added)
      (h : Drained found mid (wanted p) (wanted p) now q more) where
    mid_held : (c : Cid) → 1 ≤ held mid p c → 1 ≤ held now q c
    mid_held c k = by_test (has c mid) refl
      where
        by_test : (b : Bool) → has c mid ≡ b → 1 ≤ held now q c
        by_test true e = omega (arith, times_has c now (ap (has c) h.grown ∙ has-append c mid more ∙ or_left _ (has c more) e))
        by_test false e = h.still c (has_times c (wanted p) (omega (arith, k, times_none c mid e)))

    -- a start that is traced serves as the start
    traced_start : (before : List Cid) (c : Cid) → is_traced found (wanted p) before c ≡ true → is_traced found start (added ++ before) c ≡ true
    traced_start before c e = elim (or_cases (has c (wanted p)) (has c (offered_links found before)) e) [
      | inl k ↦ traced_more found start added before c (g.traced c k)
      | inr k ↦ let by = offered_from found before c k in traced_link found start added before by.cid c by.within by.linked
    ]

    order_start : (before cids : List Cid) → is_in_order found (wanted p) before cids ≡ true → is_in_order found start (added ++ before) cids ≡ true
    order_start before [] e = refl
    order_start before (x ∷ cids) e =
        let parts = and_parts (is_traced found (wanted p) before x) (is_in_order found (wanted p) (before ++ x ∷ []) cids) e in
        and_from _ _ (traced_start before x parts.0) (ap (λ front. is_in_order found start front cids) (append_assoc added before (x ∷ [])) ∙ order_start (before ++ x ∷ []) cids parts.1)

    pub drained_then : Drained found order first start now q (added ++ more)
    drained_then = record {
      grown = h.grown ∙ ap (λ front. front ++ more) g.grown ∙ append_assoc order added more;
      good = λ c e. elim (or_cases (has c added) (has c more) (sym (has-append c added more) ∙ e)) [
        | inl k ↦ g.good c k
        | inr k ↦ let new = and_parts (is_found (found c)) (not (has c mid)) (h.good c k) in
            and_from _ _ new.0 (not_from_false (has c order) (false_of c order (λ o. let no : true ≡ false = sym (old_now mid p added g c o) ∙ not-true (has c mid) new.1 in absurd (cc))))
      ];
      in_order = in_order-append found start [] added more g.in_order (ap (λ front. is_in_order found start front more) (sym (append-nil added)) ∙ order_start [] more h.in_order);
      still = λ c e. mid_held c (g.still c e);
      linked = λ c e. elim (or_cases (has c (offered_links found added)) (has c (offered_links found more)) (sym (offered-append found added more c) ∙ e)) [
        | inl k ↦ mid_held c (g.linked c k)
        | inr k ↦ h.linked c k
      ];
      traced = λ c e. traced_start more c (h.traced c e);
    }

-- what is coming and new is added
added_of : (found : Offers) (order start : List Cid) (c : Cid) → IsComing found order start c → is_new found order c ≡ true → IsAdded found order start c
added_of found order start c (inl h) new = record { path = []; along = and_from _ _ h new }
added_of found order start c (inr h) new = record { path = h.from ∷ h.added.path; along = and_from _ _ h.added.along (and_from _ _ h.linked new) }

-- what is traced to added ones is coming
coming_of : (found : Offers) (order start before : List Cid) → ((d : Cid) → has d before ≡ true → IsAdded found order start d) → (c : Cid) → is_traced found start before c ≡ true → IsComing found order start c
coming_of found order start before prev c e = elim (or_cases (has c start) (has c (offered_links found before)) e) [
  | inl h ↦ inl h
  | inr h ↦ let by = offered_from found before c h in inr (record { from = by.cid; added = prev by.cid by.within; linked = by.linked })
]

pub one_is : (c x : Cid) → has c (x ∷ []) ≡ true → c ≡ x
one_is c x e = elim (or_cases (same_cid c x) false e) [ inl s ↦ cid_is c x s | inr f ↦ absurd (cc) ]

-- those in order are added
in_order_added : (found : Offers) (order start before cids : List Cid) → ((c : Cid) → has c before ≡ true → IsAdded found order start c) → ((c : Cid) → has c cids ≡ true → is_new found order c ≡ true)
    → is_in_order found start before cids ≡ true → (c : Cid) → has c cids ≡ true → IsAdded found order start c
in_order_added found order start before [] prev new e c k = absurd (cc)
in_order_added found order start before (x ∷ cids) prev new e c k =
    elim (or_cases (same_cid c x) (has c cids) k) [
      | inl s ↦ subst (IsAdded found order start) (sym (cid_is c x s)) first
      | inr h ↦ in_order_added found order start (before ++ x ∷ []) cids more (λ d l. new d (or_right (same_cid d x) (has d cids) l)) parts.1 c h
    ]
  where
    parts : (is_traced found start before x ≡ true) × (is_in_order found start (before ++ x ∷ []) cids ≡ true)
    parts = and_parts (is_traced found start before x) (is_in_order found start (before ++ x ∷ []) cids) e

    first : IsAdded found order start x
    first = added_of found order start x (coming_of found order start before prev x parts.0) (new x (or_left (same_cid x x) (has x cids) (cid_itself x)))

    more : (d : Cid) → has d (before ++ x ∷ []) ≡ true → IsAdded found order start d
    more d l = elim (or_cases (has d before) (has d (x ∷ [])) (sym (has-append d before (x ∷ [])) ∙ l)) [
      | inl h ↦ prev d h
      | inr h ↦ subst (IsAdded found order start) (sym (one_is d x h)) first
    ]

way_new : (found : Offers) (order start path : List Cid) (c : Cid) → is_way found order start path c ≡ true → is_new found order c ≡ true
way_new found order start [] c e = (and_parts (has c start) (is_new found order c) e).1
way_new found order start (m ∷ path) c e =
    let parts = and_parts (is_way found order start path m) (has c (found_links (found m)) && is_new found order c) e in
    (and_parts (has c (found_links (found m))) (is_new found order c) parts.1).1

-- at any time
module _ (found : Offers) (order first start now : List Cid) (q : Queue) (added : List Cid) (g : Drained found order first start now q added) where
  pub all_added : (c : Cid) → has c added ≡ true → IsAdded found order start c
  all_added = in_order_added found order start [] added (λ c e. absurd (let no : false ≡ true = e in cc)) g.good g.in_order

  pub within : (c : Cid) → has c now ≡ true → IsClosed found order start c
  within c e = elim (or_cases (has c order) (has c added) (sym (ap (has c) g.grown ∙ has-append c order added) ∙ e)) [
    | inl h ↦ inl h
    | inr h ↦ inr (all_added c h)
  ]

  pub coming : (c : Cid) → has c (wanted q) ≡ true → IsComing found order start c
  coming c e = coming_of found order start added all_added c (g.traced c e)

  -- what is wanted with a good offer is added in the end
  pub wanted_added : IsOnce now q → (c : Cid) → has c (wanted q) ≡ true → is_found (found c) ≡ true → IsAdded found order start c
  wanted_added once c w good = added_of found order start c (coming c w) (wanted_new found order first start now q added once g c w good)

-- where nothing that is wanted has a good offer
module _ (found : Offers) (order start now : List Cid) (q : Queue) (added : List Cid) (g : Drained found order start start now q added) (done : (c : Cid) → has c (wanted q) ≡ true → is_found (found c) ≡ false) where
  -- what is held and new is added
  settled : (c : Cid) → is_new found order c ≡ true → 1 ≤ held now q c → has c added ≡ true
  settled c new h =
      elim (or_cases (has c order) (has c added) (sym (ap (has c) g.grown ∙ has-append c order added) ∙ by_test (has c now) refl)) [
        | inl k ↦ absurd (let no : true ≡ false = sym k ∙ not-true (has c order) parts.1 in cc)
        | inr k ↦ k
      ]
    where
      parts : (is_found (found c) ≡ true) × (not (has c order) ≡ true)
      parts = and_parts (is_found (found c)) (not (has c order)) new

      by_test : (b : Bool) → has c now ≡ b → has c now ≡ true
      by_test true k = k
      by_test false k = absurd (let no : true ≡ false = sym parts.0 ∙ done c (has_times c (wanted q) (omega (arith, h, times_none c now k))) in cc)

  way_in : (path : List Cid) (c : Cid) → is_way found order start path c ≡ true → has c added ≡ true
  way_in [] c e =
      let parts = and_parts (has c start) (is_new found order c) e in
      settled c parts.1 (g.still c parts.0)
  way_in (m ∷ path) c e =
      let parts = and_parts (is_way found order start path m) (has c (found_links (found m)) && is_new found order c) e in
      let link = and_parts (has c (found_links (found m))) (is_new found order c) parts.1 in
      settled c link.1 (g.linked c (offered_link found added m c (way_in path m parts.0) link.0))

  -- what is added has come
  pub came_in : (c : Cid) → IsAdded found order start c → has c added ≡ true
  came_in c h = way_in h.path c h.along

  pub closed_in : (c : Cid) → IsClosed found order start c → has c now ≡ true
  closed_in c (inl h) = old_now found order start start now q added g c h
  closed_in c (inr h) = added_now found order start start now q added g c (came_in c h)

  coming_held : (c : Cid) → IsComing found order start c → 1 ≤ held now q c
  coming_held c (inl h) = g.still c h
  coming_held c (inr h) = g.linked c (offered_link found added h.from c (came_in h.from h.added) h.linked)

  pub coming_left : (c : Cid) → IsComing found order start c → (IsClosed found order start c → ⊥) → has c (wanted q) ≡ true
  coming_left c h out = by_test (has c now) refl
    where
      by_test : (b : Bool) → has c now ≡ b → has c (wanted q) ≡ true
      by_test true k = absurd (out (within found order start start now q added g c k))
      by_test false k = has_times c (wanted q) (omega (arith, coming_held c h, times_none c now k))
