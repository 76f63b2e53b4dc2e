-- What the place of a block says of the entries.
use Rattle.std.proofs.Common.{◌≡◌, ℕ, ◌+◌, ◌≤◌, Bool, true, false, not, eqb, T as Yes, cond, List, [], ◌∷◌, ◌++◌, ◌||◌, Option, Some, None, sym, refl, ap, ◌∙◌, subst, arith, length, filter, map, eqb→eq}
use Rattle.std.specs.List.{list_all}
use Rattle.std.proofs.lemmas.Bool.{and_parts, and_from}
use Rattle.std.proofs.lemmas.List.{map-append}
use Rattle.std.proofs.lemmas.List.Folds.{list_all-append}
use Rattle.mc_base.specs.declared.cid.Cid.{Cid}
use Rattle.mc_model.specs.Front.{same_cid}
use Rattle.mc_model.specs.Graph.{times, has}
use Rattle.mc_model.specs.Wanted.{bad_cids, wanted, others, bad_others}
use Rattle.mc_model.proofs.Counts.{cid_is, same_cid-symm}
use Rattle.mc_list.specs.Entries.{Entry as Placed, those_at, others as others_at, has_place}
use Rattle.mc_list.specs.Views.{entries, all_entries}
use Rattle.mc_list.specs.declared.lists.Lists.{Lists}
use Rattle.mc_list.specs.declared.lists.Place.{Place}
use Rattle.mc_list.proofs.RingFacts.{eqb-self}
use Rattle.mc_queue.specs.declared.part.Part.{Part}
use Rattle.mc_queue.specs.declared.part.Part.TheVariants.{Waiting, Flight, Missing, Bad}
use Rattle.mc_queue.specs.declared.part.Entry.{Entry}
use Rattle.mc_queue.specs.Fits.{cids_in, bad_in, is_place, leads_to, entries_of, shown_in}
use Rattle.mc_queue.specs.Shown.{cids_of}

pub no_true : false ≡ true → ⊥
no_true e = absurd (let f : false ≡ true = e in cc)

pub place_is : (o : Option Place) (p : Place) → is_place o p ≡ true → o ≡ Some p
place_is None p e = absurd (no_true e)
place_is (Some q) p e = let n : q.number ≡ p.number = eqb→eq q.number p.number (subst Yes (sym e) tt) in λ i. Some (record { number = n i })

-- a test of all entries is one of those that are kept, also where it says more of these
pub all_kept : (test more keep : Placed Entry → Bool) → ((e : Placed Entry) → test e ≡ true → keep e ≡ true → more e ≡ true) → (es : List (Placed Entry)) → list_all test es ≡ true → list_all more (filter keep es) ≡ true
all_kept test more keep each [] h = refl
all_kept test more keep each (e ∷ es) h =
    let both = and_parts (test e) (list_all test es) h in
    let rest : list_all more (filter keep es) ≡ true = all_kept test more keep each es both.1 in
    (elim (keep e) as (λ b. keep e ≡ b → list_all more (cond b (e ∷ filter keep es) (filter keep es)) ≡ true) [
      | true ↦ λ b. and_from (more e) (list_all more (filter keep es)) (each e both.0 b) rest
      | false ↦ λ b. rest
    ]) refl

pub all_more : (test more : Placed Entry → Bool) → ((e : Placed Entry) → test e ≡ true → more e ≡ true) → (es : List (Placed Entry)) → list_all test es ≡ true → list_all more es ≡ true
all_more test more each [] h = refl
all_more test more each (e ∷ es) h = let both = and_parts (test e) (list_all test es) h in and_from (more e) (list_all more es) (each e both.0) (all_more test more each es both.1)

pub bad_cids_in : (es : List (Placed Entry)) → bad_cids (bad_in es) ≡ cids_in es
bad_cids_in [] = refl
bad_cids_in (e ∷ es) = ap (λ cids. e.item.cid ∷ cids) (bad_cids_in es)

pub cids_are : (lists : Lists Entry) (part : Part) → cids_of part (shown_in lists) ≡ cids_in (entries_of lists part)
cids_are lists Waiting = refl
cids_are lists Flight = refl
cids_are lists Missing = refl
cids_are lists Bad = bad_cids_in (entries_of lists Bad)

pub wanted_are : (lists : Lists Entry) → wanted (shown_in lists) ≡ cids_in (all_entries lists)
wanted_are lists = sym (map-append (λ (e : Placed Entry). e.item.cid) (entries lists 0) (entries lists 1 ++ (entries lists 2 ++ entries lists 3))
    ∙ ap (λ cids. cids_in (entries lists 0) ++ cids) (map-append (λ (e : Placed Entry). e.item.cid) (entries lists 1) (entries lists 2 ++ entries lists 3)
    ∙ ap (λ cids. cids_in (entries lists 1) ++ cids) (map-append (λ (e : Placed Entry). e.item.cid) (entries lists 2) (entries lists 3)
    ∙ ap (λ cids. cids_in (entries lists 2) ++ cids) (sym (bad_cids_in (entries lists 3))))))

pub all_found : (at : Cid → Option Place) (lists : Lists Entry) → ((list : ℕ) → list_all (leads_to at) (entries lists list) ≡ true) → list_all (leads_to at) (all_entries lists) ≡ true
all_found at lists found =
    join (entries lists 0) (entries lists 1 ++ (entries lists 2 ++ entries lists 3)) (found 0)
    (join (entries lists 1) (entries lists 2 ++ entries lists 3) (found 1) (join (entries lists 2) (entries lists 3) (found 2) (found 3)))
  where
    join : (xs ys : List (Placed Entry)) → list_all (leads_to at) xs ≡ true → list_all (leads_to at) ys ≡ true → list_all (leads_to at) (xs ++ ys) ≡ true
    join xs ys a b = list_all-append (leads_to at) xs ys ∙ and_from (list_all (leads_to at) xs) (list_all (leads_to at) ys) a b

-- a block that the index does not have is in no entry
pub none_has : (at : Cid → Option Place) (c : Cid) → at c ≡ None → (es : List (Placed Entry)) → list_all (leads_to at) es ≡ true → has c (cids_in es) ≡ false
none_has at c none [] h = refl
none_has at c none (e ∷ es) h =
    let both = and_parts (leads_to at e) (list_all (leads_to at) es) h in
    (elim (same_cid c e.item.cid) as (λ t. same_cid c e.item.cid ≡ t → (t || has c (cids_in es)) ≡ false) [
      | true ↦ λ t. absurd (no_true (ap (λ (o : Option Place). is_place o e.place) (sym none ∙ ap at (cid_is c e.item.cid t)) ∙ both.0))
      | false ↦ λ t. none_has at c none es both.1
    ]) refl

-- a block that the index has at this place
module _ (at : Cid → Option Place) (c : Cid) (p : Place) (is : at c ≡ Some p) (apart : (d : Cid) → at d ≡ Some p → same_cid d c ≡ true) where
  pub agrees : (e : Placed Entry) → leads_to at e ≡ true → eqb e.place.number p.number ≡ same_cid e.item.cid c
  agrees e leads =
      let there : at e.item.cid ≡ Some e.place = place_is (at e.item.cid) e.place leads in
      (elim (same_cid e.item.cid c) as (λ t. same_cid e.item.cid c ≡ t → eqb e.place.number p.number ≡ t) [
        | true ↦ λ t. let same : Some e.place ≡ Some p = sym there ∙ ap at (cid_is e.item.cid c t) ∙ is in ap (λ o. is_place o p) same ∙ eqb-self p.number
        | false ↦ λ t. (elim (eqb e.place.number p.number) as (λ b. eqb e.place.number p.number ≡ b → b ≡ false) [
          | true ↦ λ b. sym (apart e.item.cid (there ∙ place_is (Some e.place) p b)) ∙ t
          | false ↦ λ b. refl
        ]) refl
      ]) refl

  -- to leave by the place is to leave by the block, whatever is shown of an entry
  others_by : {X : Type 0} (show : Placed Entry → X) (test : X → Bool) → ((e : Placed Entry) → test (show e) ≡ same_cid e.item.cid c)
      → (es : List (Placed Entry)) → list_all (leads_to at) es ≡ true → map show (others_at p es) ≡ filter (λ x. not (test x)) (map show es)
  others_by show test same [] h = refl
  others_by show test same (e ∷ es) h =
      let both = and_parts (leads_to at e) (list_all (leads_to at) es) h in
      let rest = others_by show test same es both.1 in
      subst (λ t. map show (cond (not (eqb e.place.number p.number)) (e ∷ others_at p es) (others_at p es)) ≡ cond (not t) (show e ∷ filter (λ x. not (test x)) (map show es)) (filter (λ x. not (test x)) (map show es))) (agrees e both.0 ∙ sym (same e))
      ((elim (eqb e.place.number p.number) as (λ t. map show (cond (not t) (e ∷ others_at p es) (others_at p es)) ≡ cond (not t) (show e ∷ filter (λ x. not (test x)) (map show es)) (filter (λ x. not (test x)) (map show es))) [
        | true ↦ rest
        | false ↦ ap (λ xs. show e ∷ xs) rest
      ]))

  pub others_cids : (es : List (Placed Entry)) → list_all (leads_to at) es ≡ true → cids_in (others_at p es) ≡ others (cids_in es) c
  others_cids = others_by (λ (e : Placed Entry). e.item.cid) (λ (d : Cid). same_cid d c) (λ e. refl)

  pub others_bad : (es : List (Placed Entry)) → list_all (leads_to at) es ≡ true → bad_in (others_at p es) ≡ bad_others (bad_in es) c
  others_bad = others_by (λ (e : Placed Entry). (e.item.cid, e.item.damage)) (λ (b : Cid × ℕ). same_cid b.0 c) (λ e. refl)

  pub has_cids : (es : List (Placed Entry)) → list_all (leads_to at) es ≡ true → has_place p es ≡ has c (cids_in es)
  has_cids [] h = refl
  has_cids (e ∷ es) h =
      let both = and_parts (leads_to at e) (list_all (leads_to at) es) h in
      let here = agrees e both.0 ∙ same_cid-symm e.item.cid c in let rest = has_cids es both.1 in
      λ i. here i || rest i

  pub times_cids : (es : List (Placed Entry)) → list_all (leads_to at) es ≡ true → length (those_at p es) ≡ times c (cids_in es)
  times_cids [] h = refl
  times_cids (e ∷ es) h =
      let both = and_parts (leads_to at e) (list_all (leads_to at) es) h in
      let rest = times_cids es both.1 in
      subst (λ t. length (cond (eqb e.place.number p.number) (e ∷ those_at p es) (those_at p es)) ≡ cond t (1 + times c (cids_in es)) (times c (cids_in es))) (agrees e both.0 ∙ same_cid-symm e.item.cid c)
      ((elim (eqb e.place.number p.number) as (λ t. length (cond t (e ∷ those_at p es) (those_at p es)) ≡ cond t (1 + times c (cids_in es)) (times c (cids_in es))) [
        | true ↦ omega (arith, rest)
        | false ↦ rest
      ]))

  -- the entry at the place is that of the block, with any damage
  pub the_block : (es : List (Placed Entry)) → list_all (leads_to at) es ≡ true → has_place p es ≡ true → length (those_at p es) ≤ 1 → cids_in (those_at p es) ≡ c ∷ []
  the_block [] h some few = absurd (no_true some)
  the_block (e ∷ es) h some few =
      let both = and_parts (leads_to at e) (list_all (leads_to at) es) h in
      (elim (eqb e.place.number p.number) as (λ b. eqb e.place.number p.number ≡ b → (b || has_place p es) ≡ true → length (cond b (e ∷ those_at p es) (those_at p es)) ≤ 1 → cids_in (cond b (e ∷ those_at p es) (those_at p es)) ≡ c ∷ []) [
        | true ↦ λ b some few. let none : those_at p es ≡ [] = no_more (those_at p es) (omega (arith, few)) in
            (λ i. cid_is e.item.cid c (sym (agrees e both.0) ∙ b) i ∷ cids_in (none i))
        | false ↦ λ b some few. the_block es both.1 some few
      ]) refl some few
    where
      no_more : (xs : List (Placed Entry)) → length xs ≤ 0 → xs ≡ []
      no_more [] few = refl
      no_more (x ∷ xs) few = absurd (omega (arith, few))
