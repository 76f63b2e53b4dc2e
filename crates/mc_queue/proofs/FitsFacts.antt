-- What each change of the lists does to the index and to the wanted set.
use Rattle.std.proofs.Common.{◌≡◌, ℕ, ◌≤◌, Bool, true, false, not, eqb, cond, List, [], ◌∷◌, ◌++◌, Option, Some, None, sym, refl, ap, ◌∙◌, subst, arith, length, map}
use Rattle.std.specs.Prelude.{is_some, IfSome}
use Rattle.std.specs.List.{list_all}
use Rattle.std.proofs.lemmas.Bool.{and_parts, and_from}
use Rattle.std.proofs.lemmas.List.{map-append, append-nil}
use Rattle.std.proofs.lemmas.List.Folds.{list_all-append}
use Rattle.mc_base.specs.declared.cid.Cid.{Cid}
use Rattle.mc_model.specs.Front.{same_cid}
use Rattle.mc_model.specs.Graph.{times, has}
use Rattle.mc_model.specs.Wanted.{wanted, others, bad_others}
use Rattle.mc_model.proofs.Counts.{cid_is, cid_itself, same_cid-symm, times_none}
use Rattle.mc_list.specs.Entries.{Entry as Placed, entry, those_at, others as others_at, has_place, first_place}
use Rattle.mc_list.specs.Views.{entries, all_entries, IsUsed, KeepsPlaces, KeepsOthers}
use Rattle.mc_list.specs.declared.lists.Lists.{Lists}
use Rattle.mc_list.specs.declared.lists.Place.{Place}
use Rattle.mc_list.proofs.RingFacts.{eqb-self, eqb-symm}
use Rattle.mc_queue.specs.declared.part.Part.{Part}
use Rattle.mc_queue.specs.declared.part.Part.TheVariants.{Waiting, Flight, Missing, Bad}
use Rattle.mc_queue.specs.declared.part.Entry.{Entry}
use Rattle.mc_queue.specs.Parts.{same_part, list_of, first_of}
use Rattle.mc_queue.specs.Fits.{Fits, cids_in, bad_in, is_place, leads_to, entries_of, shown_in, moved}
use Rattle.mc_queue.specs.Shown.{cids_of}
use Rattle.mc_queue.proofs.EntryFacts.{no_true, place_is, all_kept, all_more, cids_are, wanted_are, all_found, none_has, agrees, others_cids, others_bad, has_cids, times_cids, the_block}

same_list : (to part : Part) → eqb (list_of to) (list_of part) ≡ same_part to part
same_list Waiting Waiting = refl
same_list Waiting Flight = refl
same_list Waiting Missing = refl
same_list Waiting Bad = refl
same_list Flight Waiting = refl
same_list Flight Flight = refl
same_list Flight Missing = refl
same_list Flight Bad = refl
same_list Missing Waiting = refl
same_list Missing Flight = refl
same_list Missing Missing = refl
same_list Missing Bad = refl
same_list Bad Waiting = refl
same_list Bad Flight = refl
same_list Bad Missing = refl
same_list Bad Bad = refl

-- entries come to a part, whatever is shown of them
arrived : {X : Type 0} (show : Placed Entry → X) (to part : Part) (n : ℕ) (base more now : List (Placed Entry)) → n ≡ list_of to → now ≡ base ++ cond (eqb n (list_of part)) more []
    → map show now ≡ cond (same_part to part) (map show base ++ map show more) (map show base)
arrived show to part n base more now number e = ap (map show) (e ∙ ap (λ b. base ++ cond b more []) (ap (λ m. eqb m (list_of part)) number ∙ same_list to part)) ∙ by (same_part to part)
  where
    by : (b : Bool) → map show (base ++ cond b more []) ≡ cond b (map show base ++ map show more) (map show base)
    by true = map-append show base more
    by false = ap (map show) (append-nil base)

-- what holds while nothing changes
module _ (at : Cid → Option Place) (lists : Lists Entry) (fits : Fits lists at) where
  all : list_all (leads_to at) (all_entries lists) ≡ true
  all = all_found at lists fits.found

  pub none_wanted : (c : Cid) → at c ≡ None → has c (wanted (shown_in lists)) ≡ false
  none_wanted c none = ap (has c) (wanted_are lists) ∙ none_has at c none (all_entries lists) all

  pub is_wanted : (c : Cid) (o : Option Place) → at c ≡ o → is_some o ≡ has c (wanted (shown_in lists))
  is_wanted c None is = sym (none_wanted c is)
  is_wanted c (Some p) is = sym (fits.used c p is) ∙ has_cids at c p is (λ d h. fits.apart c d p is h) (all_entries lists) all ∙ sym (ap (has c) (wanted_are lists))

  pub used_at : (c : Cid) (o : Option Place) → o ≡ at c → IfSome o (λ p. IsUsed lists p)
  used_at c None is = tt
  used_at c (Some p) is = fits.used c p (sym is)

  pub is_once : ((place : Place) → length (those_at place (all_entries lists)) ≤ 1) → (c : Cid) → times c (wanted (shown_in lists)) ≤ 1
  is_once few c = by (at c) refl
    where
      by : (o : Option Place) → at c ≡ o → times c (wanted (shown_in lists)) ≤ 1
      by None is = omega (arith, times_none c (wanted (shown_in lists)) (none_wanted c is))
      by (Some p) is = omega (arith, few p, times_cids at c p is (λ d h. fits.apart c d p is h) (all_entries lists) all, ap (times c) (wanted_are lists))

  -- the list of what stands at the place tells the part of the block
  pub is_listed : (c : Cid) (p : Place) → at c ≡ Some p → (list : ℕ) → ((other : ℕ) → has_place p (entries lists other) ≡ eqb other list)
      → (part : Part) (n : ℕ) → n ≡ list_of part → eqb list n ≡ has c (cids_of part (shown_in lists))
  is_listed c p is list only part n number = ap (eqb list) number ∙ eqb-symm list (list_of part) ∙ sym (only (list_of part))
      ∙ has_cids at c p is (λ d h. fits.apart c d p is h) (entries_of lists part) (fits.found (list_of part)) ∙ sym (ap (has c) (cids_are lists part))

  -- the first block of a part, and its place
  pub record StandsFirst (part : Part) (p : Place) : Type 0 where
    pub cid : Cid
    pub first : first_of (cids_of part (shown_in lists)) ≡ Some cid
    pub place : at cid ≡ Some p

  pub stands_first : (part : Part) (p : Place) → Some p ≡ first_place (entries_of lists part) → StandsFirst part p
  stands_first part p is = by (entries_of lists part) refl is
    where
      by : (es : List (Placed Entry)) → entries_of lists part ≡ es → Some p ≡ first_place es → StandsFirst part p
      by [] e f = absurd (no_true (sym (ap is_some f)))
      by (x ∷ es) e f = record {
        cid = x.item.cid;
        first = ap first_of (cids_are lists part ∙ ap cids_in e);
        place = place_is (at x.item.cid) x.place (and_parts (leads_to at x) (list_all (leads_to at) es) (ap (list_all (leads_to at)) (sym e) ∙ fits.found (list_of part))).0 ∙ sym f;
      }

-- an entry comes to the back of a list
module _ (at : Cid → Option Place) (old new : Lists Entry) (fits : Fits old at) (p : Place) (n : ℕ)
    (now : (list : ℕ) → entries new list ≡ others_at p (entries old list) ++ cond (eqb n list) (those_at p (all_entries old)) [])
    (keeps : KeepsPlaces old new) where
  pub shifted_fits : Fits new at
  shifted_fits = record {
    found = λ list. ap (list_all (leads_to at)) (now list) ∙ list_all-append (leads_to at) (others_at p (entries old list)) (cond (eqb n list) (those_at p (all_entries old)) [])
        ∙ and_from _ _ (all_kept (leads_to at) (leads_to at) (λ e. not (eqb e.place.number p.number)) (λ e h k. h) (entries old list) (fits.found list)) (came (eqb n list));
    used = λ c q is. keeps q (fits.used c q is);
    apart = fits.apart;
  }
    where
      came : (b : Bool) → list_all (leads_to at) (cond b (those_at p (all_entries old)) []) ≡ true
      came true = all_kept (leads_to at) (leads_to at) (λ e. eqb e.place.number p.number) (λ e h k. h) (all_entries old) (all at old fits)
      came false = refl

  pub shifted_shows : (to : Part) → n ≡ list_of to → ((place : Place) → length (those_at place (all_entries old)) ≤ 1) → same_part to Bad ≡ false → (c : Cid) → at c ≡ Some p → shown_in new ≡ moved (Some to) (shown_in old) c 0
  shifted_shows to number few apart c is = λ i. record { waiting = cids Waiting i; flight = cids Flight i; missing = cids Missing i; bad = bad i }
    where
      cids : (part : Part) → cids_in (entries_of new part) ≡ cond (same_part to part) (others (cids_in (entries_of old part)) c ++ c ∷ []) (others (cids_in (entries_of old part)) c)
      cids part = arrived (λ (e : Placed Entry). e.item.cid) to part n (others_at p (entries_of old part)) (those_at p (all_entries old)) (entries_of new part) number (now (list_of part))
          ∙ (λ i. cond (same_part to part) (left i ++ the_one i) (left i))
        where
          left : cids_in (others_at p (entries_of old part)) ≡ others (cids_in (entries_of old part)) c
          left = others_cids at c p is (λ d h. fits.apart c d p is h) (entries_of old part) (fits.found (list_of part))

          the_one : cids_in (those_at p (all_entries old)) ≡ c ∷ []
          the_one = the_block at c p is (λ d h. fits.apart c d p is h) (all_entries old) (all at old fits) (fits.used c p is) (few p)

      bad : bad_in (entries_of new Bad) ≡ cond (same_part to Bad) (bad_others (bad_in (entries_of old Bad)) c ++ (c, 0) ∷ []) (bad_others (bad_in (entries_of old Bad)) c)
      bad = arrived (λ (e : Placed Entry). (e.item.cid, e.item.damage)) to Bad n (others_at p (entries_of old Bad)) (those_at p (all_entries old)) (entries_of new Bad) number (now 3)
          ∙ ap (λ b. cond b (bad_in (others_at p (entries_of old Bad)) ++ bad_in (those_at p (all_entries old))) (bad_in (others_at p (entries_of old Bad)))) apart
          ∙ others_bad at c p is (λ d h. fits.apart c d p is h) (entries_of old Bad) (fits.found 3)
          ∙ sym (ap (λ b. cond b (bad_others (bad_in (entries_of old Bad)) c ++ (c, 0) ∷ []) (bad_others (bad_in (entries_of old Bad)) c)) apart)

-- an entry for a block that has none comes to the back of a list
module _ (at after : Cid → Option Place) (old new : Lists Entry) (fits : Fits old at) (c : Cid) (q : Place) (damage n : ℕ) (absent : at c ≡ None)
    (set : (other : Cid) → after other ≡ cond (same_cid c other) (Some q) (at other))
    (now : (list : ℕ) → entries new list ≡ entries old list ++ cond (eqb n list) (entry q (record { cid = c; damage = damage }) ∷ []) [])
    (fresh : has_place q (all_entries old) ≡ false) (used : IsUsed new q) (keeps : KeepsPlaces old new) where
  abbrev item : Entry
  item = record { cid = c; damage = damage }

  other_stays : (d : Cid) → same_cid c d ≡ false → after d ≡ at d
  other_stays d e = set d ∙ ap (λ b. cond b (Some q) (at d)) e

  same_now : (d : Cid) (r : Place) → same_cid c d ≡ true → after d ≡ Some r → r ≡ q
  same_now d r e is = place_of r q (sym is ∙ set d ∙ ap (λ b. cond b (Some q) (at d)) e)
    where
      place_of : (r q : Place) → Some r ≡ Some q → r ≡ q
      place_of r q e = cc

  not_fresh : (d : Cid) → at d ≡ Some q → ⊥
  not_fresh d is = no_true (sym fresh ∙ fits.used d q is)

  pub added_fits : Fits new after
  added_fits = record {
    found = λ list. ap (list_all (leads_to after)) (now list) ∙ list_all-append (leads_to after) (entries old list) (cond (eqb n list) (entry q item ∷ []) [])
        ∙ and_from _ _ (all_more (leads_to at) (leads_to after) still (entries old list) (fits.found list)) (came (eqb n list));
    used = λ d r is. by_used d r is (same_cid c d) refl;
    apart = λ d e r is so. by_apart d e r is so (same_cid c d) (same_cid c e) refl refl;
  }
    where
      still : (e : Placed Entry) → leads_to at e ≡ true → leads_to after e ≡ true
      still e leads = (elim (same_cid c e.item.cid) as (λ b. same_cid c e.item.cid ≡ b → leads_to after e ≡ true) [
        | true ↦ λ b. absurd (no_true (ap (λ o. is_place o e.place) (sym absent ∙ ap at (cid_is c e.item.cid b)) ∙ leads))
        | false ↦ λ b. ap (λ o. is_place o e.place) (other_stays e.item.cid b) ∙ leads
      ]) refl

      came : (b : Bool) → list_all (leads_to after) (cond b (entry q item ∷ []) []) ≡ true
      came true = and_from (leads_to after (entry q item)) true (ap (λ o. is_place o q) (set c ∙ ap (λ b. cond b (Some q) (at c)) (cid_itself c)) ∙ eqb-self q.number) refl
      came false = refl

      by_used : (d : Cid) (r : Place) → after d ≡ Some r → (b : Bool) → same_cid c d ≡ b → IsUsed new r
      by_used d r is true e = subst (IsUsed new) (sym (same_now d r e is)) used
      by_used d r is false e = keeps r (fits.used d r (sym (other_stays d e) ∙ is))

      by_apart : (d e : Cid) (r : Place) → after d ≡ Some r → after e ≡ Some r → (a b : Bool) → same_cid c d ≡ a → same_cid c e ≡ b → same_cid e d ≡ true
      by_apart d e r is so true true x y = ap (same_cid e) (sym (cid_is c d x)) ∙ same_cid-symm e c ∙ y
      by_apart d e r is so true false x y = absurd (not_fresh e (sym (other_stays e y) ∙ so ∙ ap Some (same_now d r x is)))
      by_apart d e r is so false true x y = absurd (not_fresh d (sym (other_stays d x) ∙ is ∙ ap Some (same_now e r y so)))
      by_apart d e r is so false false x y = fits.apart d e r (sym (other_stays d x) ∙ is) (sym (other_stays e y) ∙ so)

-- the entry of a block leaves its list
module _ (at after : Cid → Option Place) (old new : Lists Entry) (fits : Fits old at) (c : Cid) (p : Place) (is : at c ≡ Some p)
    (set : (other : Cid) → after other ≡ cond (same_cid c other) None (at other))
    (now : (list : ℕ) → entries new list ≡ others_at p (entries old list)) (keeps : KeepsOthers p old new) where
  its_own : (d : Cid) → at d ≡ Some p → same_cid d c ≡ true
  its_own d h = fits.apart c d p is h

  was : (d : Cid) (r : Place) → after d ≡ Some r → (same_cid c d ≡ false) × (at d ≡ Some r)
  was d r h = by (same_cid c d) refl
    where
      by : (b : Bool) → same_cid c d ≡ b → (same_cid c d ≡ false) × (at d ≡ Some r)
      by true e = absurd (no_true (ap is_some (sym (set d ∙ ap (λ b. cond b None (at d)) e) ∙ h)))
      by false e = (e, sym (set d ∙ ap (λ b. cond b None (at d)) e) ∙ h)

  pub taken_fits : Fits new after
  taken_fits = record {
    found = λ list. ap (list_all (leads_to after)) (now list) ∙ all_kept (leads_to at) (leads_to after) (λ e. not (eqb e.place.number p.number)) still (entries old list) (fits.found list);
    used = λ d r h. let w = was d r h in keeps r (other_place d r w.0 w.1) (fits.used d r w.1);
    apart = λ d e r h k. fits.apart d e r (was d r h).1 (was e r k).1;
  }
    where
      still : (e : Placed Entry) → leads_to at e ≡ true → not (eqb e.place.number p.number) ≡ true → leads_to after e ≡ true
      still e leads away = (elim (same_cid c e.item.cid) as (λ b. same_cid c e.item.cid ≡ b → leads_to after e ≡ true) [
        | true ↦ λ b. absurd (no_true (sym (ap not (agrees at c p is its_own e leads ∙ same_cid-symm e.item.cid c ∙ b)) ∙ away))
        | false ↦ λ b. ap (λ o. is_place o e.place) (set e.item.cid ∙ ap (λ b. cond b None (at e.item.cid)) b) ∙ leads
      ]) refl

      other_place : (d : Cid) (r : Place) → same_cid c d ≡ false → at d ≡ Some r → eqb r.number p.number ≡ false
      other_place d r e h = (elim (eqb r.number p.number) as (λ b. eqb r.number p.number ≡ b → b ≡ false) [
        | true ↦ λ b. sym (its_own d (h ∙ place_is (Some r) p b)) ∙ same_cid-symm d c ∙ e
        | false ↦ λ b. refl
      ]) refl

  pub taken_cids : (part : Part) → cids_in (entries_of new part) ≡ others (cids_in (entries_of old part)) c
  taken_cids part = ap cids_in (now (list_of part)) ∙ others_cids at c p is its_own (entries_of old part) (fits.found (list_of part))

  pub taken_bad : bad_in (entries_of new Bad) ≡ bad_others (bad_in (entries_of old Bad)) c
  taken_bad = ap bad_in (now 3) ∙ others_bad at c p is its_own (entries_of old Bad) (fits.found 3)

  pub taken_shows : shown_in new ≡ moved None (shown_in old) c 0
  taken_shows = λ i. record { waiting = taken_cids Waiting i; flight = taken_cids Flight i; missing = taken_cids Missing i; bad = taken_bad i }

-- the entry of a block is taken out, and another comes to the back of a list
pub spoiled_fits : (at after : Cid → Option Place) (old mid new : Lists Entry) (fits : Fits old at) (c : Cid) (p q : Place) (damage n : ℕ) → at c ≡ Some p
    → ((other : Cid) → after other ≡ cond (same_cid c other) (Some q) (at other))
    → ((list : ℕ) → entries mid list ≡ others_at p (entries old list)) → KeepsOthers p old mid
    → ((list : ℕ) → entries new list ≡ entries mid list ++ cond (eqb n list) (entry q (record { cid = c; damage = damage }) ∷ []) [])
    → has_place q (all_entries mid) ≡ false → IsUsed new q → KeepsPlaces mid new → Fits new after
spoiled_fits at after old mid new fits c p q damage n is set taken kept added fresh used keeps =
    added_fits without after mid new (taken_fits at without old mid fits c p is (λ other. refl) taken kept) c q damage n (ap (λ b. cond b None (at c)) (cid_itself c)) (λ other. set other ∙ twice (same_cid c other) (at other)) added fresh used keeps
  where
    without : Cid → Option Place
    without other = cond (same_cid c other) None (at other)

    twice : (b : Bool) (o : Option Place) → cond b (Some q) o ≡ cond b (Some q) (cond b None o)
    twice true o = refl
    twice false o = refl

pub spoiled_shows : (at : Cid → Option Place) (old mid new : Lists Entry) (fits : Fits old at) (c : Cid) (p q : Place) (damage n : ℕ) (is : at c ≡ Some p) → n ≡ 3
    → ((list : ℕ) → entries mid list ≡ others_at p (entries old list)) → ((list : ℕ) → entries new list ≡ entries mid list ++ cond (eqb n list) (entry q (record { cid = c; damage = damage }) ∷ []) [])
    → shown_in new ≡ moved (Some Bad) (shown_in old) c damage
spoiled_shows at old mid new fits c p q damage n is number taken added = λ i. record { waiting = cids Waiting i; flight = cids Flight i; missing = cids Missing i; bad = bad i }
  where
    item : Entry
    item = record { cid = c; damage = damage }

    its_own : (d : Cid) → at d ≡ Some p → same_cid d c ≡ true
    its_own d h = fits.apart c d p is h

    cids : (part : Part) → cids_in (entries_of new part) ≡ cond (same_part Bad part) (others (cids_in (entries_of old part)) c ++ c ∷ []) (others (cids_in (entries_of old part)) c)
    cids part = arrived (λ (e : Placed Entry). e.item.cid) Bad part n (entries_of mid part) (entry q item ∷ []) (entries_of new part) number (added (list_of part))
        ∙ ap (λ (xs : List Cid). cond (same_part Bad part) (xs ++ c ∷ []) xs) (ap cids_in (taken (list_of part)) ∙ others_cids at c p is its_own (entries_of old part) (fits.found (list_of part)))

    bad : bad_in (entries_of new Bad) ≡ bad_others (bad_in (entries_of old Bad)) c ++ (c, damage) ∷ []
    bad = arrived (λ (e : Placed Entry). (e.item.cid, e.item.damage)) Bad Bad n (entries_of mid Bad) (entry q item ∷ []) (entries_of new Bad) number (added 3)
        ∙ ap (λ b. b ++ (c, damage) ∷ []) (ap bad_in (taken 3) ∙ others_bad at c p is its_own (entries_of old Bad) (fits.found 3))

-- the same entries
pub same_fits : (at after : Cid → Option Place) (old new : Lists Entry) → after ≡ at → ((list : ℕ) → entries new list ≡ entries old list) → KeepsPlaces old new → Fits old at → Fits new after
same_fits at after old new e now keeps fits = subst (Fits new) (sym e) (record {
  found = λ list. ap (list_all (leads_to at)) (now list) ∙ fits.found list;
  used = λ c q is. keeps q (fits.used c q is);
  apart = fits.apart;
})
