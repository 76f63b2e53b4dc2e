-- What a call at a place in use needs, and what comes of it.
use Rattle.std.proofs.Common.{◌≡◌, ℕ, ◌+◌, ◌-◌, ◌<◌, ◌≤◌, ◌^◌, true, false, eqb, T as Yes, cond, List, [], ◌∷◌, ◌++◌, length, Option, Some, None, refl, sym, ap, ◌∙◌, subst, arith, eqb→eq, ltb→lt, nltb→le, not, is_some, slice_get, append-nil}
use Rattle.std.specs.Prelude.{nat_lt}
use Rattle.mc_list.specs.Rings.{upd, NotIn, Agree, head_or, without}
use Rattle.mc_list.specs.Web.{Shape, Reaches, ends, spare_list, link_to, set_item}
use Rattle.mc_list.specs.Ringed.{CanMove, ring, or_zero, linked_to, moved}
use Rattle.mc_list.specs.Entries.{Entry, entry, those_at, others, has_place, first_place}
use Rattle.mc_list.specs.Whole.{Whole, place_at, entry_at, collect, entries_in, spare_in}
use Rattle.mc_list.specs.declared.lists.Place.{Place}
use Rattle.mc_list.specs.declared.node.Link.{Link}
use Rattle.mc_list.proofs.RingFacts.{eqb-self, eqb-symm, upd_same, upd_other, first_is}
use Rattle.mc_list.proofs.WebFacts.{some_is, apart_by}
use Rattle.mc_list.proofs.EntryFacts.{collect_upd, collect_without, length_collect, first_collect, has_none, has_one}
use Rattle.mc_list.proofs.AllFacts.{all_in, in_list, the_one}
use Rattle.mc_list.proofs.PlaceFacts.{shift_keeps}
use Rattle.mc_list.proofs.FitsFacts.{item_whole, class_is, low, reaches, can_move, new_class, new_reaches, new_whole, new_entries}

some_of : {A : Type 0} (o : Option A) → is_some o ≡ true → (x : A) × (o ≡ Some x)
some_of None e = absurd (cc)
some_of (Some x) e = (x, refl)

pub apart : (k l : ℕ) → k < l → eqb k l ≡ false
apart k l less = grind (arith, less)

left : (p : ℕ) (ps : List ℕ) → NotIn p (without p ps)
left p [] = tt
left p (q ∷ qs) = (elim (eqb q p) as (λ t. eqb q p ≡ t → NotIn p (cond t (without p qs) (q ∷ without p qs))) [
  | true ↦ λ t. left p qs
  | false ↦ λ t. (t, left p qs)
]) refl

-- the count of a list that takes no part in a move, and of one that something comes to
pub count_same : (f : ℕ → Option ℕ) (k to l : ℕ) (u v : Option ℕ) → eqb l to ≡ false → eqb l k ≡ false → upd (upd f k u) to v l ≡ f l
count_same f k to l u v a b = upd_other (upd f k u) to v l a ∙ upd_other f k u l b

count_more : (f : ℕ → Option ℕ) (k to l : ℕ) (u : Option ℕ) → to ≡ l → eqb to k ≡ false → or_zero (upd (upd f k u) to (Some (or_zero (upd f k u to) + 1)) l) ≡ or_zero (f l) + 1
count_more f k to l u e d = let n : Option ℕ = Some (or_zero (upd f k u to) + 1) in
    (λ i. or_zero (upd (upd f k u) to n (sym e i))) ∙ ap or_zero (upd_same (upd f k u) to n) ∙ ap (λ o. or_zero o + 1) (upd_other f k u to d) ∙ ap (λ q. or_zero (f q) + 1) e

module _ {T : Type 0} where
  -- the entries of a list, of which there are four
  abbrev pub shown : Shape T → ℕ → List (Entry T)
  shown s l = cond (nat_lt l 4) (entries_in s l) []

  -- an equation for the four lists holds for every number
  pub each : (s : Shape T) (of : ℕ → List (Entry T)) → ((l : ℕ) → l < 4 → entries_in s l ≡ of l) → ((l : ℕ) → 4 ≤ l → of l ≡ []) → (l : ℕ) → shown s l ≡ of l
  each s of four none l = (elim (nat_lt l 4) as (λ t. nat_lt l 4 ≡ t → cond t (entries_in s l) [] ≡ of l) [
    | true ↦ λ t. four l (ltb→lt l 4 (subst Yes (sym t) tt))
    | false ↦ λ t. sym (none l (nltb→le l 4 (subst (λ b. Yes (not b)) (sym t) tt)))
  ]) refl

  pub shown_four : (s : Shape T) (l : ℕ) → l < 4 → shown s l ≡ entries_in s l
  shown_four s l h = let is : nat_lt l 4 ≡ true = grind (arith, h) in rw is refl

  pub shown_none : (s : Shape T) (l : ℕ) → 4 ≤ l → shown s l ≡ []
  shown_none s l h = let is : nat_lt l 4 ≡ false = grind (arith, h) in rw is refl

  -- the same entries
  pub same_shown : (s t : Shape T) → ((l : ℕ) → l < 4 → entries_in t l ≡ entries_in s l) → (l : ℕ) → shown t l ≡ shown s l
  same_shown s t is = each t (shown s) (λ l h. is l h ∙ sym (shown_four s l h)) (shown_none s)

  module _ (s : Shape T) (whole : Whole s) where
    module _ (l : ℕ) (h : l < 4) where
      five : l < 5
      five = omega (arith, h)

      in_ring : (p : ℕ) (ps : List ℕ) → ring s l ≡ p ∷ ps → NotIn p (ring s l) → ⊥
      in_ring p ps is d = let bad : true ≡ false = sym (eqb-self p) ∙ (subst (NotIn p) is d).0 in absurd (cc)

      -- each node of the list holds an item
      all_items : (ps : List ℕ) → ((p : ℕ) → s.list p ≡ Some l → (NotIn p ps → ⊥) → p < ends) → Agree s.list (λ i. Some l) ps → Agree (λ p. is_some (s.item p)) (λ p. true) ps
      all_items [] small c = tt
      all_items (p ∷ ps) small c = (whole.items l p h (small p c.0 (λ d. let bad : true ≡ false = sym (eqb-self p) ∙ d.0 in absurd (cc))) c.0, all_items ps (λ q is on. small q is (λ d. on d.1)) c.1)

      pub counted : (n : ℕ) → s.counts l ≡ Some n → n ≡ length (shown s l)
      counted n is = some_is n (length (ring s l)) (sym is ∙ (whole.rings l five).count)
          ∙ sym (ap length (shown_four s l h) ∙ length_collect s.item (ring s l) (all_items (ring s l) (λ p is on. low s whole l p five on) (whole.rings l five).class.1))

      -- the first node of the list, or its ends
      module _ (b : Link T) (is : s.next (ends + l) ≡ Some b) where
        leads : b.place ≡ head_or (ends + l) (ring s l)
        leads = ap (λ (k : Link T). k.place) (some_is b (link_to s.at (head_or (ends + l) (ring s l))) (sym is ∙ first_is (linked_to s) s.next s.prev (ends + l) (ring s l) (ends + l) (whole.rings l five).path))

        pub is_empty : ends ≤ b.place → None ≡ first_place (shown s l)
        is_empty high = by (ring s l) refl
          where
            by : (ps : List ℕ) → ring s l ≡ ps → None ≡ first_place (shown s l)
            by [] e = sym (ap first_place (shown_four s l h ∙ ap (collect s.item) e))
            by (p ∷ ps) e = let at : b.place ≡ p = leads ∙ ap (head_or (ends + l)) e in
                let small = low s whole l p five (in_ring p ps e) in absurd (omega (arith, at, high, small))

        pub is_first : b.place < ends → Some (place_at b.place) ≡ first_place (shown s l)
        is_first small = by (ring s l) refl
          where
            by : (ps : List ℕ) → ring s l ≡ ps → Some (place_at b.place) ≡ first_place (shown s l)
            by [] e = let at : b.place ≡ ends + l = leads ∙ ap (head_or (ends + l)) e in absurd (omega (arith, at, small))
            by (p ∷ ps) e = let at : b.place ≡ p = leads ∙ ap (head_or (ends + l)) e in let on = in_ring p ps e in
                ap (λ q. Some (place_at q)) at ∙ sym (ap first_place (shown_four s l h ∙ ap (collect s.item) e)
                ∙ first_collect s.item p ps (whole.items l p h (low s whole l p five on) (class_is s whole l p five on)))

    -- a place in use
    module _ (p : ℕ) (used : has_place (place_at p) (all_in s) ≡ true) where
      abbrev k : ℕ
      k = (in_list s whole p used).0

      abbrev four : k < 4
      four = (in_list s whole p used).1

      abbrev on : NotIn p (ring s k) → ⊥
      on = (in_list s whole p used).2

      few : k < 5
      few = omega (arith, four)

      class : s.list p ≡ Some k
      class = class_is s whole k p few on

      small : p < ends
      small = low s whole k p few on

      some_item : is_some (s.item p) ≡ true
      some_item = whole.items k p four small class

      pub there : is_some (slice_get s.table p) ≡ true
      there = ap is_some (whole.table p small (ap is_some class))

      module _ (link : Link T) (is : slice_get s.table p ≡ Some link) where
        leads_to : link ≡ link_to s.at p
        leads_to = some_is link (link_to s.at p) (sym is ∙ whole.table p small (ap is_some class))

        pub at_place : link.place ≡ p
        at_place = ap (λ (l : Link T). l.place) leads_to

        pub used_reaches : Reaches s link
        used_reaches = reaches s whole k p few on link leads_to

        pub is_node : link.place < ends
        is_node = subst (λ q. q < ends) (sym at_place) small

        pub holds : is_some (s.item link.place) ≡ true
        holds = ap (λ q. is_some (s.item q)) at_place ∙ some_item

        pub used_item : (x : T) → s.item link.place ≡ Some x → those_at (place_at p) (all_in s) ≡ entry (place_at p) x ∷ []
        used_item x e = the_one s whole p used x (ap s.item (sym at_place) ∙ e)

        pub used_list : (r : ℕ) → Some r ≡ s.list link.place → (l : ℕ) → has_place (place_at p) (shown s l) ≡ eqb l r
        used_list r e l = let r_k : r ≡ k = some_is r k (e ∙ ap s.list at_place ∙ class) in
            (elim (nat_lt l 4) as (λ t. nat_lt l 4 ≡ t → has_place (place_at p) (cond t (entries_in s l) []) ≡ eqb l r) [
              | true ↦ λ t. let h : l < 4 = ltb→lt l 4 (subst Yes (sym t) tt) in (elim (eqb l k) as (λ b. eqb l k ≡ b → has_place (place_at p) (entries_in s l) ≡ eqb l r) [
                | true ↦ λ b. let same : l ≡ k = eqb→eq l k (subst Yes (sym b) tt) in
                    has_one p s.item some_item (ring s l) (λ d. on (subst (λ j. NotIn p (ring s j)) same d)) ∙ sym (ap (eqb l) r_k ∙ b)
                | false ↦ λ b. has_none p s.item (ring s l) (apart_by s.list k l p (ring s l) class (eqb-symm k l ∙ b) (whole.rings l (omega (arith, h))).class.1) ∙ sym (ap (eqb l) r_k ∙ b)
              ]) refl
              | false ↦ λ t. let h : 4 ≤ l = nltb→le l 4 (subst (λ b. Yes (not b)) (sym t) tt) in
                  let off : eqb k l ≡ false = apart k l (omega (arith, four, h)) in sym (ap (eqb l) r_k ∙ eqb-symm l k ∙ off)
            ]) refl

        module _ (to : ℕ) (room : to < 5) where
          pub may_move : length s.table < 2 ^ 63 → (from : ℕ) × CanMove s link from to
          may_move short = (k, can_move s whole k p few on to room link leads_to short)

          module _ (new : Shape T) (came : (from : ℕ) → s.list link.place ≡ Some from → new ≡ moved s link.place from to) where
            is_moved : new ≡ moved s p k to
            is_moved = came k (ap s.list at_place ∙ class) ∙ ap (λ q. moved s q k to) at_place

            pub moved_whole : Whole new
            moved_whole = subst Whole (sym is_moved) (new_whole s whole k p few on to room (λ h. some_item))

            pub moved_reaches : Reaches new link
            moved_reaches = subst (λ t. Reaches t link) (sym is_moved) (new_reaches s whole k p few on to room link leads_to)

            pub moved_class : new.list link.place ≡ Some to
            moved_class = ap new.list at_place ∙ ap (λ (t : Shape T). t.list p) is_moved ∙ new_class s whole k p few on to room

            moved_item : new.item ≡ s.item
            moved_item = ap (λ (t : Shape T). t.item) is_moved

            pub moved_holds : is_some (new.item link.place) ≡ true
            moved_holds = ap (λ (f : ℕ → Option T). is_some (f link.place)) moved_item ∙ holds

            pub moved_one : (x : T) → new.item link.place ≡ Some x → those_at (place_at p) (all_in s) ≡ entry (place_at p) x ∷ []
            moved_one x e = used_item x (sym (ap (λ (f : ℕ → Option T). f link.place) moved_item) ∙ e)

            -- after a shift
            module _ (h : to < 4) where
              pub shifted : (l : ℕ) → shown new l ≡ others (place_at p) (shown s l) ++ cond (eqb to l) (those_at (place_at p) (all_in s)) []
              shifted = each new (λ l. others (place_at p) (shown s l) ++ cond (eqb to l) (those_at (place_at p) (all_in s)) [])
                  (λ l few_l. ap (λ t. entries_in t l) is_moved ∙ new_entries s whole k p few on to room s.item l (omega (arith, few_l))
                  ∙ (λ i. others (place_at p) (sym (shown_four s l few_l) i) ++ cond (eqb to l) (the_entry i) []))
                  (λ l many. let off : eqb to l ≡ false = apart to l (omega (arith, h, many)) in
                  (λ i. others (place_at p) (shown_none s l many i) ++ cond (off i) (those_at (place_at p) (all_in s)) []))
                where
                  the_entry : entry_at p (s.item p) ≡ those_at (place_at p) (all_in s)
                  the_entry = let x = some_of (s.item p) some_item in ap (entry_at p) x.1 ∙ sym (the_one s whole p used x.0 x.1)

              pub shift_places : (q : Place) → has_place q (all_in s) ≡ true → has_place q (all_in new) ≡ true
              shift_places = let x = some_of (s.item p) some_item in
                  shift_keeps (shown s) (shown new) (place_at p) to h x.0 (λ l. shifted l ∙ ap (λ es. others (place_at p) (shown s l) ++ cond (eqb to l) es []) (the_one s whole p used x.0 x.1))

              pub shifted_spare : spare_in new ≡ spare_in s
              shifted_spare = let a : eqb spare_list to ≡ false = eqb-symm spare_list to ∙ apart to spare_list h in let b : eqb spare_list k ≡ false = eqb-symm spare_list k ∙ apart k spare_list four in
                  ap spare_in is_moved ∙ ap or_zero (count_same s.counts k to spare_list (Some (or_zero (s.counts k) - 1)) (Some (or_zero (upd s.counts k (Some (or_zero (s.counts k) - 1)) to) + 1)) a b)

            -- after a take
            module _ (is_spare : to ≡ spare_list) (last : Shape T) (out : last ≡ set_item new link.place None) where
              pub taken_whole : Whole last
              taken_whole = subst Whole (sym out) (item_whole new moved_whole link.place to None moved_class (omega (arith, is_spare)))

              pub taken : (l : ℕ) → shown last l ≡ others (place_at p) (shown s l)
              taken = each last (λ l. others (place_at p) (shown s l)) (λ l h. let off : eqb to l ≡ false = ap (λ q. eqb q l) is_spare ∙ (eqb-symm spare_list l ∙ apart l spare_list h) in
                  let is : last ≡ set_item (moved s p k to) p None = out ∙ (λ i. set_item (is_moved i) (at_place i) None) in
                  ap (λ t. entries_in t l) is ∙ new_entries s whole k p few on to room (upd s.item p None) l (omega (arith, h))
                  ∙ ap (λ b. others (place_at p) (collect (upd s.item p None) (ring s l)) ++ cond b (entry_at p (upd s.item p None p)) []) off
                  ∙ append-nil (others (place_at p) (collect (upd s.item p None) (ring s l)))
                  ∙ away s.item (ring s l) ∙ ap (others (place_at p)) (sym (shown_four s l h)))
                  (λ l many. ap (others (place_at p)) (shown_none s l many))
                where
                  away : (f : ℕ → Option T) (ps : List ℕ) → others (place_at p) (collect (upd f p None) ps) ≡ others (place_at p) (collect f ps)
                  away f ps = sym (collect_without p (upd f p None) ps) ∙ collect_upd f p None (without p ps) (left p ps) ∙ collect_without p f ps

              pub taken_spare : spare_in last ≡ spare_in s + 1
              taken_spare = let off : eqb to k ≡ false = ap (λ q. eqb q k) is_spare ∙ eqb-symm spare_list k ∙ apart k spare_list four in
                  ap spare_in (out ∙ ap (λ t. set_item t link.place None) is_moved) ∙ count_more s.counts k to spare_list (Some (or_zero (s.counts k) - 1)) is_spare off
