-- A move keeps what holds between two calls, and is the wanted move of the entries.
use Rattle.std.proofs.Common.{◌≡◌, ℕ, zero, suc, ◌+◌, ◌-◌, ◌<◌, ◌≤◌, ◌^◌, Bool, true, false, eqb, T as Yes, cond, List, [], ◌∷◌, ◌++◌, length, Option, Some, refl, sym, ap, ◌∙◌, subst, arith, eqb→eq, ltb→lt, nltb→le, not, is_some, slice_get, length-append, append-nil}
use Rattle.std.specs.Prelude.{nat_lt}
use Rattle.mc_list.specs.Rings.{upd, NotIn, head_or, last_or, without}
use Rattle.mc_list.specs.Web.{Shape, Reaches, ends, loose, link_to, set_item}
use Rattle.mc_list.specs.Ringed.{RingOk, Ringed, CanUnlink, CanAppend, CanMove, ring, or_zero, linked_to, unlinked, moved}
use Rattle.mc_list.specs.Entries.{others}
use Rattle.mc_list.specs.Whole.{Whole, total, place_at, entry_at, collect}
use Rattle.mc_list.specs.declared.node.Link.{Link}
use Rattle.mc_list.proofs.RingFacts.{eqb-self, upd_same, upd_other, last_is, not_in_right, standing}
use Rattle.mc_list.proofs.WebFacts.{some_is, agree_last, agree_head, agree_left, agree_right, before, after, unlinked_ok, appended_ok, ring_is, ringed}
use Rattle.mc_list.proofs.EntryFacts.{collect_app, collect_without}

pub total_upd : (f : ℕ → Option ℕ) (k v : ℕ) → k < 5 → total (upd f k (Some v)) + or_zero (f k) ≡ total f + v
total_upd f zero v h = omega arith
total_upd f (suc zero) v h = omega arith
total_upd f (suc (suc zero)) v h = omega arith
total_upd f (suc (suc (suc zero))) v h = omega arith
total_upd f (suc (suc (suc (suc zero)))) v h = omega arith
total_upd f (suc (suc (suc (suc (suc k))))) v h = absurd (omega (arith, h))

pub part : (f : ℕ → Option ℕ) (k n : ℕ) → k < 5 → f k ≡ Some n → n ≤ total f
part f zero n h e = let c : or_zero (f 0) ≡ n = ap or_zero e in omega (arith, c)
part f (suc zero) n h e = let c : or_zero (f 1) ≡ n = ap or_zero e in omega (arith, c)
part f (suc (suc zero)) n h e = let c : or_zero (f 2) ≡ n = ap or_zero e in omega (arith, c)
part f (suc (suc (suc zero))) n h e = let c : or_zero (f 3) ≡ n = ap or_zero e in omega (arith, c)
part f (suc (suc (suc (suc zero)))) n h e = let c : or_zero (f 4) ≡ n = ap or_zero e in omega (arith, c)
part f (suc (suc (suc (suc (suc k))))) n h e = absurd (omega (arith, h))

module _ {T : Type 0} where
  -- an item comes or goes where no list of the four has the node
  pub item_whole : (s : Shape T) → Whole s → (x k : ℕ) (o : Option T) → s.list x ≡ Some k → 4 ≤ k → Whole (set_item s x o)
  item_whole s whole x k o is spare = record {
    rings = λ l h. let r = whole.rings l h in record { path = r.path; apart = r.apart; class = r.class; count = r.count };
    items = λ l p h low c. (elim (eqb p x) as (λ t. eqb p x ≡ t → is_some (upd s.item x o p) ≡ true) [
      | true ↦ λ t. let same : p ≡ x = eqb→eq p x (subst Yes (sym t) tt) in
          let kl : l ≡ k = some_is l k (sym c ∙ ap s.list same ∙ is) in absurd (omega (arith, kl, spare, h))
      | false ↦ λ t. ap is_some (upd_other s.item x o p t) ∙ whole.items l p h low c
    ]) refl;
    table = whole.table;
    tied = whole.tied;
    few = whole.few;
    classes = whole.classes;
  }

  module _ (s : Shape T) (whole : Whole s) (k x : ℕ) (few : k < 5) (on : NotIn x (ring s k) → ⊥) where
    abbrev at_list : (us : List ℕ) × (vs : List ℕ) × (ring s k ≡ us ++ x ∷ vs)
    at_list = standing x (ring s k) on

    abbrev us : List ℕ
    us = at_list.0

    abbrev vs : List ℕ
    vs = at_list.1

    abbrev e : ℕ
    e = ends + k

    here : RingOk s k (us ++ x ∷ vs)
    here = subst (RingOk s k) at_list.2 (whole.rings k few)

    pub class_is : s.list x ≡ Some k
    class_is = (agree_right s.list (λ i. Some k) us (x ∷ vs) here.class.1).0

    pub low : x < ends
    low = (elim (nat_lt x ends) as (λ t. nat_lt x ends ≡ t → x < ends) [
      | true ↦ λ t. ltb→lt x ends (subst Yes (sym t) tt)
      | false ↦ λ t. absurd (let same : x ≡ e = whole.classes x k class_is (nltb→le x ends (subst (λ b. Yes (not b)) (sym t) tt)) in
          let bad : true ≡ false = sym (eqb-self e) ∙ ap (λ z. eqb z e) (sym same) ∙ (not_in_right e us (x ∷ vs) here.apart.0).0 in cc)
    ]) refl

    reach : (q : ℕ) → s.list q ≡ Some k → (b : Link T) → b ≡ link_to s.at q → Reaches s b
    reach q is b eq = let place : b.place ≡ q = ap (λ (l : Link T). l.place) eq in
        record { leads = eq ∙ ap (link_to s.at) (sym place); there = ap (λ p. is_some (s.list p)) place ∙ ap is_some is }

    pub reaches : (link : Link T) → link ≡ link_to s.at x → Reaches s link
    reaches link eq = reach x class_is link eq

    pub can_unlink : (link : Link T) → link ≡ link_to s.at x → CanUnlink s link
    can_unlink link eq = let place : link.place ≡ x = ap (λ (l : Link T). l.place) eq in record {
      reaches = reach x class_is link eq;
      node = subst (λ p. p < ends) (sym place) low;
      before = λ b h. reach (last_or e us) (agree_last s.list (Some k) e us (here.class.0, agree_left s.list (λ i. Some k) us (x ∷ vs) here.class.1)) b (some_is b (link_to s.at (last_or e us)) (sym h ∙ ap s.prev place ∙ before s k us x vs here));
      after = λ b h. reach (head_or e vs) (agree_head s.list (Some k) e vs here.class.0 (agree_right s.list (λ i. Some k) us (x ∷ vs) here.class.1).1) b (some_is b (link_to s.at (head_or e vs)) (sym h ∙ ap s.next place ∙ after s k us x vs here));
      count = λ j h. let same : j ≡ k = some_is j k (sym h ∙ ap s.list place ∙ class_is) in (length (us ++ x ∷ vs), ap s.counts same ∙ here.count, omega (arith, length-append us (x ∷ vs)));
    }

    abbrev mid : Shape T
    mid = unlinked s x k

    mid_ringed : Ringed mid
    mid_ringed = ringed mid (λ l. without x (ring s l)) (unlinked_ok s whole.rings k x few class_is on)

    mid_ring : (l : ℕ) → l < 5 → ring mid l ≡ without x (ring s l)
    mid_ring l h = ring_is mid l (without x (ring s l)) (unlinked_ok s whole.rings k x few class_is on l h)

    mid_total : total mid.counts + 1 ≤ length s.table
    mid_total = let c : or_zero (s.counts k) ≡ length (us ++ x ∷ vs) = ap or_zero here.count in
        omega (arith, whole.few, total_upd s.counts k (or_zero (s.counts k) - 1) few, c, length-append us (x ∷ vs))

    module _ (to : ℕ) (room : to < 5) where
      mid_ok : RingOk mid to (ring mid to)
      mid_ok = mid_ringed to room

      free : mid.list x ≡ Some loose
      free = upd_same s.list x (Some loose)

      can_append : (link : Link T) → link ≡ link_to s.at x → length s.table < 2 ^ 63 → CanAppend mid link to
      can_append link eq short = let place : link.place ≡ x = ap (λ (l : Link T). l.place) eq in let n = length (ring mid to) in record {
        reaches = record { leads = eq ∙ ap (link_to s.at) (sym place); there = ap (λ p. is_some (mid.list p)) place ∙ ap is_some free };
        node = subst (λ p. p < ends) (sym place) low;
        few = room;
        last = λ b h. let q = last_or (ends + to) (ring mid to) in
            let is : b ≡ link_to s.at q = some_is b (link_to s.at q) (sym h ∙ last_is (linked_to mid) mid.next mid.prev (ends + to) (ring mid to) (ends + to) mid_ok.path) in
            let at_q : b.place ≡ q = ap (λ (l : Link T). l.place) is in
            record { leads = is ∙ ap (link_to s.at) (sym at_q); there = ap (λ p. is_some (mid.list p)) at_q ∙ ap is_some (agree_last mid.list (Some to) (ends + to) (ring mid to) mid_ok.class) };
        count = (n, mid_ok.count, omega (arith, mid_total, short, part mid.counts to n room mid_ok.count));
      }

      pub can_move : (link : Link T) → link ≡ link_to s.at x → length s.table < 2 ^ 63 → CanMove s link k to
      can_move link eq short = let place : link.place ≡ x = ap (λ (l : Link T). l.place) eq in record {
        within = ap s.list place ∙ class_is;
        leaves = can_unlink link eq;
        comes = subst (λ q. CanAppend (unlinked s q k) link to) (sym place) (can_append link eq short);
      }

      abbrev new : Shape T
      new = moved s x k to

      pub new_class : new.list x ≡ Some to
      new_class = upd_same mid.list x (Some to)

      pub new_reaches : (link : Link T) → link ≡ link_to s.at x → Reaches new link
      new_reaches link eq = let place : link.place ≡ x = ap (λ (l : Link T). l.place) eq in
          record { leads = eq ∙ ap (link_to s.at) (sym place); there = ap (λ p. is_some (new.list p)) place ∙ ap is_some new_class }

      new_ok : (l : ℕ) → l < 5 → RingOk new l (ring mid l ++ cond (eqb to l) (x ∷ []) [])
      new_ok = appended_ok mid mid_ringed to x room free

      pub new_ring : (l : ℕ) → l < 5 → ring new l ≡ without x (ring s l) ++ cond (eqb to l) (x ∷ []) []
      new_ring l h = ring_is new l (ring mid l ++ cond (eqb to l) (x ∷ []) []) (new_ok l h) ∙ ap (λ ps. ps ++ cond (eqb to l) (x ∷ []) []) (mid_ring l h)

      -- the node is in the list that it came to, and each other one where it was
      same_list : (p : ℕ) → eqb p x ≡ false → new.list p ≡ s.list p
      same_list p d = upd_other mid.list x (Some to) p d ∙ upd_other s.list x (Some loose) p d

      pub new_whole : (to < 4 → is_some (s.item x) ≡ true) → Whole new
      new_whole has = record {
        rings = ringed new (λ l. ring mid l ++ cond (eqb to l) (x ∷ []) []) new_ok;
        items = λ l p h lowp c. (elim (eqb p x) as (λ t. eqb p x ≡ t → is_some (s.item p) ≡ true) [
          | true ↦ λ t. let same : p ≡ x = eqb→eq p x (subst Yes (sym t) tt) in
              let to_l : l ≡ to = some_is l to (sym c ∙ ap new.list same ∙ new_class) in ap (λ q. is_some (s.item q)) same ∙ has (omega (arith, to_l, h))
          | false ↦ λ t. whole.items l p h lowp (sym (same_list p t) ∙ c)
        ]) refl;
        table = λ p lowp c. (elim (eqb p x) as (λ t. eqb p x ≡ t → slice_get s.table p ≡ Some (link_to s.at p)) [
          | true ↦ λ t. let same : p ≡ x = eqb→eq p x (subst Yes (sym t) tt) in whole.table p lowp (ap (λ q. is_some (s.list q)) same ∙ ap is_some class_is)
          | false ↦ λ t. whole.table p lowp (ap is_some (sym (same_list p t)) ∙ c)
        ]) refl;
        tied = whole.tied;
        few = omega (arith, mid_total, total_upd mid.counts to (or_zero (mid.counts to) + 1) room);
        classes = λ p j c high. (elim (eqb p x) as (λ t. eqb p x ≡ t → p ≡ ends + j) [
          | true ↦ λ t. let same : p ≡ x = eqb→eq p x (subst Yes (sym t) tt) in absurd (omega (arith, same, low, high))
          | false ↦ λ t. whole.classes p j (sym (same_list p t) ∙ c) high
        ]) refl;
      }

      -- the entries with any items at the numbers
      pub new_entries : (f : ℕ → Option T) (l : ℕ) → l < 5 → collect f (ring new l) ≡ others (place_at x) (collect f (ring s l)) ++ cond (eqb to l) (entry_at x (f x)) []
      new_entries f l h = ap (collect f) (new_ring l h) ∙ collect_app f (without x (ring s l)) (cond (eqb to l) (x ∷ []) [])
          ∙ (λ i. collect_without x f (ring s l) i ++ last_one (eqb to l) i)
        where
          last_one : (b : Bool) → collect f (cond b (x ∷ []) []) ≡ cond b (entry_at x (f x)) []
          last_one true = append-nil (entry_at x (f x))
          last_one false = refl
