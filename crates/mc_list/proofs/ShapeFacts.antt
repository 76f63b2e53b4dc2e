-- What a write to one field of a node, or to the ends, makes of the shape.
use Rattle.std.proofs.Common.{◌≡◌, ℕ, zero, suc, ◌-◌, ◌<◌, ◌≤◌, true, false, eqb, T as Yes, cond, List, [], ◌∷◌, map, length, Option, Some, None, refl, sym, ap, ◌∙◌, subst, arith, eqb→eq, ltb→lt, length-set, get_or-set_same, slice_get, slice_set, is_some}
use Rattle.std.specs.Prelude.{nat_lt}
use Rattle.std.proofs.lemmas.Option.{slice_get-get_or}
use denote.RawPtr.{Ptr}
use Rattle.mc_list.specs.Cells.{IsAt, ptr_at, value_at, with_cell}
use Rattle.mc_list.specs.Rings.{upd}
use Rattle.mc_list.specs.Web.{Reaches, shape_of, ends, or_none, set_next, set_prev, set_list, set_item, set_count}
use Rattle.mc_list.specs.declared.node.Link.{Link}
use Rattle.mc_list.specs.declared.node.Node.{Node}
use Rattle.mc_list.specs.declared.web.Web.{Web}
use Rattle.mc_list.specs.Lends.{with_node}
use Rattle.mc_list.proofs.RingFacts.{eqb-symm}

pub apart_suc : (j : ℕ) → eqb (suc j) 0 ≡ false
apart_suc j = grind arith

pub eqb_suc : (j i : ℕ) → eqb (suc j) (suc i) ≡ eqb j i
eqb_suc j i = grind arith

elsewhere : {X : Type 0} (xs : List X) (k : ℕ) (v : X) (j : ℕ) → eqb j k ≡ false → slice_get (slice_set xs k v) j ≡ slice_get xs j
elsewhere [] k v j t = refl
elsewhere (x ∷ xs) zero v zero t = absurd (cc)
elsewhere (x ∷ xs) zero v (suc j) t = refl
elsewhere (x ∷ xs) (suc k) v zero t = refl
elsewhere (x ∷ xs) (suc k) v (suc j) t = elsewhere xs k v j (sym (eqb_suc j k) ∙ t)

get_set : {X : Type 0} (xs : List X) (k : ℕ) (v : X) → k < length xs → (j : ℕ) → slice_get (slice_set xs k v) j ≡ cond (eqb j k) (Some v) (slice_get xs j)
get_set xs k v within j = (elim (eqb j k) as (λ t. eqb j k ≡ t → slice_get (slice_set xs k v) j ≡ cond t (Some v) (slice_get xs j)) [
  | true ↦ λ t. ap (slice_get (slice_set xs k v)) (eqb→eq j k (subst Yes (sym t) tt)) ∙ slice_get-get_or (slice_set xs k v) k v (omega (arith, length-set xs k v)) ∙ ap Some (get_or-set_same xs k v v within)
  | false ↦ λ t. elsewhere xs k v j t
]) refl

module _ {X : Type 0} where
  -- the node of this number is another
  pub value_set : (cs : List (Ptr × X)) (i : ℕ) (n m : X) → value_at cs i ≡ Some n → (j : ℕ) → value_at (with_cell cs i m) j ≡ cond (eqb j i) (Some m) (value_at cs j)
  value_set [] i n m e j = absurd (let bad : false ≡ true = ap is_some e in cc)
  value_set (c ∷ cs) zero n m e zero = refl
  value_set (c ∷ cs) zero n m e (suc j) = rw (apart_suc j) refl
  value_set (c ∷ cs) (suc i) n m e zero = rw (eqb-symm 0 (suc i) ∙ apart_suc i) refl
  value_set (c ∷ cs) (suc i) n m e (suc j) = value_set cs i n m e j ∙ ap (λ t. cond t (Some m) (value_at cs j)) (sym (eqb_suc j i))

  pointers_set : (cs : List (Ptr × X)) (i : ℕ) (m : X) → map (λ (c : Ptr × X). c.0) (with_cell cs i m) ≡ map (λ (c : Ptr × X). c.0) cs
  pointers_set [] i m = refl
  pointers_set (c ∷ cs) zero m = refl
  pointers_set (c ∷ cs) (suc i) m = ap (λ ps. c.0 ∷ ps) (pointers_set cs i m)

  pub ptr_set : (cs : List (Ptr × X)) (i : ℕ) (m : X) (j : ℕ) → ptr_at (with_cell cs i m) j ≡ ptr_at cs j
  ptr_set [] i m j = refl
  ptr_set (c ∷ cs) zero m zero = refl
  ptr_set (c ∷ cs) zero m (suc j) = refl
  ptr_set (c ∷ cs) (suc i) m zero = refl
  ptr_set (c ∷ cs) (suc i) m (suc j) = ptr_set cs i m j

  pub lies : (cs : List (Ptr × X)) (i : ℕ) → is_some (value_at cs i) ≡ true → IsAt cs i (ptr_at cs i)
  lies [] i e = absurd (cc)
  lies (c ∷ cs) zero e = refl
  lies (c ∷ cs) (suc i) e = lies cs i e

  module _ {B : Type 0} (f : X → Option B) (cs : List (Ptr × X)) (i : ℕ) (n m : X) (e : value_at cs i ≡ Some n) where
    -- a field that is the same
    pub field_same : f m ≡ f n → (j : ℕ) → or_none f (value_at (with_cell cs i m) j) ≡ or_none f (value_at cs j)
    field_same same j = ap (or_none f) (value_set cs i n m e j) ∙ (elim (eqb j i) as (λ t. eqb j i ≡ t → or_none f (cond t (Some m) (value_at cs j)) ≡ or_none f (value_at cs j)) [
      | true ↦ λ t. same ∙ sym (ap (or_none f) (ap (value_at cs) (eqb→eq j i (subst Yes (sym t) tt)) ∙ e))
      | false ↦ λ t. refl
    ]) refl

    -- a field that is written
    pub field_set : (v : Option B) → f m ≡ v → nat_lt i ends ≡ true → (g : ℕ → Option B) (j : ℕ)
        → cond (nat_lt j ends) (or_none f (value_at (with_cell cs i m) j)) (g j) ≡ upd (λ k. cond (nat_lt k ends) (or_none f (value_at cs k)) (g k)) i v j
    field_set v is low g j = ap (λ o. cond (nat_lt j ends) (or_none f o) (g j)) (value_set cs i n m e j) ∙ (elim (eqb j i) as (λ t. eqb j i ≡ t
        → cond (nat_lt j ends) (or_none f (cond t (Some m) (value_at cs j))) (g j) ≡ cond t v (cond (nat_lt j ends) (or_none f (value_at cs j)) (g j))) [
          | true ↦ λ t. let same : j ≡ i = eqb→eq j i (subst Yes (sym t) tt) in ap (λ b. cond b (f m) (g j)) (ap (λ k. nat_lt k ends) same ∙ low) ∙ is
          | false ↦ λ t. refl
        ]) refl

pub below : (k n x : ℕ) → is_some (cond (nat_lt k n) (Some x) None) ≡ true → k < n
below k n x h = (elim (nat_lt k n) as (λ t. nat_lt k n ≡ t → is_some (cond t (Some x) None) ≡ true → k < n) [
  | true ↦ λ t s. ltb→lt k n (subst Yes (sym t) tt)
  | false ↦ λ t s. absurd (cc)
]) refl h

module _ {T : Type 0} (w : Web T) where
  some_field : {A B : Type 0} (f : A → B) (o : Option A) → is_some (or_none (λ a. Some (f a)) o) ≡ true → is_some o ≡ true
  some_field f None e = e
  some_field f (Some a) e = refl

  -- the link to a node leads to where it lies
  pub reached : (link : Link T) → Reaches (shape_of w) link → link.place < ends → IsAt w.cells.cells link.place link.at
  reached link r low =
      let is : nat_lt link.place ends ≡ true = grind arith in
      let there : is_some (value_at w.cells.cells link.place) ≡ true = some_field (λ (n : Node T). n.list) (value_at w.cells.cells link.place) (rw is at r.there) in
      let leads : link.at ≡ ptr_at w.cells.cells link.place = ap (λ (l : Link T). l.at) r.leads ∙ rw is refl in
      subst (IsAt w.cells.cells link.place) (sym leads) (lies w.cells.cells link.place there)

  module _ (i : ℕ) (n : Node T) (e : Some n ≡ value_at w.cells.cells i) (low : i < ends) where
    is_low : nat_lt i ends ≡ true
    is_low = grind arith

    abbrev cs : List (Ptr × Node T)
    cs = w.cells.cells

    abbrev with_this : Node T → Web T
    with_this m = record w { cells = with_node w.cells i m }

    stays : {B : Type 0} (f : Node T → Option B) (m : Node T) → f m ≡ f n → (g : ℕ → Option B) (j : ℕ)
        → cond (nat_lt j ends) (or_none f (value_at (with_cell cs i m) j)) (g j) ≡ cond (nat_lt j ends) (or_none f (value_at cs j)) (g j)
    stays f m same g j = ap (λ o. cond (nat_lt j ends) o (g j)) (field_same f cs i n m (sym e) same j)

    pub wrote_next : (to : Link T) → shape_of (with_this (record n { next = to })) ≡ set_next (shape_of w) i to
    wrote_next to = let m : Node T = record n { next = to } in λ k. record {
      pointers = pointers_set cs i m k;
      at = λ j. ptr_set cs i m j k;
      table = w.table.items;
      next = λ j. field_set (λ (n : Node T). Some n.next) cs i n m (sym e) (Some to) refl is_low (λ j. slice_get w.firsts (j - ends)) j k;
      prev = λ j. stays (λ (n : Node T). Some n.prev) m refl (λ j. slice_get w.lasts (j - ends)) j k;
      list = λ j. stays (λ (n : Node T). Some n.list) m refl (λ j. cond (nat_lt (j - ends) 5) (Some (j - ends)) None) j k;
      item = λ j. stays (λ (n : Node T). n.item) m refl (λ j. None) j k;
      counts = slice_get w.counts;
    }

    pub wrote_prev : (to : Link T) → shape_of (with_this (record n { prev = to })) ≡ set_prev (shape_of w) i to
    wrote_prev to = let m : Node T = record n { prev = to } in λ k. record {
      pointers = pointers_set cs i m k;
      at = λ j. ptr_set cs i m j k;
      table = w.table.items;
      next = λ j. stays (λ (n : Node T). Some n.next) m refl (λ j. slice_get w.firsts (j - ends)) j k;
      prev = λ j. field_set (λ (n : Node T). Some n.prev) cs i n m (sym e) (Some to) refl is_low (λ j. slice_get w.lasts (j - ends)) j k;
      list = λ j. stays (λ (n : Node T). Some n.list) m refl (λ j. cond (nat_lt (j - ends) 5) (Some (j - ends)) None) j k;
      item = λ j. stays (λ (n : Node T). n.item) m refl (λ j. None) j k;
      counts = slice_get w.counts;
    }

    pub wrote_list : (l : ℕ) → shape_of (with_this (record n { list = l })) ≡ set_list (shape_of w) i l
    wrote_list l = let m : Node T = record n { list = l } in λ k. record {
      pointers = pointers_set cs i m k;
      at = λ j. ptr_set cs i m j k;
      table = w.table.items;
      next = λ j. stays (λ (n : Node T). Some n.next) m refl (λ j. slice_get w.firsts (j - ends)) j k;
      prev = λ j. stays (λ (n : Node T). Some n.prev) m refl (λ j. slice_get w.lasts (j - ends)) j k;
      list = λ j. field_set (λ (n : Node T). Some n.list) cs i n m (sym e) (Some l) refl is_low (λ j. cond (nat_lt (j - ends) 5) (Some (j - ends)) None) j k;
      item = λ j. stays (λ (n : Node T). n.item) m refl (λ j. None) j k;
      counts = slice_get w.counts;
    }

    pub wrote_item : (o : Option T) → shape_of (with_this (record n { item = o })) ≡ set_item (shape_of w) i o
    wrote_item o = let m : Node T = record n { item = o } in λ k. record {
      pointers = pointers_set cs i m k;
      at = λ j. ptr_set cs i m j k;
      table = w.table.items;
      next = λ j. stays (λ (n : Node T). Some n.next) m refl (λ j. slice_get w.firsts (j - ends)) j k;
      prev = λ j. stays (λ (n : Node T). Some n.prev) m refl (λ j. slice_get w.lasts (j - ends)) j k;
      list = λ j. stays (λ (n : Node T). Some n.list) m refl (λ j. cond (nat_lt (j - ends) 5) (Some (j - ends)) None) j k;
      item = λ j. field_set (λ (n : Node T). n.item) cs i n m (sym e) o refl is_low (λ j. None) j k;
      counts = slice_get w.counts;
    }

    -- what the node holds
    pub held : (shape_of w).item i ≡ n.item
    held = rw is_low (ap (or_none (λ (n : Node T). n.item)) (sym e))

  module _ (i : ℕ) (high : ends ≤ i) (there : is_some ((shape_of w).list i) ≡ true) where
    not_low : nat_lt i ends ≡ false
    not_low = grind arith

    pub few : i - ends < 5
    few =
        let list_is : cond (nat_lt (i - ends) 5) (Some (i - ends)) None ≡ (shape_of w).list i = sym (rw not_low refl) in
        let some : is_some (cond (nat_lt (i - ends) 5) (Some (i - ends)) None) ≡ true = ap is_some list_is ∙ there in
        below (i - ends) 5 (i - ends) some

    -- a number from the ends on is the same where its list is
    same_end : (j : ℕ) → nat_lt j ends ≡ false → eqb (j - ends) (i - ends) ≡ eqb j i
    same_end j h = grind arith

    end_set : {B : Type 0} (f : Node T → Option B) (xs : List B) (v : B) → i - ends < length xs → (j : ℕ)
        → cond (nat_lt j ends) (or_none f (value_at w.cells.cells j)) (slice_get (slice_set xs (i - ends) v) (j - ends)) ≡ upd (λ k. cond (nat_lt k ends) (or_none f (value_at w.cells.cells k)) (slice_get xs (k - ends))) i (Some v) j
    end_set f xs v within j = (elim (nat_lt j ends) as (λ t. nat_lt j ends ≡ t
        → cond t (or_none f (value_at w.cells.cells j)) (slice_get (slice_set xs (i - ends) v) (j - ends)) ≡ cond (eqb j i) (Some v) (cond t (or_none f (value_at w.cells.cells j)) (slice_get xs (j - ends)))) [
          | true ↦ λ t. let apart : eqb j i ≡ false = grind arith in ap (λ y. cond y (Some v) (or_none f (value_at w.cells.cells j))) (sym apart)
          | false ↦ λ t. get_set xs (i - ends) v within (j - ends) ∙ ap (λ y. cond y (Some v) (slice_get xs (j - ends))) (same_end j t)
        ]) refl

    pub wrote_first : (to : Link T) → i - ends < length w.firsts → shape_of (record w { firsts = slice_set w.firsts (i - ends) to }) ≡ set_next (shape_of w) i to
    wrote_first to within = let s = shape_of w in λ k. record { pointers = s.pointers; at = s.at; table = s.table; next = λ j. end_set (λ (n : Node T). Some n.next) w.firsts to within j k; prev = s.prev; list = s.list; item = s.item; counts = s.counts }

    pub wrote_last : (to : Link T) → i - ends < length w.lasts → shape_of (record w { lasts = slice_set w.lasts (i - ends) to }) ≡ set_prev (shape_of w) i to
    wrote_last to within = let s = shape_of w in λ k. record { pointers = s.pointers; at = s.at; table = s.table; next = s.next; prev = λ j. end_set (λ (n : Node T). Some n.prev) w.lasts to within j k; list = s.list; item = s.item; counts = s.counts }

  pub wrote_count : (l n : ℕ) → l < length w.counts → shape_of (record w { counts = slice_set w.counts l n }) ≡ set_count (shape_of w) l n
  wrote_count l n within = let s = shape_of w in λ k. record { pointers = s.pointers; at = s.at; table = s.table; next = s.next; prev = s.prev; list = s.list; item = s.item; counts = λ j. get_set w.counts l n within j k }
