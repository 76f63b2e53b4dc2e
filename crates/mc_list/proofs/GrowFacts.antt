-- A node more at the end of the nodes: the rings stay, and it comes to the spare ones.
use Rattle.std.proofs.Common.{◌≡◌, ℕ, zero, suc, ◌+◌, ◌-◌, ◌<◌, ◌≤◌, ◌^◌, true, false, eqb, T as Yes, cond, List, [], ◌∷◌, ◌++◌, length, map, Option, Some, None, refl, sym, ap, ◌∙◌, subst, arith, eqb→eq, is_some, slice_get, length-append, append-nil}
use Rattle.std.proofs.lemmas.List.{length-map, map-append}
use Rattle.std.specs.Prelude.{nat_lt, max, Result, Ok, Err, OnErr}
use denote.RawPtr.{Ptr, null_ptr}
use Rattle.mc_list.specs.Cells.{ptr_at, value_at}
use Rattle.mc_list.specs.Rings.{upd, NotIn, Agree, last_or, Path}
use Rattle.mc_list.specs.Web.{Shape, shape_of, ends, loose, spare_list, link_to, or_none}
use Rattle.mc_list.specs.Ringed.{RingOk, Ringed, CanAppend, ring, or_zero, linked_to, appended, grown}
use Rattle.mc_list.specs.Whole.{Whole, collect, entries_in, spare_in}
use Rattle.mc_list.specs.declared.node.Link.{Link}
use Rattle.mc_list.specs.declared.node.Node.{Node}
use Rattle.mc_list.specs.declared.web.Web.{Web}
use Rattle.mc_list.proofs.RingFacts.{upd_same, upd_other, upd_agrees, agree_then, not_in_app, last_is}
use Rattle.mc_list.proofs.WebFacts.{some_is, agree_last, appended_ok, ring_is, ringed}
use Rattle.mc_list.proofs.ShapeFacts.{apart_suc, eqb_suc}
use Rattle.mc_list.proofs.EntryFacts.{collect_upd}
use Rattle.mc_list.proofs.FitsFacts.{total_upd, part}

module _ {X : Type 0} where
  value_push : (cs : List (Ptr × X)) (p : Ptr) (x : X) (j : ℕ) → value_at (cs ++ (p, x) ∷ []) j ≡ upd (value_at cs) (length cs) (Some x) j
  value_push [] p x zero = refl
  value_push [] p x (suc j) = rw (apart_suc j) refl
  value_push (c ∷ cs) p x zero = rw (zero_apart (length cs)) refl
    where
      zero_apart : (n : ℕ) → eqb 0 (suc n) ≡ false
      zero_apart n = grind arith
  value_push (c ∷ cs) p x (suc j) = value_push cs p x j ∙ ap (λ t. cond t (Some x) (value_at cs j)) (sym (eqb_suc j (length cs)))

  ptr_push : (cs : List (Ptr × X)) (p : Ptr) (x : X) (j : ℕ) → ptr_at (cs ++ (p, x) ∷ []) j ≡ upd (ptr_at cs) (length cs) p j
  ptr_push [] p x zero = refl
  ptr_push [] p x (suc j) = rw (apart_suc j) refl
  ptr_push (c ∷ cs) p x zero = rw (zero_apart (length cs)) refl
    where
      zero_apart : (n : ℕ) → eqb 0 (suc n) ≡ false
      zero_apart n = grind arith
  ptr_push (c ∷ cs) p x (suc j) = ptr_push cs p x j ∙ ap (λ t. cond t p (ptr_at cs j)) (sym (eqb_suc j (length cs)))

  none_past : (cs : List (Ptr × X)) (j : ℕ) → length cs ≤ j → value_at cs j ≡ None
  none_past [] j h = refl
  none_past (c ∷ cs) zero h = absurd (omega (arith, h))
  none_past (c ∷ cs) (suc j) h = none_past cs j (omega (arith, h))

  -- a field of the nodes, once there is one more
  field_push : {B : Type 0} (f : X → Option B) (cs : List (Ptr × X)) (p : Ptr) (x : X) (v : Option B) → f x ≡ v → length cs < ends → (g : ℕ → Option B) (j : ℕ)
      → cond (nat_lt j ends) (or_none f (value_at (cs ++ (p, x) ∷ []) j)) (g j) ≡ upd (λ k. cond (nat_lt k ends) (or_none f (value_at cs k)) (g k)) (length cs) v j
  field_push f cs p x v is short g j = ap (λ o. cond (nat_lt j ends) (or_none f o) (g j)) (value_push cs p x j) ∙ (elim (eqb j (length cs)) as (λ t. eqb j (length cs) ≡ t
      → cond (nat_lt j ends) (or_none f (cond t (Some x) (value_at cs j))) (g j) ≡ cond t v (cond (nat_lt j ends) (or_none f (value_at cs j)) (g j))) [
        | true ↦ λ t. let same : j ≡ length cs = eqb→eq j (length cs) (subst Yes (sym t) tt) in let low : nat_lt (length cs) ends ≡ true = grind (arith, short) in
            ap (λ b. cond b (f x) (g j)) (ap (λ k. nat_lt k ends) same ∙ low) ∙ is
        | false ↦ λ t. refl
      ]) refl

slice_get_left : {A : Type 0} (xs ys : List A) (i : ℕ) (v : A) → slice_get xs i ≡ Some v → slice_get (xs ++ ys) i ≡ Some v
slice_get_left [] ys i v e = absurd (let bad : false ≡ true = ap is_some e in cc)
slice_get_left (x ∷ xs) ys zero v e = e
slice_get_left (x ∷ xs) ys (suc i) v e = slice_get_left xs ys i v e

slice_get_end : {A : Type 0} (xs : List A) (v : A) → slice_get (xs ++ v ∷ []) (length xs) ≡ Some v
slice_get_end [] v = refl
slice_get_end (x ∷ xs) v = slice_get_end xs v

none_in : (f : ℕ → Option ℕ) (l x : ℕ) (xs : List ℕ) → f x ≡ None → Agree f (λ i. Some l) xs → NotIn x xs
none_in f l x [] e c = tt
none_in f l x (y ∷ ys) e c = (
  (elim (eqb y x) as (λ t. eqb y x ≡ t → eqb y x ≡ false) [
    | true ↦ λ t. let same : y ≡ x = eqb→eq y x (subst Yes (sym t) tt) in
        let bad : false ≡ true = ap is_some (sym e ∙ ap f (sym same) ∙ c.0) in absurd (cc)
    | false ↦ λ t. t
  ]) refl,
  none_in f l x ys e c.1,
)

pub on_err_always : {A E P : Type 0} (r : Result A E) → P → OnErr r P
on_err_always (Ok x) p = tt
on_err_always (Err e) p = p

module _ {T : Type 0} where
  abbrev pub link_at : Ptr → ℕ → Link T
  link_at p i = record { at = p; place = i }

  -- what the table and the nodes become where one more comes
  pub pushed : (w v : Web T) (p : Ptr) (n : Node T) → Whole (shape_of w) → length w.table.items < ends
      → v.cells.cells ≡ w.cells.cells ++ (p, n) ∷ [] → v.table.items ≡ w.table.items ++ link_at p (length w.table.items) ∷ []
      → v.firsts ≡ w.firsts → v.lasts ≡ w.lasts → v.counts ≡ w.counts
      → n.next ≡ link_to (shape_of w).at (ends + spare_list) → n.prev ≡ link_to (shape_of w).at (ends + spare_list) → n.list ≡ loose → n.item ≡ None
      → shape_of v ≡ grown (shape_of w) p
  pushed w v p n whole short cells table firsts lasts counts next prev list item =
      let cs = w.cells.cells in let m = length w.table.items in
      let many : length cs ≡ m = sym (length-map cs (λ (c : Ptr × Node T). c.0)) ∙ ap length (sym whole.tied) ∙ length-map w.table.items (λ (l : Link T). l.at) in
      let low : length cs < ends = omega (arith, many, short) in
      let ds = cs ++ (p, n) ∷ [] in
      let to_m : (A : Type 0) (f : ℕ → A) (x : A) (j : ℕ) → upd f (length cs) x j ≡ upd f m x j = λ A f x j. ap (λ k. upd f k x j) many in
      λ i. record {
        pointers = (ap (map (λ (c : Ptr × Node T). c.0)) cells ∙ map-append (λ (c : Ptr × Node T). c.0) cs ((p, n) ∷ [])) i;
        at = λ j. (ap (λ es. ptr_at es j) cells ∙ ptr_push cs p n j ∙ to_m Ptr (ptr_at cs) p j) i;
        table = table i;
        next = λ j. ((λ k. cond (nat_lt j ends) (or_none (λ (n : Node T). Some n.next) (value_at (cells k) j)) (slice_get (firsts k) (j - ends)))
            ∙ field_push (λ (n : Node T). Some n.next) cs p n (linked_to (shape_of w) (ends + spare_list)) (ap Some next) low (λ k. slice_get w.firsts (k - ends)) j
            ∙ to_m (Option (Link T)) (shape_of w).next (linked_to (shape_of w) (ends + spare_list)) j) i;
        prev = λ j. ((λ k. cond (nat_lt j ends) (or_none (λ (n : Node T). Some n.prev) (value_at (cells k) j)) (slice_get (lasts k) (j - ends)))
            ∙ field_push (λ (n : Node T). Some n.prev) cs p n (linked_to (shape_of w) (ends + spare_list)) (ap Some prev) low (λ k. slice_get w.lasts (k - ends)) j
            ∙ to_m (Option (Link T)) (shape_of w).prev (linked_to (shape_of w) (ends + spare_list)) j) i;
        list = λ j. ((λ k. cond (nat_lt j ends) (or_none (λ (n : Node T). Some n.list) (value_at (cells k) j)) (cond (nat_lt (j - ends) 5) (Some (j - ends)) None))
            ∙ field_push (λ (n : Node T). Some n.list) cs p n (Some loose) (ap Some list) low (λ k. cond (nat_lt (k - ends) 5) (Some (k - ends)) None) j
            ∙ to_m (Option ℕ) (shape_of w).list (Some loose) j) i;
        item = λ j. ((λ k. cond (nat_lt j ends) (or_none (λ (n : Node T). n.item) (value_at (cells k) j)) None)
            ∙ field_push (λ (n : Node T). n.item) cs p n None item low (λ k. None) j
            ∙ to_m (Option T) (shape_of w).item None j) i;
        counts = λ l. slice_get (counts i) l;
      }

  -- there is no node of the next number yet
  pub no_node : (w : Web T) → Whole (shape_of w) → length w.table.items < ends → (shape_of w).list (length w.table.items) ≡ None
  no_node w whole short =
      let cs = w.cells.cells in let m = length w.table.items in
      let many : length cs ≡ m = sym (length-map cs (λ (c : Ptr × Node T). c.0)) ∙ ap length (sym whole.tied) ∙ length-map w.table.items (λ (l : Link T). l.at) in
      let low : nat_lt m ends ≡ true = grind (arith, short) in
      rw low (ap (or_none (λ (n : Node T). Some n.list)) (none_past cs m (omega (arith, many))))

  relinked : (link link' n p n' p' : ℕ → Option (Link T)) (a : ℕ) (xs : List ℕ) (b : ℕ) → Path link n p a xs b
      → Agree link' link (a ∷ xs ++ b ∷ []) → Agree n' n (a ∷ xs) → Agree p' p (xs ++ b ∷ []) → Path link' n' p' a xs b
  relinked link link' n p n' p' a [] b h l u v = (u.0 ∙ h.0 ∙ sym l.1.0, v.0 ∙ h.1 ∙ sym l.0)
  relinked link link' n p n' p' a (x ∷ xs) b h l u v = ((u.0 ∙ h.0.0 ∙ sym l.1.0, v.0 ∙ h.0.1 ∙ sym l.0), relinked link link' n p n' p' x xs b h.1 l.1 u.1 v.1)

  module _ (s : Shape T) (whole : Whole s) (p : Ptr) (short : length s.table < 2 ^ 63) (fresh : s.list (length s.table) ≡ None) where
    abbrev m : ℕ
    m = length s.table

    abbrev mid : Shape T
    mid = grown s p

    link_same : (xs : List ℕ) → NotIn m xs → Agree (linked_to mid) (linked_to s) xs
    link_same [] d = tt
    link_same (x ∷ xs) d = (ap (λ q. Some (link_at (cond (nat_lt x ends) q null_ptr) x)) (upd_other s.at m p x d.0), link_same xs d.1)

    not_ring : (l : ℕ) → l < 5 → NotIn m ((ends + l) ∷ ring s l)
    not_ring l h = none_in s.list l m ((ends + l) ∷ ring s l) fresh (whole.rings l h).class

    mid_ok : (l : ℕ) → l < 5 → RingOk mid l (ring s l)
    mid_ok l h =
        let r = whole.rings l h in let d = not_ring l h in let e = ends + l in let ps = ring s l in
        record {
          path = relinked (linked_to s) (linked_to mid) s.next s.prev mid.next mid.prev e ps e r.path
              (link_same (e ∷ ps ++ e ∷ []) (d.0, not_in_app m ps (e ∷ []) d.1 (d.0, tt)))
              (upd_agrees s.next m (linked_to s (ends + spare_list)) (e ∷ ps) d)
              (upd_agrees s.prev m (linked_to s (ends + spare_list)) (ps ++ e ∷ []) (not_in_app m ps (e ∷ []) d.1 (d.0, tt)));
          apart = r.apart;
          class = agree_then mid.list s.list (λ i. Some l) (e ∷ ps) (upd_agrees s.list m (Some loose) (e ∷ ps) d) r.class;
          count = r.count;
        }

    mid_ringed : Ringed mid
    mid_ringed = ringed mid (ring s) mid_ok

    mid_ring : (l : ℕ) → l < 5 → ring mid l ≡ ring s l
    mid_ring l h = ring_is mid l (ring s l) (mid_ok l h)

    free : mid.list m ≡ Some loose
    free = upd_same s.list m (Some loose)

    pub may_append : (link : Link T) → link.place ≡ m → link.at ≡ p → CanAppend mid link spare_list
    may_append link place at =
        let low : nat_lt m ends ≡ true = grind (arith, short) in
        let there : link_to mid.at m ≡ link_at p m = rw low (ap (λ q. link_at q m) (upd_same s.at m p)) in
        let leads : link ≡ link_to mid.at m = (λ i. link_at (at i) (place i)) ∙ sym there in
        let e = ends + spare_list in let ps = ring mid spare_list in let ok = mid_ringed spare_list (omega arith) in
        record {
          reaches = record { leads = leads ∙ ap (link_to mid.at) (sym place); there = ap (λ q. is_some (mid.list q)) place ∙ ap is_some free };
          node = omega (arith, place, short);
          few = omega arith;
          last = λ b h. let q = last_or e ps in
              let is : b ≡ link_to mid.at q = some_is b (link_to mid.at q) (sym h ∙ last_is (linked_to mid) mid.next mid.prev e ps e ok.path) in
              let at_q : b.place ≡ q = ap (λ (l : Link T). l.place) is in
              record { leads = is ∙ ap (link_to mid.at) (sym at_q); there = ap (λ r. is_some (mid.list r)) at_q ∙ ap is_some (agree_last mid.list (Some spare_list) e ps ok.class) };
          count = (length ps, ok.count, omega (arith, whole.few, short, part mid.counts spare_list (length ps) (omega arith) ok.count));
        }

    abbrev pub more : Shape T
    more = appended mid m spare_list

    more_ok : (l : ℕ) → l < 5 → RingOk more l (ring mid l ++ cond (eqb spare_list l) (m ∷ []) [])
    more_ok = appended_ok mid mid_ringed spare_list m (omega arith) free

    is_m : more.list m ≡ Some spare_list
    is_m = upd_same mid.list m (Some spare_list)

    same_list : (q : ℕ) → eqb q m ≡ false → more.list q ≡ s.list q
    same_list q d = upd_other mid.list m (Some spare_list) q d ∙ upd_other s.list m (Some loose) q d

    at_m : slice_get mid.table m ≡ Some (link_to mid.at m)
    at_m = let low : nat_lt m ends ≡ true = grind (arith, short) in
        let there : link_to mid.at m ≡ link_at p m = rw low (ap (λ q. link_at q m) (upd_same s.at m p)) in
        slice_get_end s.table (link_at p m) ∙ ap Some (sym there)

    pub more_whole : Whole more
    more_whole = record {
      rings = ringed more (λ l. ring mid l ++ cond (eqb spare_list l) (m ∷ []) []) more_ok;
      items = λ l q h low c. (elim (eqb q m) as (λ t. eqb q m ≡ t → is_some (mid.item q) ≡ true) [
        | true ↦ λ t. let same : q ≡ m = eqb→eq q m (subst Yes (sym t) tt) in
            let l4 : l ≡ spare_list = some_is l spare_list (sym c ∙ ap more.list same ∙ is_m) in absurd (omega (arith, l4, h))
        | false ↦ λ t. ap is_some (upd_other s.item m None q t) ∙ whole.items l q h low (sym (same_list q t) ∙ c)
      ]) refl;
      table = λ q low c. (elim (eqb q m) as (λ t. eqb q m ≡ t → slice_get mid.table q ≡ Some (link_to mid.at q)) [
        | true ↦ λ t. let same : q ≡ m = eqb→eq q m (subst Yes (sym t) tt) in subst (λ r. slice_get mid.table r ≡ Some (link_to mid.at r)) (sym same) at_m
        | false ↦ λ t. slice_get_left s.table (link_at p m ∷ []) q (link_to s.at q) (whole.table q low (ap is_some (sym (same_list q t)) ∙ c)) ∙ sym (link_same (q ∷ []) (t, tt)).0
      ]) refl;
      tied = map-append (λ (l : Link T). l.at) s.table (link_at p m ∷ []) ∙ ap (λ ps. ps ++ p ∷ []) whole.tied;
      few = omega (arith, whole.few, total_upd s.counts spare_list (or_zero (s.counts spare_list) + 1) (omega arith), length-append s.table (link_at p m ∷ []));
      classes = λ q j c high. (elim (eqb q m) as (λ t. eqb q m ≡ t → q ≡ ends + j) [
        | true ↦ λ t. let same : q ≡ m = eqb→eq q m (subst Yes (sym t) tt) in absurd (omega (arith, same, short, high))
        | false ↦ λ t. whole.classes q j (sym (same_list q t) ∙ c) high
      ]) refl;
    }

    pub more_entries : (l : ℕ) → l < 4 → entries_in more l ≡ entries_in s l
    more_entries l h =
        let five : l < 5 = omega (arith, h) in let off : eqb spare_list l ≡ false = grind (arith, h) in
        let is : ring more l ≡ ring s l = ring_is more l (ring mid l ++ cond (eqb spare_list l) (m ∷ []) []) (more_ok l five)
        ∙ ap (λ b. ring mid l ++ cond b (m ∷ []) []) off ∙ append-nil (ring mid l) ∙ mid_ring l five in
        ap (collect mid.item) is ∙ collect_upd s.item m None (ring s l) (not_ring l five).1

    pub more_spare : spare_in more ≡ spare_in s + 1
    more_spare = refl

-- what a loop that adds spare nodes has made so far
pub record IsGrowing {T : Type 0} (old now : Shape T) (count : ℕ) : Type 0 where
  pub whole : Whole now
  pub entries : (l : ℕ) → l < 4 → entries_in now l ≡ entries_in old l
  pub kept : spare_in old ≤ spare_in now
  pub within : spare_in now ≤ max count (spare_in old)
