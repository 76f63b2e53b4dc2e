-- The last spare node gets an item and comes to a list.
use Rattle.std.proofs.Common.{◌≡◌, ℕ, ◌+◌, ◌-◌, ◌<◌, ◌^◌, true, false, eqb, cond, List, [], ◌∷◌, ◌++◌, length, Some, sym, ap, ◌∙◌, subst, arith, is_some}
use Rattle.mc_list.specs.Rings.{upd, NotIn, last_or}
use Rattle.mc_list.specs.Web.{Shape, Reaches, ends, spare_list, link_to, set_item}
use Rattle.mc_list.specs.Ringed.{CanMove, ring, or_zero, linked_to, moved}
use Rattle.mc_list.specs.Entries.{entry, others, has_place}
use Rattle.mc_list.specs.Whole.{Whole, place_at, entry_at, collect, entries_in, spare_in}
use Rattle.mc_list.specs.declared.node.Link.{Link}
use Rattle.mc_list.proofs.RingFacts.{eqb-self, eqb-symm, upd_same, upd_other, last_is, without_none}
use Rattle.mc_list.proofs.WebFacts.{some_is, apart_by}
use Rattle.mc_list.proofs.EntryFacts.{collect_upd, collect_without, has_none}
use Rattle.mc_list.proofs.AllFacts.{all_ring, all_in, all_collect, not_within}
use Rattle.mc_list.proofs.FitsFacts.{item_whole, class_is, low, reaches, can_move, new_whole, new_entries}
use Rattle.mc_list.proofs.UsedFacts.{apart, shown, shown_four, shown_none, each}

-- the last of some numbers is one of them
last_on : (q : ℕ) (qs : List ℕ) → NotIn (last_or q qs) (q ∷ qs) → ⊥
last_on q [] d = let bad : true ≡ false = sym (eqb-self q) ∙ d.0 in absurd (cc)
last_on q (r ∷ rs) d = last_on r rs d.1

module _ {T : Type 0} (s : Shape T) (whole : Whole s) (room : 0 < spare_in s) (link : Link T) (is : s.prev (ends + spare_list) ≡ Some link) where
  leads : link ≡ link_to s.at (last_or (ends + spare_list) (ring s spare_list))
  leads = let r = whole.rings spare_list (omega arith) in
      some_is link (link_to s.at (last_or (ends + spare_list) (ring s spare_list))) (sym is ∙ last_is (linked_to s) s.next s.prev (ends + spare_list) (ring s spare_list) (ends + spare_list) r.path)

  on : NotIn link.place (ring s spare_list) → ⊥
  on = subst (λ q. NotIn q (ring s spare_list) → ⊥) (sym (ap (λ (l : Link T). l.place) leads)) (by (ring s spare_list) (ap or_zero (whole.rings spare_list (omega arith)).count))
    where
      by : (ps : List ℕ) → spare_in s ≡ length ps → NotIn (last_or (ends + spare_list) ps) ps → ⊥
      by [] n d = absurd (omega (arith, room, n))
      by (q ∷ qs) n d = last_on q qs d

  leads_to : link ≡ link_to s.at link.place
  leads_to = leads ∙ ap (link_to s.at) (sym (ap (λ (l : Link T). l.place) leads))

  class : s.list link.place ≡ Some spare_list
  class = class_is s whole spare_list link.place (omega arith) on

  pub spare_reaches : Reaches s link
  spare_reaches = reaches s whole spare_list link.place (omega arith) on link leads_to

  pub spare_node : link.place < ends
  spare_node = low s whole spare_list link.place (omega arith) on

  pub fresh : has_place (place_at link.place) (all_in s) ≡ false
  fresh = ap (has_place (place_at link.place)) (all_collect s) ∙ has_none link.place s.item (all_ring s) (not_within s whole spare_list link.place class (omega arith))

  module _ (v : T) (mid : Shape T) (given : mid ≡ set_item s link.place (Some v)) (to : ℕ) (four : to < 4) where
    abbrev held : Shape T
    held = set_item s link.place (Some v)

    held_whole : Whole held
    held_whole = item_whole s whole link.place spare_list (Some v) class (omega arith)

    five : to < 5
    five = omega (arith, four)

    pub may_add : length s.table < 2 ^ 63 → (from : ℕ) × CanMove mid link from to
    may_add short = subst (λ t. (from : ℕ) × CanMove t link from to) (sym given) (spare_list, can_move held held_whole spare_list link.place (omega arith) on to five link leads_to short)

    module _ (new : Shape T) (came : (from : ℕ) → mid.list link.place ≡ Some from → new ≡ moved mid link.place from to) where
      is_moved : new ≡ moved held link.place spare_list to
      is_moved = came spare_list (ap (λ (t : Shape T). t.list link.place) given ∙ class) ∙ ap (λ t. moved t link.place spare_list to) given

      pub added_whole : Whole new
      added_whole = subst Whole (sym is_moved) (new_whole held held_whole spare_list link.place (omega arith) on to five (λ h. ap is_some (upd_same s.item link.place (Some v))))

      -- nothing of the list was at the node
      as_before : (l : ℕ) → l < 4 → others (place_at link.place) (collect held.item (ring s l)) ≡ entries_in s l
      as_before l h =
          let off : NotIn link.place (ring s l) = apart_by s.list spare_list l link.place (ring s l) class (eqb-symm spare_list l ∙ apart l spare_list h) (whole.rings l (omega (arith, h))).class.1 in
          ap (others (place_at link.place)) (collect_upd s.item link.place (Some v) (ring s l) off) ∙ sym (collect_without link.place s.item (ring s l)) ∙ ap (collect s.item) (without_none link.place (ring s l) off)

      pub added : (l : ℕ) → shown new l ≡ shown s l ++ cond (eqb to l) (entry (place_at link.place) v ∷ []) []
      added = each new (λ l. shown s l ++ cond (eqb to l) (entry (place_at link.place) v ∷ []) [])
          (λ l h. ap (λ t. entries_in t l) is_moved ∙ new_entries held held_whole spare_list link.place (omega arith) on to five held.item l (omega (arith, h))
          ∙ (λ i. (as_before l h ∙ sym (shown_four s l h)) i ++ cond (eqb to l) (entry_at link.place (upd_same s.item link.place (Some v) i)) []))
          (λ l many. let off : eqb to l ≡ false = apart to l (omega (arith, four, many)) in
          (λ i. shown_none s l many i ++ cond (off i) (entry (place_at link.place) v ∷ []) []))

      pub added_spare : spare_in s ≡ spare_in new + 1
      added_spare = let off : eqb spare_list to ≡ false = eqb-symm spare_list to ∙ apart to spare_list four in
          let f = upd s.counts spare_list (Some (or_zero (s.counts spare_list) - 1)) in
          let is : spare_in new ≡ spare_in s - 1 = ap spare_in is_moved ∙ ap or_zero (upd_other f to (Some (or_zero (f to) + 1)) spare_list off ∙ upd_same s.counts spare_list (Some (or_zero (s.counts spare_list) - 1))) in
          omega (arith, is, room)
