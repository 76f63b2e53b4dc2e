-- No node, and five lists that are empty.
use Rattle.std.proofs.Common.{◌≡◌, ℕ, zero, suc, ◌+◌, ◌-◌, ◌<◌, ◌≤◌, Bool, true, false, cond, List, [], ◌∷◌, map, Option, Some, None, refl, sym, ap, ◌∙◌, arith, is_some, slice_get}
use Rattle.std.specs.Prelude.{nat_lt}
use denote.RawPtr.{Ptr}
use Rattle.mc_list.specs.Cells.{value_at}
use Rattle.mc_list.specs.Web.{Shape, shape_of, ends, link_to, or_none}
use Rattle.mc_list.specs.Ringed.{RingOk, or_zero}
use Rattle.mc_list.specs.Whole.{Whole}
use Rattle.mc_list.specs.declared.node.Link.{Link}
use Rattle.mc_list.specs.declared.node.Node.{Node}
use Rattle.mc_list.specs.declared.web.Web.{Web}
use Rattle.mc_list.proofs.WebFacts.{some_is, ringed}

module _ {T : Type 0} where
  module _ (w : Web T) where
    abbrev s : Shape T
    s = shape_of w

    -- what stands in an array of the ends
    pub end_read : {B : Type 0} (f : Node T → Option B) (xs : List B) (l : ℕ) → cond (nat_lt (ends + l) ends) (or_none f (value_at w.cells.cells (ends + l))) (slice_get xs (ends + l - ends)) ≡ slice_get xs l
    end_read f xs l = let high : nat_lt (ends + l) ends ≡ false = grind arith in let is : ends + l - ends ≡ l = omega arith in
        rw high (ap (slice_get xs) is)

    end_class : (l : ℕ) → l < 5 → s.list (ends + l) ≡ Some l
    end_class l h = let high : nat_lt (ends + l) ends ≡ false = grind arith in let is : ends + l - ends ≡ l = omega arith in let few : nat_lt l 5 ≡ true = grind (arith, h) in
        rw high (rw is (rw few refl))

    module _ (cells : w.cells.cells ≡ []) (table : w.table.items ≡ [])
        (firsts : (l : ℕ) → l < 5 → slice_get w.firsts l ≡ Some (link_to s.at (ends + l))) (lasts : (l : ℕ) → l < 5 → slice_get w.lasts l ≡ Some (link_to s.at (ends + l)))
        (counts : (l : ℕ) → l < 5 → slice_get w.counts l ≡ Some 0) where
      no_ring : (l : ℕ) → l < 5 → RingOk s l []
      no_ring l h = record {
        path = (end_read (λ (n : Node T). Some n.next) w.firsts l ∙ firsts l h, end_read (λ (n : Node T). Some n.prev) w.lasts l ∙ lasts l h);
        apart = (tt, tt);
        class = (end_class l h, tt);
        count = counts l h;
      }

      no_list : (p k : ℕ) → p < ends → s.list p ≡ Some k → ⊥
      no_list p k low c = let is : nat_lt p ends ≡ true = grind (arith, low) in
          let none : s.list p ≡ None = rw is (ap (λ cs. or_none (λ (n : Node T). Some n.list) (value_at cs p)) cells) in
          let bad : false ≡ true = ap is_some (sym none ∙ c) in absurd (cc)

      class_at : (p k : ℕ) → s.list p ≡ Some k → ends ≤ p → p ≡ ends + k
      class_at p k c high = let not : nat_lt p ends ≡ false = grind (arith, high) in
          let is : cond (nat_lt (p - ends) 5) (Some (p - ends)) None ≡ Some k = sym (rw not refl) ∙ c in
          by (nat_lt (p - ends) 5) is
        where
          by : (b : Bool) → cond b (Some (p - ends)) None ≡ Some k → p ≡ ends + k
          by true e = let less : p - ends ≡ k = some_is (p - ends) k e in omega (arith, less, high)
          by false e = let bad : false ≡ true = ap is_some e in absurd (cc)

      pub nothing : Whole s
      nothing = record {
        rings = ringed s (λ l. []) no_ring;
        items = λ l p h low c. absurd (no_list p l low c);
        table = λ p low c. absurd (some_list p low (s.list p) refl c);
        tied = ap (map (λ (l : Link T). l.at)) table ∙ sym (ap (map (λ (c : Ptr × Node T). c.0)) cells);
        few = let none : (l : ℕ) → l < 5 → or_zero (s.counts l) ≡ 0 = λ l h. ap or_zero (counts l h) in
            omega (arith, none 0 (omega arith), none 1 (omega arith), none 2 (omega arith), none 3 (omega arith), none 4 (omega arith));
        classes = class_at;
      }
        where
          some_list : (p : ℕ) → p < ends → (o : Option ℕ) → s.list p ≡ o → is_some o ≡ true → ⊥
          some_list p low None is c = absurd (cc)
          some_list p low (Some k) is c = no_list p k low is

-- the ends of the five lists, one after another
pub five_ends : {T : Type 0} (a b c d e : Link T) (at : ℕ → Ptr) → a ≡ link_to at (ends + 0) → b ≡ link_to at (ends + 1) → c ≡ link_to at (ends + 2) → d ≡ link_to at (ends + 3) → e ≡ link_to at (ends + 4)
    → (l : ℕ) → l < 5 → slice_get (a ∷ b ∷ c ∷ d ∷ e ∷ []) l ≡ Some (link_to at (ends + l))
five_ends a b c d e at is0 is1 is2 is3 is4 zero h = ap Some is0
five_ends a b c d e at is0 is1 is2 is3 is4 (suc zero) h = ap Some is1
five_ends a b c d e at is0 is1 is2 is3 is4 (suc (suc zero)) h = ap Some is2
five_ends a b c d e at is0 is1 is2 is3 is4 (suc (suc (suc zero))) h = ap Some is3
five_ends a b c d e at is0 is1 is2 is3 is4 (suc (suc (suc (suc zero)))) h = ap Some is4
five_ends a b c d e at is0 is1 is2 is3 is4 (suc (suc (suc (suc (suc l))))) h = absurd (omega (arith, h))

pub five_zeros : (l : ℕ) → l < 5 → slice_get {X = ℕ} (0 ∷ 0 ∷ 0 ∷ 0 ∷ 0 ∷ []) l ≡ Some 0
five_zeros zero h = refl
five_zeros (suc zero) h = refl
five_zeros (suc (suc zero)) h = refl
five_zeros (suc (suc (suc zero))) h = refl
five_zeros (suc (suc (suc (suc zero)))) h = refl
five_zeros (suc (suc (suc (suc (suc l))))) h = absurd (omega (arith, h))
