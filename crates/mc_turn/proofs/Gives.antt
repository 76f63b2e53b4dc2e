-- For a crate above: what a seat knows after a take, a change by one entry or none, and a give.
use Rattle.std.proofs.Common.{◌≡◌, ℕ, ◌-◌, ◌≤◌, List, [], ◌∷◌, ◌++◌, length, Result, Ok, Err, MatchResult, slice_get, Some, refl, sym, ap, ◌∙◌, arith, append-nil, length-append}
use Rattle.mc_turn.specs.declared.view.View.{View}
use Rattle.mc_turn.specs.Lists.{Begins, places}
use Rattle.mc_turn.specs.Views.{held_view, given_view}
use Rattle.mc_turn.proofs.Lists.{begins_length}

module _ {E : Type 0} where
  pub last_is : (xs : List E) (e : E) → slice_get (xs ++ e ∷ []) (length xs) ≡ Some e
  last_is [] e = refl
  last_is (x ∷ xs) e = last_is xs e

  -- u is the seat that holds `old`, w the seat that gave `new`
  pub gave : {X : Type 0} (r : Result ℕ X) (v u w : View E) (words : List ℕ) (old new : List E) (e : E) → Begins v.seen old → u ≡ held_view v words old → w ≡ given_view u new
      → MatchResult r (λ at. (at ≡ length old) × (new ≡ old ++ e ∷ [])) (λ _. new ≡ old)
      → MatchResult r (λ at. (length v.seen ≤ at) × (slice_get w.seen at ≡ Some e) × (w.mine ≡ v.mine ++ at ∷ [])) (λ _. w.mine ≡ v.mine)
  gave (Ok at) v u w words old new e a p q h = let l = begins_length v.seen old a in let one : length new - length old ≡ 1 = omega (arith, ap length h.1, length-append old (e ∷ [])) in
      let F : View E → View E = λ x. given_view x new in let is : w ≡ F (held_view v words old) = q ∙ ap F p in (
        (let b = h.0 in omega arith),
        (λ i. slice_get ((is i).seen) (h.0 i)) ∙ ((λ i. slice_get (h.1 i) (length old)) ∙ last_is old e),
        ap (λ x. x.mine) is ∙ ((λ i. v.mine ++ places (length old) (one i)) ∙ ap (λ (k : ℕ). v.mine ++ k ∷ []) (sym h.0)),
      )
  gave (Err x) v u w words old new e a p q h = let none : length new - length old ≡ 0 = omega (arith, ap length h) in
      let F : View E → View E = λ x. given_view x new in let is : w ≡ F (held_view v words old) = q ∙ ap F p in
      ap (λ x. x.mine) is ∙ ((λ i. v.mine ++ places (length old) (none i)) ∙ append-nil v.mine)

  -- the same after a change by several entries: the seat has just their places
  pub gave_many : (v u w : View E) (words : List ℕ) (old new es : List E) → u ≡ held_view v words old → w ≡ given_view u new → new ≡ old ++ es
      → (w.seen ≡ old ++ es) × (w.mine ≡ v.mine ++ places (length old) (length es)) × (w.tried ≡ v.tried ++ words) × (w.parts ≡ v.parts) × (w.base ≡ v.base)
  gave_many v u w words old new es p q h = let k : length new - length old ≡ length es = omega (arith, ap length h, length-append old es) in
      let F : View E → View E = λ x. given_view x new in let is : w ≡ F (held_view v words old) = q ∙ ap F p in
      (ap (λ x. x.seen) is ∙ h, ap (λ x. x.mine) is ∙ (λ i. v.mine ++ places (length old) (k i)), ap (λ x. x.tried) is, ap (λ x. x.parts) is, ap (λ x. x.base) is)

  -- the same after a read, which changes nothing: the seat has no place more
  pub gave_same : (v u w : View E) (words : List ℕ) (old new : List E) → u ≡ held_view v words old → w ≡ given_view u new → new ≡ old → (w.seen ≡ old) × (w.mine ≡ v.mine)
  gave_same v u w words old new p q h = let t = gave_many v u w words old new [] p q (h ∙ sym (append-nil old)) in (t.0 ∙ append-nil old, t.1 ∙ append-nil v.mine)
