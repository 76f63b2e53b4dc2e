-- The entries at numbers, and what becomes of them where one number leaves.
use Rattle.std.specs.Prelude.{◌||◌, not, filter}
use Rattle.std.proofs.Common.{◌≡◌, ℕ, suc, ◌≤◌, Bool, true, false, eqb, T as Yes, cond, List, [], ◌∷◌, ◌++◌, length, Option, Some, None, is_some, refl, sym, ap, ◌∙◌, subst, arith, eqb→eq, append_assoc, append-nil}
use Rattle.std.specs.List.{list_any}
use Rattle.std.proofs.lemmas.List.Elements.{filter-append}
use Rattle.std.proofs.lemmas.List.Folds.{list_any-append}
use Rattle.mc_list.specs.Rings.{upd, NotIn, Apart, Agree, without}
use Rattle.mc_list.specs.Entries.{Entry, entry, stands_at, those_at, others, has_place, first_place}
use Rattle.mc_list.specs.Whole.{place_at, entry_at, collect}
use Rattle.mc_list.proofs.RingFacts.{eqb-self, upd_other}

module _ {T : Type 0} where
  pub collect_app : (f : ℕ → Option T) (ps qs : List ℕ) → collect f (ps ++ qs) ≡ collect f ps ++ collect f qs
  collect_app f [] qs = refl
  collect_app f (p ∷ ps) qs = ap (λ es. entry_at p (f p) ++ es) (collect_app f ps qs) ∙ sym (append_assoc (entry_at p (f p)) (collect f ps) (collect f qs))

  pub collect_upd : (f : ℕ → Option T) (k : ℕ) (v : Option T) (ps : List ℕ) → NotIn k ps → collect (upd f k v) ps ≡ collect f ps
  collect_upd f k v [] d = refl
  collect_upd f k v (p ∷ ps) d = (λ i. entry_at p (upd_other f k v p d.0 i) ++ collect_upd f k v ps d.1 i)

  pub length_collect : (f : ℕ → Option T) (ps : List ℕ) → Agree (λ p. is_some (f p)) (λ p. true) ps → length (collect f ps) ≡ length ps
  length_collect f [] all = refl
  length_collect f (p ∷ ps) all = one (f p) (length_collect f ps all.1) all.0
    where
      one : (o : Option T) → length (collect f ps) ≡ length ps → is_some o ≡ true → length (entry_at p o ++ collect f ps) ≡ suc (length ps)
      one None rest some = absurd (cc)
      one (Some x) rest some = ap suc rest

  pub first_collect : (f : ℕ → Option T) (p : ℕ) (ps : List ℕ) → is_some (f p) ≡ true → first_place (collect f (p ∷ ps)) ≡ Some (place_at p)
  first_collect f p ps some = one (f p) some
    where
      one : (o : Option T) → is_some o ≡ true → first_place (entry_at p o ++ collect f ps) ≡ Some (place_at p)
      one None some = absurd (cc)
      one (Some x) some = refl

  -- what a test makes of the one entry at a number
  module _ (p : ℕ) where
    abbrev here : Entry T → Bool
    here = stands_at (place_at p)

    abbrev away : Entry T → Bool
    away = λ (e : Entry T). not (stands_at (place_at p) e)

    here_other : (q : ℕ) → eqb q p ≡ false → (o : Option T) → filter here (entry_at q o) ≡ []
    here_other q t None = refl
    here_other q t (Some x) = rw t refl

    away_same : (q : ℕ) → eqb q p ≡ true → (o : Option T) → filter away (entry_at q o) ≡ []
    away_same q t None = refl
    away_same q t (Some x) = rw t refl

    away_other : (q : ℕ) → eqb q p ≡ false → (o : Option T) → filter away (entry_at q o) ≡ entry_at q o
    away_other q t None = refl
    away_other q t (Some x) = rw t refl

    any_other : (q : ℕ) → eqb q p ≡ false → (o : Option T) → list_any here (entry_at q o) ≡ false
    any_other q t None = refl
    any_other q t (Some x) = rw t refl

    any_same : (q : ℕ) → eqb q p ≡ true → (o : Option T) → is_some o ≡ true → list_any here (entry_at q o) ≡ true
    any_same q t None some = absurd (cc)
    any_same q t (Some x) some = rw t refl

    few_here : (q : ℕ) (o : Option T) → length (filter here (entry_at q o)) ≤ 1
    few_here q None = omega arith
    few_here q (Some x) = (elim (eqb q p) as (λ t. length (cond t (entry (place_at q) x ∷ []) []) ≤ 1) [
      | true ↦ omega arith
      | false ↦ omega arith
    ])

    pub collect_without : (f : ℕ → Option T) (ps : List ℕ) → collect f (without p ps) ≡ others (place_at p) (collect f ps)
    collect_without f [] = refl
    collect_without f (q ∷ qs) = (elim (eqb q p) as (λ t. eqb q p ≡ t → collect f (cond t (without p qs) (q ∷ without p qs)) ≡ filter away (entry_at q (f q) ++ collect f qs)) [
      | true ↦ λ t. collect_without f qs ∙ sym (filter-append away (entry_at q (f q)) (collect f qs) ∙ ap (λ es. es ++ filter away (collect f qs)) (away_same q t (f q)))
      | false ↦ λ t. ap (λ es. entry_at q (f q) ++ es) (collect_without f qs) ∙ sym (filter-append away (entry_at q (f q)) (collect f qs) ∙ ap (λ es. es ++ filter away (collect f qs)) (away_other q t (f q)))
    ]) refl

    pub those_none : (f : ℕ → Option T) (ps : List ℕ) → NotIn p ps → those_at (place_at p) (collect f ps) ≡ []
    those_none f [] d = refl
    those_none f (q ∷ qs) d = filter-append here (entry_at q (f q)) (collect f qs) ∙ (λ i. here_other q d.0 (f q) i ++ those_none f qs d.1 i)

    pub those_one : (f : ℕ → Option T) (x : T) → f p ≡ Some x → (ps : List ℕ) → Apart ps → (NotIn p ps → ⊥) → those_at (place_at p) (collect f ps) ≡ entry (place_at p) x ∷ []
    those_one f x is [] d on = absurd (on tt)
    those_one f x is (q ∷ qs) d on = filter-append here (entry_at q (f q)) (collect f qs) ∙ (elim (eqb q p) as (λ t. eqb q p ≡ t → filter here (entry_at q (f q)) ++ filter here (collect f qs) ≡ entry (place_at p) x ∷ []) [
      | true ↦ λ t. let same : q ≡ p = eqb→eq q p (subst Yes (sym t) tt) in
          let rest : filter here (collect f qs) ≡ [] = those_none f qs (subst (λ k. NotIn k qs) same d.0) in
          let one : filter here (entry_at p (Some x)) ≡ entry (place_at p) x ∷ [] = rw (eqb-self p) refl in
          (λ i. filter here (entry_at (same i) (f (same i))) ++ rest i) ∙ ap (λ o. filter here (entry_at p o) ++ []) is ∙ ap (λ es. es ++ []) one
      | false ↦ λ t. (λ i. here_other q t (f q) i ++ those_one f x is qs d.1 (λ e. on (t, e)) i)
    ]) refl

    pub has_none : (f : ℕ → Option T) (ps : List ℕ) → NotIn p ps → has_place (place_at p) (collect f ps) ≡ false
    has_none f [] d = refl
    has_none f (q ∷ qs) d = list_any-append here (entry_at q (f q)) (collect f qs) ∙ (λ i. any_other q d.0 (f q) i || has_none f qs d.1 i)

    -- a number with an entry is among the numbers
    pub has_not : (f : ℕ → Option T) (ps : List ℕ) → has_place (place_at p) (collect f ps) ≡ true → NotIn p ps → ⊥
    has_not f ps h d = let bad : true ≡ false = sym h ∙ has_none f ps d in absurd (cc)

    pub has_one : (f : ℕ → Option T) → is_some (f p) ≡ true → (ps : List ℕ) → (NotIn p ps → ⊥) → has_place (place_at p) (collect f ps) ≡ true
    has_one f some [] on = absurd (on tt)
    has_one f some (q ∷ qs) on = list_any-append here (entry_at q (f q)) (collect f qs) ∙ (elim (eqb q p) as (λ t. eqb q p ≡ t → (list_any here (entry_at q (f q)) || list_any here (collect f qs)) ≡ true) [
      | true ↦ λ t. let same : q ≡ p = eqb→eq q p (subst Yes (sym t) tt) in
          ap (λ b. b || list_any here (collect f qs)) (any_same q t (f q) (ap (λ k. is_some (f k)) same ∙ some))
      | false ↦ λ t. (λ i. any_other q t (f q) i || has_one f some qs (λ e. on (t, e)) i)
    ]) refl

    pub few_those : (f : ℕ → Option T) (ps : List ℕ) → Apart ps → length (those_at (place_at p) (collect f ps)) ≤ 1
    few_those f [] d = omega arith
    few_those f (q ∷ qs) d = subst (λ es. length es ≤ 1) (sym (filter-append here (entry_at q (f q)) (collect f qs))) ((elim (eqb q p) as (λ t. eqb q p ≡ t → length (filter here (entry_at q (f q)) ++ filter here (collect f qs)) ≤ 1) [
      | true ↦ λ t. let same : q ≡ p = eqb→eq q p (subst Yes (sym t) tt) in
          let rest : filter here (collect f qs) ≡ [] = those_none f qs (subst (λ k. NotIn k qs) same d.0) in
          subst (λ es. length (filter here (entry_at q (f q)) ++ es) ≤ 1) (sym rest) (subst (λ es. length es ≤ 1) (sym (append-nil (filter here (entry_at q (f q))))) (few_here q (f q)))
      | false ↦ λ t. subst (λ es. length (es ++ filter here (collect f qs)) ≤ 1) (sym (here_other q t (f q))) (few_those f qs d.1)
    ]) refl)
