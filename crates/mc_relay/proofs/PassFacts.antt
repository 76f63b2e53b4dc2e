-- Each step on a relay keeps its rule.
use Rattle.std.proofs.Common.{◌≡◌, ◌≢◌, ◌⊎◌, ℕ, zero, suc, ◌+◌, ◌<◌, ◌≤◌, eqb, Bool, true, false, true≢false, cond, List, [], ◌∷◌, ◌++◌, length, set, sym, refl, ap, ◌∙◌, subst, inl, inr, ⊎_elim, append_assoc, arith, eq-eqb, ne_eqb, Option, Some, None, length-append}
use Rattle.std.specs.Prelude.{is_some, unwrap_or}
use mathlib.Core.Option.{some, some-injective, some-ne-none}
use mathlib.Core.Logic.{dite}
use native.Mathlib.Decide.{ℕ_discrete, dec_lt}
use lib.ListN.{get_elem?}
use Rattle.crossbeam_queue.specs.Fifo.{Pushes, Pops, Forks, Merges, Learns}
use Rattle.crossbeam_queue.proofs.Lists.{at_set}
use Rattle.mc_relay.specs.declared.view.EndView.{EndView}
use Rattle.mc_relay.specs.Passes.{times, of, numbers, AreParts, first_view, giver_view, spent_view, with_pushed, with_full, with_taken, with_empty, with_made, with_known, IsGiver, IsBack, AreBack, IsTaker, Fits, AllRight, Passes, HasPushed, HasTaken, KnowsAll}
use Rattle.mc_relay.proofs.PlaceFacts.{all_there, one_if, times_snoc}

some_none : {A : Type 0} (x : A) → Some x ≡ None → ⊥
some_none x e = true≢false (ap is_some e)

some_same : (x y : ℕ) → Some x ≡ Some y → x ≡ y
some_same x y e = ap (λ o. unwrap_or o 0) e

-- a place's value in a table that differs at m alone
abbrev but_at : ℕ → Option ℕ → (ℕ → Option ℕ) → ℕ → Option ℕ
but_at m at seat n = cond (eqb n m) at (seat n)

but_here : (m : ℕ) (at : Option ℕ) (seat : ℕ → Option ℕ) → but_at m at seat m ≡ at
but_here m at seat = ap (λ b. cond b at (seat m)) (eq-eqb m m refl)

but_else : (m : ℕ) (at : Option ℕ) (seat : ℕ → Option ℕ) (n : ℕ) → n ≢ m → but_at m at seat n ≡ seat n
but_else m at seat n ne = ap (λ b. cond b at (seat n)) (ne_eqb n m ne)

at_end : {A : Type 0} (l : List A) (a b : A) (j : ℕ) → get_elem? (l ++ a ∷ []) j ≡ some b → (get_elem? l j ≡ some b) ⊎ ((j ≡ length l) × (a ≡ b))
at_end [] a b zero e = inr (refl, some-injective a b e)
at_end [] a b (suc j) e = absurd (some-ne-none b (sym e))
at_end (x ∷ xs) a b zero e = inl e
at_end (x ∷ xs) a b (suc j) e = ⊎_elim (λ t. inl t) (λ (t : (j ≡ length xs) × (a ≡ b)). inr (ap suc t.0, t.1)) (at_end xs a b j e)

module _ {T : Type 0} where
  same_test : (b : Bool) (y x : T) (now was : List T) → now ≡ was ++ x ∷ [] → cond b (y ∷ now) now ≡ cond b (y ∷ was) was ++ x ∷ []
  same_test true y x now was e = ap (λ l. y ∷ l) e
  same_test false y x now was e = e

  -- one item more of this giver
  of_same : (n : ℕ) (origins : List ℕ) (all : List T) (x : T) → length origins ≡ length all → of n (origins ++ n ∷ []) (all ++ x ∷ []) ≡ of n origins all ++ x ∷ []
  of_same n [] [] x e = ap (λ b. cond b (x ∷ []) []) (eq-eqb n n refl)
  of_same n [] (y ∷ all) x e = absurd (omega arith)
  of_same n (o ∷ origins) [] x e = absurd (omega arith)
  of_same n (o ∷ origins) (y ∷ all) x e = same_test (eqb o n) y x (of n (origins ++ n ∷ []) (all ++ x ∷ [])) (of n origins all) (of_same n origins all x (omega arith))

  -- one of another
  of_other : (n m : ℕ) (origins : List ℕ) (all : List T) (x : T) → m ≢ n → length origins ≡ length all → of n (origins ++ m ∷ []) (all ++ x ∷ []) ≡ of n origins all
  of_other n m [] [] x ne e = ap (λ b. cond b (x ∷ []) []) (ne_eqb m n ne)
  of_other n m [] (y ∷ all) x ne e = absurd (omega arith)
  of_other n m (o ∷ origins) [] x ne e = absurd (omega arith)
  of_other n m (o ∷ origins) (y ∷ all) x ne e = ap (λ l. cond (eqb o n) (y ∷ l) l) (of_other n m origins all x ne (omega arith))

  right_snoc : (Right : T → Type 0) (items : List T) (x : T) → AllRight Right items → Right x → AllRight Right (items ++ x ∷ [])
  right_snoc Right [] x h r = (r, tt)
  right_snoc Right (y ∷ items) x h r = (h.0, right_snoc Right items x h.1 r)

  abbrev All : (ℕ → EndView T → Type 0) → List (EndView T) → Type 0
  All F views = (port : ℕ) (v : EndView T) → get_elem? views port ≡ some v → F port v

  all_set : (F : ℕ → EndView T → Type 0) (views : List (EndView T)) (port : ℕ) (w : EndView T) → F port w → ((j : ℕ) (u : EndView T) → j ≢ port → get_elem? views j ≡ some u → F j u) → All F (set views port w)
  all_set F views port w mine others j u e = ⊎_elim (λ (x : (j ≡ port) × (w ≡ u)). subst (λ (y : ℕ × EndView T). F y.0 y.1) (λ i. (sym x.0 i, x.1 i)) mine)
      (λ (x : (j ≢ port) × (get_elem? views j ≡ some u)). others j u x.0 x.1) (at_set views port j w u e)

  all_snoc : (F : ℕ → EndView T → Type 0) (views : List (EndView T)) (w : EndView T) → All F views → F (length views) w → All F (views ++ w ∷ [])
  all_snoc F views w old new j u e = ⊎_elim (λ (x : get_elem? views j ≡ some u). old j u x)
      (λ (x : (j ≡ length views) × (w ≡ u)). subst (λ (y : ℕ × EndView T). F y.0 y.1) (λ i. (sym x.0 i, x.1 i)) new) (at_end views w u j e)

  -- givers that were taken in are not touched by a push of another, by a giver that is made, and by one that is taken in
  back_pushed : (seat : ℕ → Option ℕ) (made : ℕ) (origins : List ℕ) (all : List T) (m port : ℕ) (x : T) → seat m ≡ Some port → length origins ≡ length all
      → (known : List (ℕ × List T)) → AreBack seat made origins all known → AreBack seat made (origins ++ m ∷ []) (all ++ x ∷ []) known
  back_pushed seat made origins all m port x sits same [] b = tt
  back_pushed seat made origins all m port x sits same (part ∷ parts) b = (
    record {
      below = b.0.below;
      gone = b.0.gone;
      items = of_other part.0 m origins all x (λ e. some_none port (sym sits ∙ (ap seat e ∙ b.0.gone))) same ∙ b.0.items;
    },
    back_pushed seat made origins all m port x sits same parts b.1,
  )

  back_made : (seat : ℕ → Option ℕ) (made : ℕ) (origins : List ℕ) (all : List T) (at : Option ℕ) → (known : List (ℕ × List T)) → AreBack seat made origins all known → AreBack (but_at made at seat) (made + 1) origins all known
  back_made seat made origins all at [] b = tt
  back_made seat made origins all at (part ∷ parts) b = (
    record {
      below = let l = b.0.below in omega arith;
      gone = but_else made at seat part.0 (λ e. let l = b.0.below in omega arith) ∙ b.0.gone;
      items = b.0.items;
    },
    back_made seat made origins all at parts b.1,
  )

  back_taken : (seat : ℕ → Option ℕ) (made : ℕ) (origins : List ℕ) (all : List T) (m port : ℕ) → seat m ≡ Some port → (known : List (ℕ × List T)) → AreBack seat made origins all known → AreBack (but_at m None seat) made origins all known
  back_taken seat made origins all m port sits [] b = tt
  back_taken seat made origins all m port sits (part ∷ parts) b = (
    record {
      below = b.0.below;
      gone = but_else m None seat part.0 (λ e. some_none port (sym sits ∙ (ap seat (sym e) ∙ b.0.gone))) ∙ b.0.gone;
      items = b.0.items;
    },
    back_taken seat made origins all m port sits parts b.1,
  )

  back_snoc : (seat : ℕ → Option ℕ) (made : ℕ) (origins : List ℕ) (all : List T) (known : List (ℕ × List T)) (part : ℕ × List T) → AreBack seat made origins all known → IsBack seat made origins all part.0 part.1
      → AreBack seat made origins all (known ++ part ∷ [])
  back_snoc seat made origins all [] part b new = (new, tt)
  back_snoc seat made origins all (p ∷ parts) part b new = (b.0, back_snoc seat made origins all parts part b.1 new)

  -- one that has an end was not taken in
  back_not : (seat : ℕ → Option ℕ) (made : ℕ) (origins : List ℕ) (all : List T) (m port : ℕ) → seat m ≡ Some port → (known : List (ℕ × List T)) → AreBack seat made origins all known → times m (numbers known) ≡ 0
  back_not seat made origins all m port sits [] b = refl
  back_not seat made origins all m port sits (part ∷ parts) b =
      let e : one_if (eqb part.0 m) ≡ 0 = ap one_if (ne_eqb part.0 m (λ e. some_none port (sym sits ∙ (ap seat (sym e) ∙ b.0.gone)))) in
      let r = back_not seat made origins all m port sits parts b.1 in omega (arith, e, r)

  back_below : (seat : ℕ → Option ℕ) (made : ℕ) (origins : List ℕ) (all : List T) (known : List (ℕ × List T)) → AreBack seat made origins all known → (n : ℕ) → made ≤ n → times n (numbers known) ≡ 0
  back_below seat made origins all [] b n l = refl
  back_below seat made origins all (part ∷ parts) b n l =
      let below = b.0.below in
      let e : one_if (eqb part.0 n) ≡ 0 = ap one_if (ne_eqb part.0 n (λ e. omega arith)) in
      let r = back_below seat made origins all parts b.1 n l in omega (arith, e, r)

  back_parts : (seat : ℕ → Option ℕ) (made : ℕ) (origins : List ℕ) (all : List T) (known : List (ℕ × List T)) → AreBack seat made origins all known → AreParts origins all known
  back_parts seat made origins all [] b = tt
  back_parts seat made origins all (part ∷ parts) b = (b.0.items, back_parts seat made origins all parts b.1)

  numbers_snoc : (known : List (ℕ × List T)) (part : ℕ × List T) → numbers (known ++ part ∷ []) ≡ numbers known ++ part.0 ∷ []
  numbers_snoc [] part = refl
  numbers_snoc (p ∷ parts) part = ap (λ l. p.0 ∷ l) (numbers_snoc parts part)

  numbers_length : (known : List (ℕ × List T)) → length (numbers known) ≡ length known
  numbers_length [] = refl
  numbers_length (p ∷ parts) = ap suc (numbers_length parts)

  module _ (Right : T → Type 0) where
    first_fits : (port : ℕ) (v : EndView T) → get_elem? (first_view ∷ []) port ≡ some v → Fits 0 (λ n. None) 0 [] [] [] port v
    first_fits zero v e = subst (λ u. Fits 0 (λ n. None) 0 [] [] [] 0 u) (some-injective first_view v e) (
      (λ p. absurd (true≢false (sym p))),
      λ p. record { only = refl; made_same = refl; taken_same = refl; back = tt; apart = λ n. omega arith },
    )
    first_fits (suc port) v e = absurd (some-ne-none v (sym e))

    pub begins : Passes Right [] (first_view ∷ [])
    begins = record {
      taker = 0;
      so_far = 0;
      seat = λ n. None;
      all = [];
      origins = [];
      popped = [];
      each = refl;
      rest = refl;
      unmade = λ n l. (refl, refl);
      ends = first_fits;
      right = tt;
    }

    pub pushes : (n port : ℕ) (v : EndView T) (x : T) → v.gives ≡ true → Right x → Pushes (Passes Right) n port v x (λ w. w ≡ with_pushed v x)
    pushes n port v x gives right items views room h at =
        let w : EndView T = with_pushed v x in
        let mine = (h.ends port v at).0 gives in
        let m : ℕ = v.number in
        let all : List T = h.all ++ x ∷ [] in
        let origins : List ℕ = h.origins ++ m ∷ [] in
        let F : ℕ → EndView T → Type 0 = λ j u. Fits h.taker h.seat h.so_far origins all h.popped j u in
        let taker_of : (j : ℕ) (u : EndView T) → get_elem? views j ≡ some u → u.takes ≡ true → IsTaker h.taker h.seat h.so_far origins all h.popped j u.made u.taken u.known = λ j u e p.
        let t = (h.ends j u e).1 p in
        record { only = t.only; made_same = t.made_same; taken_same = t.taken_same; back = back_pushed h.seat u.made h.origins h.all m port x mine.sits h.each u.known t.back; apart = t.apart } in (
          w,
          record {
            taker = h.taker;
            so_far = h.so_far;
            seat = h.seat;
            all = all;
            origins = origins;
            popped = h.popped;
            each = let a = length-append h.origins (m ∷ []) in let b = length-append h.all (x ∷ []) in let c = h.each in omega (arith, a, b, c);
            rest = ap (λ l. l ++ x ∷ []) h.rest ∙ append_assoc h.popped items (x ∷ []);
            unmade = λ k l. let u = h.unmade k l in (u.0, of_other k m h.origins h.all x (λ e. some_none port (sym mine.sits ∙ (ap h.seat e ∙ u.0))) h.each ∙ u.1);
            ends = all_set F views port w (
              (λ p. record { sits = mine.sits; items = of_same m h.origins h.all x h.each ∙ ap (λ l. l ++ x ∷ []) mine.items }),
              λ p. taker_of port v at p,
            )
                (λ j u other e. (
                  (λ p. let g = (h.ends j u e).0 p in
                      record {
                        sits = g.sits;
                        items = of_other u.number m h.origins h.all x (λ q. other (some_same j port (sym g.sits ∙ (ap h.seat (sym q) ∙ mine.sits)))) h.each ∙ g.items;
                      }),
                  λ p. taker_of j u e p,
                ));
            right = right_snoc Right items x h.right right;
          },
          refl,
        )

    pub pops : (port : ℕ) (v : EndView T) → v.takes ≡ true → Pops (Passes Right) port v (λ x w. (w ≡ with_taken v x) × Right x)
    pops port v takes x items views h at =
        let w : EndView T = with_taken v x in
        let mine = (h.ends port v at).1 takes in
        let popped : List T = h.popped ++ x ∷ [] in
        let F : ℕ → EndView T → Type 0 = λ j u. Fits h.taker h.seat h.so_far h.origins h.all popped j u in (
          w,
          record {
            taker = h.taker;
            so_far = h.so_far;
            seat = h.seat;
            all = h.all;
            origins = h.origins;
            popped = popped;
            each = h.each;
            rest = h.rest ∙ sym (append_assoc h.popped (x ∷ []) items);
            unmade = h.unmade;
            ends = all_set F views port w (
              (h.ends port v at).0,
              λ p. record { only = mine.only; made_same = mine.made_same; taken_same = ap (λ l. l ++ x ∷ []) mine.taken_same; back = mine.back; apart = mine.apart },
            )
                (λ j u other e. ((h.ends j u e).0, λ p. absurd (other (((h.ends j u e).1 p).only ∙ sym mine.only))));
            right = h.right.1;
          },
          (refl, h.right.0),
        )

    pub hires : (port : ℕ) (v : EndView T) → v.takes ≡ true → Forks (Passes Right) port v (with_made v) (giver_view v.made)
    hires port v takes items views h at =
        let mine = (h.ends port v at).1 takes in
        let left : EndView T = with_made v in
        let vs : List (EndView T) = set views port left in
        let new : Option ℕ = Some (length vs) in
        let seat : ℕ → Option ℕ = but_at v.made new h.seat in
        let F : ℕ → EndView T → Type 0 = λ j u. Fits h.taker seat (v.made + 1) h.origins h.all h.popped j u in
        let giver_of : (j : ℕ) (u : EndView T) → get_elem? views j ≡ some u → u.gives ≡ true → IsGiver seat h.origins h.all j u.number u.pushed = λ j u e p.
        let g = (h.ends j u e).0 p in
        record { sits = but_else v.made new h.seat u.number (λ q. some_none j (sym g.sits ∙ (h.unmade u.number (let s = mine.made_same in omega arith)).0)) ∙ g.sits; items = g.items } in
        record {
          taker = h.taker;
          so_far = v.made + 1;
          seat = seat;
          all = h.all;
          origins = h.origins;
          popped = h.popped;
          each = h.each;
          rest = h.rest;
          unmade = λ n l. let s = mine.made_same in let u = h.unmade n (omega arith) in (but_else v.made new h.seat n (λ q. omega arith) ∙ u.0, u.1);
          ends = all_snoc F vs (giver_view v.made)
              (all_set F views port left (
                (λ p. giver_of port v at p),
                λ p. record { only = mine.only; made_same = refl; taken_same = mine.taken_same; back = back_made h.seat v.made h.origins h.all new v.known mine.back; apart = mine.apart },
              )
              (λ j u other e. ((λ p. giver_of j u e p), λ p. absurd (other (((h.ends j u e).1 p).only ∙ sym mine.only))))) (
                (λ p. record { sits = but_here v.made new h.seat; items = (h.unmade v.made (let s = mine.made_same in omega arith)).1 }),
                λ p. absurd (true≢false (sym p)),
              );
          right = h.right;
        }

    -- a note changes nothing that the rule speaks of
    noted : (port : ℕ) (v l : EndView T)
        → ((taker : ℕ) (seat : ℕ → Option ℕ) (so_far : ℕ) (origins : List ℕ) (all popped : List T) → Fits taker seat so_far origins all popped port v → Fits taker seat so_far origins all popped port l)
        → Forks (Passes Right) port v l spent_view
    noted port v l same items views h at =
        let F : ℕ → EndView T → Type 0 = λ j u. Fits h.taker h.seat h.so_far h.origins h.all h.popped j u in
        record {
          taker = h.taker;
          so_far = h.so_far;
          seat = h.seat;
          all = h.all;
          origins = h.origins;
          popped = h.popped;
          each = h.each;
          rest = h.rest;
          unmade = h.unmade;
          ends = all_snoc F (set views port l) spent_view
              (all_set F views port l (same h.taker h.seat h.so_far h.origins h.all h.popped (h.ends port v at)) (λ j u other e. h.ends j u e))
              ((λ p. absurd (true≢false (sym p))), λ p. absurd (true≢false (sym p)));
          right = h.right;
        }

    pub notes_full : (port : ℕ) (v : EndView T) → Forks (Passes Right) port v (with_full v) spent_view
    notes_full port v = noted port v (with_full v) (λ taker seat so_far origins all popped f. (f.0, f.1))

    pub notes_empty : (port : ℕ) (v : EndView T) → Forks (Passes Right) port v (with_empty v) spent_view
    notes_empty port v = noted port v (with_empty v) (λ taker seat so_far origins all popped f. (f.0, f.1))

    pub takes_in : (port : ℕ) (v : EndView T) (other : ℕ) (w : EndView T) → v.takes ≡ true → w.gives ≡ true → Merges (Passes Right) port v other w (with_known v w) spent_view
    takes_in port v other w takes gives items views h at apart at' =
        let both : EndView T = with_known v w in
        let vs : List (EndView T) = set views port both in
        let was : get_elem? views other ≡ some w = ⊎_elim (λ x. absurd (apart x.0)) (λ x. x.1) (at_set views port other both w at') in
        let mine = (h.ends port v at).1 takes in
        let theirs = (h.ends other w was).0 gives in
        let m : ℕ = w.number in
        let small : m < v.made = elim (dec_lt m v.made) [ yes d ↦ d | no d ↦ absurd (some_none other (sym theirs.sits ∙ (h.unmade m (let s = mine.made_same in omega arith)).0)) ] in
        let seat : ℕ → Option ℕ = but_at m None h.seat in
        let F : ℕ → EndView T → Type 0 = λ j u. Fits h.taker seat h.so_far h.origins h.all h.popped j u in
        let Now : ℕ → EndView T → Type 0 = λ j u. j ≢ other → F j u in
        let giver_of : (j : ℕ) (u : EndView T) → get_elem? views j ≡ some u → j ≢ other → u.gives ≡ true → IsGiver seat h.origins h.all j u.number u.pushed = λ j u e ne p.
        let g = (h.ends j u e).0 p in
        record { sits = but_else m None h.seat u.number (λ q. ne (some_same j other (sym g.sits ∙ (ap h.seat q ∙ theirs.sits)))) ∙ g.sits; items = g.items } in
        let part : ℕ × List T = (m, w.pushed) in
        let none = back_not h.seat v.made h.origins h.all m other theirs.sits v.known mine.back in
        let now : All Now vs = all_set Now views port both
        (λ ne. (
          (λ p. giver_of port v at ne p),
          λ p. record {
            only = mine.only;
            made_same = mine.made_same;
            taken_same = mine.taken_same;
            back = back_snoc seat v.made h.origins h.all v.known part (back_taken h.seat v.made h.origins h.all m other theirs.sits v.known mine.back)
                (record { below = small; gone = but_here m None h.seat; items = theirs.items });
            apart = λ n. once_more n m (numbers v.known) (mine.apart n) none (numbers (v.known ++ part ∷ [])) (numbers_snoc v.known part);
          },
        ))
        (λ j u two e ne. ((λ p. giver_of j u e ne p), λ p. absurd (two (((h.ends j u e).1 p).only ∙ sym mine.only)))) in
        record {
          taker = h.taker;
          so_far = h.so_far;
          seat = seat;
          all = h.all;
          origins = h.origins;
          popped = h.popped;
          each = h.each;
          rest = h.rest;
          unmade = λ n l. let s = mine.made_same in let u = h.unmade n l in (but_else m None h.seat n (λ q. omega arith) ∙ u.0, u.1);
          ends = all_set F vs other spent_view ((λ p. absurd (true≢false (sym p))), λ p. absurd (true≢false (sym p))) (λ j u ne e. now j u e ne);
          right = h.right;
        }
      where
        once_more : (n m : ℕ) (xs : List ℕ) → times n xs ≤ 1 → times m xs ≡ 0 → (ys : List ℕ) → ys ≡ xs ++ m ∷ [] → times n ys ≤ 1
        once_more n m xs few none ys is = let a = times_snoc n xs m in let b : times n ys ≡ times n xs + one_if (eqb m n) = ap (times n) is ∙ a in dite (ℕ_discrete m n)
            (λ e. let c : times n xs ≡ 0 = ap (λ k. times k xs) (sym e) ∙ none in let d : one_if (eqb m n) ≡ 1 = ap one_if (eq-eqb m n e) in omega (arith, b, c, d))
            (λ ne. let d : one_if (eqb m n) ≡ 0 = ap one_if (ne_eqb m n ne) in omega (arith, b, d, few))

    pub has_pushed : (port : ℕ) (v : EndView T) → v.gives ≡ true → Learns (Passes Right) port v (HasPushed v)
    has_pushed port v gives items views h at =
        let mine = (h.ends port v at).0 gives in
        record { origins = h.origins; popped = h.popped; each = h.each ∙ ap length h.rest; mine = ap (of v.number h.origins) (sym h.rest) ∙ mine.items }

    pub has_taken : (port : ℕ) (v : EndView T) → v.takes ≡ true → Learns (Passes Right) port v (HasTaken v)
    has_taken port v takes items views h at =
        let mine = (h.ends port v at).1 takes in
        let whole : h.all ≡ v.taken ++ items = h.rest ∙ ap (λ l. l ++ items) (sym mine.taken_same) in
        record { origins = h.origins; each = h.each ∙ ap length whole; made = λ n l. ap (of n h.origins) (sym whole) ∙ (h.unmade n (let s = mine.made_same in omega arith)).1 }

    pub knows_all : (port : ℕ) (v : EndView T) → v.takes ≡ true → Learns (Passes Right) port v (KnowsAll v)
    knows_all port v takes items views h at count =
        let mine = (h.ends port v at).1 takes in
        let whole : h.all ≡ v.taken ++ items = h.rest ∙ ap (λ l. l ++ items) (sym mine.taken_same) in
        record {
          origins = h.origins;
          each = h.each ∙ ap length whole;
          apart = mine.apart;
          whole = subst (λ all. AreParts h.origins all v.known) whole (back_parts h.seat v.made h.origins h.all v.known mine.back);
          only = λ n none. ap (of n h.origins) (sym whole) ∙ elim (dec_lt n v.made) [
            | yes d ↦ absurd (let one = all_there v.made (numbers v.known) (back_below h.seat v.made h.origins h.all v.known mine.back) mine.apart (numbers_length v.known ∙ count) n d in omega (arith, one, none))
            | no d ↦ (h.unmade n (let s = mine.made_same in omega arith)).1
          ];
        }
