-- Two drains of the same blocks that are at their ends have processed the same blocks, and the same are missing and bad.
use Rattle.std.proofs.Common.{◌≡◌, ℕ, ◌+◌, ◌≤◌, Bool, true, false, true≢false, not, cond, ◌||◌, List, [], ◌∷◌, ◌++◌, length, refl, sym, ◌∙◌, ap, subst, inl, inr, arith, length-append}
use Rattle.std.specs.Prelude.{◌⊎◌, filter}
use Rattle.std.proofs.lemmas.List.Folds.{list_any-append}
use Rattle.mc_base.specs.declared.cid.Cid.{Cid}
use Rattle.mc_model.proofs.Counts.{cid_is, times-append, times-filter, times-one, times_has, times_none}
use Rattle.mc_model.proofs.Found.{closed_linked}
use Rattle.mc_model.specs.Drain.{AllDamaged, AllNothing, IsClosed, IsClosure, IsComing, IsSoFar, PartsFit}
use Rattle.mc_model.specs.Found.{Damaged, Found, Good, Nothing, Offers, is_found}
use Rattle.mc_model.specs.Front.{same_cid}
use Rattle.mc_model.specs.Graph.{has, times}
use Rattle.mc_model.specs.State.{Durable}
use Rattle.mc_model.specs.Wanted.{IsOnce, Queue, bad_cids, wanted}
use Rattle.mc_model.proofs.Blocks.{once_times}
use Rattle.mc_model.proofs.GapCount.{once_times_is}
use Rattle.mc_model.proofs.OnceLength.{same_length}
use Rattle.mc_seats.proofs.OpeningFacts.{both_true}

-- tests that say the same

same_test : (a b : Bool) → (a ≡ true → b ≡ true) → (b ≡ true → a ≡ true) → a ≡ b
same_test true true p q = refl
same_test true false p q = sym (p refl)
same_test false true p q = q refl
same_test false false p q = refl

pub or_first : (a b : Bool) → a ≡ true → (a || b) ≡ true
or_first true b e = refl
or_first false b e = absurd (true≢false (sym e))

or_second : (a b : Bool) → b ≡ true → (a || b) ≡ true
or_second true b e = refl
or_second false b e = e

or_either : (a b : Bool) → (a || b) ≡ true → (a ≡ true) ⊎ (b ≡ true)
or_either true b e = inl refl
or_either false b e = inr e

-- the members

pub closed_one : (found : Offers) (old : Durable) (start : List Cid) (new new2 : Durable) (queue queue2 : List Cid) → IsClosure found old start new queue → IsClosure found old start new2 queue2 → (c : Cid) → has c new.order ≡ has c new2.order
closed_one found old start new new2 queue queue2 a b c = same_test (has c new.order) (has c new2.order) (λ is. b.whole c (a.within c is)) (λ is. a.whole c (b.within c is))

pub coming_one : (found : Offers) (old : Durable) (start : List Cid) (new new2 : Durable) (queue queue2 : List Cid) → IsClosure found old start new queue → IsClosure found old start new2 queue2 → (c : Cid) → has c queue ≡ has c queue2
coming_one found old start new new2 queue queue2 a b c =
    same_test (has c queue) (has c queue2) (λ is. let p = a.coming c is in b.left c p.0 p.1) (λ is. let p = b.coming c is in a.left c p.0 p.1)

-- their number

pub length_one : (xs ys : List Cid) → ((c : Cid) → times c xs ≤ 1) → ((c : Cid) → times c ys ≤ 1) → ((c : Cid) → has c xs ≡ has c ys) → length xs ≡ length ys
length_one xs ys once once2 same =
    same_length xs ys once (λ c. once_times_is ys (once_times ys once2) c ∙ ap (λ (t : Bool). cond {A = ℕ} t 1 0) (sym (same c)) ∙ sym (once_times_is xs (once_times xs once) c))

-- a list without repeats is no longer than one that has all of it
pub within_length : (xs zs : List Cid) → ((c : Cid) → times c xs ≤ 1) → ((c : Cid) → times c zs ≤ 1) → ((c : Cid) → has c zs ≡ true → has c xs ≡ true) → length zs ≤ length xs
within_length xs zs once once2 inside =
    let more : List Cid = filter (λ d. not (has d zs)) xs in
    let same : length xs ≡ length (zs ++ more) = same_length xs (zs ++ more) once (λ c. each c) in omega (arith, same, length-append zs more)
  where
    each : (c : Cid) → times c (zs ++ filter (λ d. not (has d zs)) xs) ≡ times c xs
    each c = times-append c zs (filter (λ d. not (has d zs)) xs) ∙ ap (λ (n : ℕ). times c zs + n) (times-filter c (λ d. not (has d zs)) xs) ∙ by_test (has c zs) refl
      where
        by_test : (b : Bool) → has c zs ≡ b → times c zs + cond (not b) (times c xs) 0 ≡ times c xs
        by_test true e = omega (arith, once2 c, times_has c zs e, once c, times_has c xs (inside c e))
        by_test false e = omega (arith, times_none c zs e)

-- what comes and has a good offer is in the closure
pub come_closed : (found : Offers) (order start : List Cid) (c : Cid) → IsComing found order start c → is_found (found c) ≡ true → IsClosed found order start c
come_closed found order start c (inr link) good = closed_linked found order start link.from c link.added link.linked good
come_closed found order start c (inl wanted) good = by_test (has c order) refl
  where
    by_test : (b : Bool) → has c order ≡ b → IsClosed found order start c
    by_test true e = inl e
    by_test false e = inr (record { path = []; along = both_true wanted (both_true good (ap not e)) })

-- a drain that is before its end, and has a block that waits with a good offer, has processed fewer blocks than the closure has
pub before_end : (found : Offers) (old : Durable) (start : List Cid) (new new2 : Durable) (queue : List Cid) (q : Queue) (c : Cid) → IsClosure found old start new queue → ((c : Cid) → times c new.order ≤ 1) → IsSoFar found old start new2 (wanted q) → IsOnce new2.order q → has c (wanted q) ≡ true → is_found (found c) ≡ true
    → length new2.order + 1 ≤ length new.order
before_end found old start new new2 queue q c a once so_far once2 waits good =
    let all = within_length new.order (new2.order ++ c ∷ []) once (λ d. twice d) (λ d e. inside d e) in omega (arith, all, length-append new2.order (c ∷ []))
  where
    twice : (d : Cid) → times d (new2.order ++ c ∷ []) ≤ 1
    twice d = (elim (same_cid d c) as (λ t. same_cid d c ≡ t → times d (new2.order ++ c ∷ []) ≤ 1) [
      | true ↦ λ s.
          let here : times d (wanted q) ≡ times c (wanted q) = ap (λ (x : Cid). times x (wanted q)) (cid_is d c s) in
          let one : times d (c ∷ []) ≡ 1 = times-one d c ∙ ap (λ (t : Bool). cond {A = ℕ} t 1 0) s in
          omega (arith, once2 d, here, times_has c (wanted q) waits, one, times-append d new2.order (c ∷ []))
      | false ↦ λ s.
          let none : times d (c ∷ []) ≡ 0 = times-one d c ∙ ap (λ (t : Bool). cond {A = ℕ} t 1 0) s in
          omega (arith, once2 d, none, times-append d new2.order (c ∷ []))
    ]) refl

    inside : (d : Cid) → has d (new2.order ++ c ∷ []) ≡ true → has d new.order ≡ true
    inside d e = over (or_either (has d new2.order) (has d (c ∷ [])) (sym (list_any-append (same_cid d) new2.order (c ∷ [])) ∙ e))
      where
        over : (has d new2.order ≡ true) ⊎ (has d (c ∷ []) ≡ true) → has d new.order ≡ true
        over (inl processed) = a.whole d (so_far.within d processed)
        over (inr is) = a.whole d (come_closed found old.order start d (subst (IsComing found old.order start) (sym (same d is)) (so_far.coming c waits)) (subst (λ (x : Cid). is_found (found x) ≡ true) (sym (same d is)) good))
          where
            same : (d : Cid) → has d (c ∷ []) ≡ true → d ≡ c
            same d is = over_one (or_either (same_cid d c) false is)
              where
                over_one : (same_cid d c ≡ true) ⊎ (false ≡ true) → d ≡ c
                over_one (inl s) = cid_is d c s
                over_one (inr no_one) = absurd (true≢false (sym no_one))

-- which are missing, and which are bad

missing_is : (found : Offers) (cids : List Cid) (c : Cid) → AllNothing found cids → has c cids ≡ true → found c ≡ Nothing
missing_is found [] c all is = absurd (true≢false (sym is))
missing_is found (x ∷ cids) c all is = (elim (same_cid c x) as (λ t. same_cid c x ≡ t → (t || has c cids) ≡ true → found c ≡ Nothing) [
  | true ↦ λ s h. ap found (cid_is c x s) ∙ all.0
  | false ↦ λ s h. missing_is found cids c all.1 h
]) refl is

bad_is : (found : Offers) (bad : List (Cid × ℕ)) (c : Cid) → AllDamaged found bad → has c (bad_cids bad) ≡ true → (n : ℕ) × (found c ≡ Damaged n)
bad_is found [] c all is = absurd (true≢false (sym is))
bad_is found (b ∷ bad) c all is = (elim (same_cid c b.0) as (λ t. same_cid c b.0 ≡ t → (t || has c (bad_cids bad)) ≡ true → (n : ℕ) × (found c ≡ Damaged n)) [
  | true ↦ λ s h. (b.1, ap found (cid_is c b.0 s) ∙ all.0)
  | false ↦ λ s h. bad_is found bad c all.1 h
]) refl is

is_nothing : Found → Bool
is_nothing Nothing = true
is_nothing (Damaged number) = false
is_nothing (Good links) = false

abbrev pub IsStill : Queue → Type 0
IsStill q = (q.waiting ≡ []) × (q.flight ≡ [])

wanted_is : (q : Queue) (c : Cid) → IsStill q → has c (wanted q) ≡ (has c q.missing || has c (bad_cids q.bad))
wanted_is q c still =
    ap (λ (l : List Cid). has c (l ++ (q.flight ++ (q.missing ++ bad_cids q.bad)))) still.0
    ∙ ap (λ (l : List Cid). has c (l ++ (q.missing ++ bad_cids q.bad))) still.1
    ∙ list_any-append (same_cid c) q.missing (bad_cids q.bad)

module _ (found : Offers) (q q2 : Queue) (still : IsStill q) (fit : PartsFit found q) (still2 : IsStill q2) (fit2 : PartsFit found q2) (same : (c : Cid) → has c (wanted q) ≡ has c (wanted q2)) where
  apart : (c : Cid) → found c ≡ Nothing → ((n : ℕ) × (found c ≡ Damaged n)) → ⊥
  unfolding is_nothing
  apart c none damaged = true≢false (sym (ap is_nothing none) ∙ ap is_nothing damaged.1)

  other_missing : (c : Cid) → has c q.missing ≡ true → has c q2.missing ≡ true
  other_missing c is = over (or_either (has c q2.missing) (has c (bad_cids q2.bad)) (sym (wanted_is q2 c still2) ∙ sym (same c) ∙ wanted_is q c still ∙ or_first (has c q.missing) (has c (bad_cids q.bad)) is))
    where
      over : (has c q2.missing ≡ true) ⊎ (has c (bad_cids q2.bad) ≡ true) → has c q2.missing ≡ true
      over (inl missing) = missing
      over (inr bad) = absurd (apart c (missing_is found q.missing c fit.0 is) (bad_is found q2.bad c fit2.1 bad))

  other_bad : (c : Cid) → has c (bad_cids q.bad) ≡ true → has c (bad_cids q2.bad) ≡ true
  other_bad c is = over (or_either (has c q2.missing) (has c (bad_cids q2.bad)) (sym (wanted_is q2 c still2) ∙ sym (same c) ∙ wanted_is q c still ∙ or_second (has c q.missing) (has c (bad_cids q.bad)) is))
    where
      over : (has c q2.missing ≡ true) ⊎ (has c (bad_cids q2.bad) ≡ true) → has c (bad_cids q2.bad) ≡ true
      over (inl missing) = absurd (apart c (missing_is found q2.missing c fit2.0 missing) (bad_is found q.bad c fit.1 is))
      over (inr bad) = bad

module _ (found : Offers) (q q2 : Queue) (still : IsStill q) (fit : PartsFit found q) (still2 : IsStill q2) (fit2 : PartsFit found q2) (same : (c : Cid) → has c (wanted q) ≡ has c (wanted q2)) where
  pub missing_one : (c : Cid) → has c q.missing ≡ has c q2.missing
  missing_one c = same_test (has c q.missing) (has c q2.missing) (other_missing found q q2 still fit still2 fit2 same c) (other_missing found q2 q still2 fit2 still fit (λ c. sym (same c)) c)

  pub bad_one : (c : Cid) → has c (bad_cids q.bad) ≡ has c (bad_cids q2.bad)
  bad_one c = same_test (has c (bad_cids q.bad)) (has c (bad_cids q2.bad)) (other_bad found q q2 still fit still2 fit2 same c) (other_bad found q2 q still2 fit2 still fit (λ c. sym (same c)) c)
