-- How often an identifier is held, and what each change of the wanted set does to it.
use Rattle.std.proofs.Common.{◌≡◌, ℕ, ◌+◌, ◌≤◌, Bool, true, false, not, cond, List, [], ◌∷◌, ◌++◌, ◌||◌, sym, refl, ap, ◌∙◌, subst, inl, inr, ◌⊎◌, arith, filter}
use Rattle.std.proofs.lemmas.Bool.{or_parts, or_right, or_left, or_cases}
use Rattle.mc_base.specs.declared.cid.Cid.{Cid}
use Rattle.mc_model.specs.Front.{same_cid}
use Rattle.mc_model.specs.Graph.{times, has}
use Rattle.mc_model.specs.Wanted.{Queue, bad_cids, wanted, held, IsOnce, to_waiting, want, want_all, others, bad_others, out_of_stuck, hear, hear_all, start_first, give_back, to_missing, to_bad, requeue, without}
use Rattle.mc_model.proofs.Counts.{cid_is, cid_itself, times_has, has_times, times_none, times-append, times-one, times-filter, map-filter, map-append}

-- the four counts
pub in_parts : (q : Queue) (c : Cid) → times c (wanted q) ≡ times c q.waiting + (times c q.flight + (times c q.missing + times c (bad_cids q.bad)))
in_parts q c =
    omega (arith, times-append c q.waiting (q.flight ++ (q.missing ++ bad_cids q.bad)), times-append c q.flight (q.missing ++ bad_cids q.bad), times-append c q.missing (bad_cids q.bad))

pub to_waiting_held : (q : Queue) (c d : Cid) → times d (wanted (to_waiting q c)) ≡ times d (wanted q) + cond (same_cid d c) 1 0
to_waiting_held q c d = omega (arith, in_parts (to_waiting q c) d, in_parts q d, times-append d q.waiting (c ∷ []), times-one d c)

-- nothing is lost, and nothing comes to stand twice
pub record Grows (order : List Cid) (q r : Queue) : Type 0 where
  pub more : (d : Cid) → held order q d ≤ held order r d
  pub once : IsOnce order q → IsOnce order r

pub grows_not : (order : List Cid) (q : Queue) → Grows order q q
grows_not order q = record { more = λ d. omega arith; once = λ h. h }

pub grows_on : (order : List Cid) (q r s : Queue) → Grows order q r → Grows order r s → Grows order q s
grows_on order q r s g h = record { more = λ d. omega (arith, g.more d, h.more d); once = λ o. h.once (g.once o) }

-- the same identifiers stand in other parts
pub grows_same : (order : List Cid) (q r : Queue) → ((d : Cid) → times d (wanted r) ≡ times d (wanted q)) → Grows order q r
grows_same order q r same = record { more = λ d. omega (arith, same d); once = λ o d. omega (arith, same d, o d) }

-- want

one_itself : (c : Cid) → ◌≡◌ {A = ℕ} (cond (same_cid c c) 1 0) 1
one_itself c = ap (λ (t : Bool). cond {A = ℕ} t 1 0) (cid_itself c)

once_to_waiting : (order : List Cid) (q : Queue) (c d : Cid) → times c order ≡ 0 → times c (wanted q) ≡ 0 → held order q d ≤ 1 → held order (to_waiting q c) d ≤ 1
once_to_waiting order q c d e f o =
    elim (same_cid d c) as (λ t. same_cid d c ≡ t → times d (wanted (to_waiting q c)) ≡ times d (wanted q) + cond t 1 0 → held order (to_waiting q c) d ≤ 1) [
      | true ↦ λ s h. let same : d ≡ c = cid_is d c s in
          let none : times d order ≡ 0 = ap (λ (z : Cid). times z order) same ∙ e in
          let none' : times d (wanted q) ≡ 0 = ap (λ (z : Cid). times z (wanted q)) same ∙ f in
          omega (arith, h, none, none')
      | false ↦ λ s h. omega (arith, h, o)
    ] refl (to_waiting_held q c d)

pub grows_want : (order : List Cid) (q : Queue) (c : Cid) → Grows order q (want order q c)
grows_want order q c =
    elim (has c order || has c (wanted q)) as (λ t. (has c order || has c (wanted q)) ≡ t → Grows order q (cond t q (to_waiting q c))) [
      | true ↦ λ h. grows_not order q
      | false ↦ λ h. let none = or_parts (has c order) (has c (wanted q)) h in
          record { more = λ d. omega (arith, to_waiting_held q c d); once = λ o d. once_to_waiting order q c d (times_none c order none.0) (times_none c (wanted q) none.1) (o d) }
    ] refl

pub wanted_now : (order : List Cid) (q : Queue) (c : Cid) → 1 ≤ held order (want order q c) c
wanted_now order q c =
    elim (has c order || has c (wanted q)) as (λ t. (has c order || has c (wanted q)) ≡ t → 1 ≤ held order (cond t q (to_waiting q c)) c) [
      | true ↦ λ h. elim (or_cases (has c order) (has c (wanted q)) h) [
        | inl k ↦ omega (arith, times_has c order k)
        | inr k ↦ omega (arith, times_has c (wanted q) k)
      ]
      | false ↦ λ h. omega (arith, to_waiting_held q c c, one_itself c)
    ] refl

pub grows_want_all : (order : List Cid) (q : Queue) (cids : List Cid) → Grows order q (want_all order q cids)
grows_want_all order q [] = grows_not order q
grows_want_all order q (c ∷ cids) = grows_on order q (want order q c) _ (grows_want order q c) (grows_want_all order (want order q c) cids)

pub all_wanted : (order : List Cid) (q : Queue) (cids : List Cid) (c : Cid) → has c cids ≡ true → 1 ≤ held order (want_all order q cids) c
all_wanted order q [] c e = absurd (cc)
all_wanted order q (x ∷ cids) c e =
    elim (or_cases (same_cid c x) (has c cids) e) [
      | inl h ↦ subst (λ (z : Cid). 1 ≤ held order (want_all order (want order q x) cids) z) (sym (cid_is c x h))
          (omega (arith, wanted_now order q x, (grows_want_all order (want order q x) cids).more x))
      | inr h ↦ all_wanted order (want order q x) cids c h
    ]

-- a move from part to part

pub others_times : (c d : Cid) (xs : List Cid) → times d (others xs c) ≡ cond (not (same_cid d c)) (times d xs) 0
others_times c d xs = times-filter d (λ e. not (same_cid e c)) xs

bad_others_cids : (c : Cid) (bad : List (Cid × ℕ)) → bad_cids (bad_others bad c) ≡ others (bad_cids bad) c
bad_others_cids c bad = map-filter (λ e. not (same_cid e c)) bad

others_two : (xs ys : List Cid) (c d : Cid) → 1 ≤ times c xs + times c ys → times c xs + times c ys ≤ 1
    → times d (others xs c) + times d (others ys c) + times d (c ∷ []) ≡ times d xs + times d ys
others_two xs ys c d some once =
    elim (same_cid d c) as (λ t. same_cid d c ≡ t → times d (others xs c) ≡ cond (not t) (times d xs) 0 → times d (others ys c) ≡ cond (not t) (times d ys) 0 → times d (c ∷ []) ≡ cond t 1 0 → times d (others xs c) + times d (others ys c) + times d (c ∷ []) ≡ times d xs + times d ys) [
      | true ↦ λ s h k l.
          let same : d ≡ c = cid_is d c s in
          let first : times d xs ≡ times c xs = ap (λ (z : Cid). times z xs) same in
          let second : times d ys ≡ times c ys = ap (λ (z : Cid). times z ys) same in
          omega (arith, h, k, l, first, second, some, once)
      | false ↦ λ s h k l. omega (arith, h, k, l)
    ] refl (others_times c d xs) (others_times c d ys) (times-one d c)

others_one : (xs : List Cid) (c d : Cid) → has c xs ≡ true → times c xs ≤ 1 → times d (others xs c) + times d (c ∷ []) ≡ times d xs
others_one xs c d e once =
    let two : times d (others xs c) + 0 + times d (c ∷ []) ≡ times d xs + 0 = others_two xs [] c d (omega (arith, times_has c xs e)) (omega (arith, once)) in
    omega (arith, two)

in_flight_once : (order : List Cid) (q : Queue) (c : Cid) → IsOnce order q → times c q.flight ≤ 1
in_flight_once order q c once = omega (arith, once c, in_parts q c)

pub same_give_back : (order : List Cid) (q : Queue) (c : Cid) → IsOnce order q → has c q.flight ≡ true → (d : Cid) → times d (wanted (give_back q c)) ≡ times d (wanted q)
same_give_back order q c once e d = (
    omega (arith, in_parts (give_back q c) d, in_parts q d, times-append d q.waiting (c ∷ []), others_one q.flight c d e (in_flight_once order q c once)))

pub same_to_missing : (order : List Cid) (q : Queue) (c : Cid) → IsOnce order q → has c q.flight ≡ true → (d : Cid) → times d (wanted (to_missing q c)) ≡ times d (wanted q)
same_to_missing order q c once e d = (
    omega (arith, in_parts (to_missing q c) d, in_parts q d, times-append d q.missing (c ∷ []), others_one q.flight c d e (in_flight_once order q c once)))

pub same_to_bad : (order : List Cid) (q : Queue) (c : Cid) (damage : ℕ) → IsOnce order q → has c q.flight ≡ true → (d : Cid) → times d (wanted (to_bad q c damage)) ≡ times d (wanted q)
same_to_bad order q c damage once e d = (
    let bad : times d (bad_cids (q.bad ++ (c, damage) ∷ [])) ≡ times d (bad_cids q.bad ++ c ∷ []) = ap (times d) (map-append q.bad ((c, damage) ∷ [])) in
    omega (arith, in_parts (to_bad q c damage) d, in_parts q d, bad, times-append d (bad_cids q.bad) (c ∷ []), others_one q.flight c d e (in_flight_once order q c once)))

pub same_requeue : (q : Queue) (d : Cid) → times d (wanted (requeue q)) ≡ times d (wanted q)
same_requeue q d = (
    omega (arith, in_parts (requeue q) d, in_parts q d, times-append d q.waiting (q.missing ++ bad_cids q.bad), times-append d q.missing (bad_cids q.bad)))

start_parts : (q : Queue) (waiting : List Cid) (d : Cid) → q.waiting ≡ waiting → times d (wanted (start_first q waiting)) ≡ times d (wanted q)
start_parts q [] d e = refl
start_parts q (c ∷ rest) d e =
    let now : Queue = start_first q (c ∷ rest) in
    let front : times d q.waiting ≡ times d (c ∷ []) + times d rest = ap (times d) e ∙ times-append d (c ∷ []) rest in
    omega (arith, in_parts (start_first q (c ∷ rest)) d, in_parts q d, times-append d q.flight (c ∷ []), front)

pub same_start : (q : Queue) (d : Cid) → times d (wanted (start_first q q.waiting)) ≡ times d (wanted q)
same_start q d = start_parts q q.waiting d refl

-- for a message, each in turn

grows_unstuck : (order : List Cid) (q : Queue) (c : Cid) → IsOnce order q → (has c q.missing || has c (bad_cids q.bad)) ≡ true → Grows order q (to_waiting (out_of_stuck q c) c)
grows_unstuck order q c once e = grows_same order q (to_waiting (out_of_stuck q c) c) (λ d.
    let bad : times d (bad_cids (bad_others q.bad c)) ≡ times d (others (bad_cids q.bad) c) = ap (times d) (bad_others_cids c q.bad) in
    omega (
      arith,
      in_parts (to_waiting (out_of_stuck q c) c) d,
      in_parts q d,
      bad,
      times-append d q.waiting (c ∷ []),
      others_two q.missing (bad_cids q.bad) c d some (omega (arith, once c, in_parts q c)),
    ))
  where
    some : 1 ≤ times c q.missing + times c (bad_cids q.bad)
    some = elim (or_cases (has c q.missing) (has c (bad_cids q.bad)) e) [ inl h ↦ omega (arith, times_has c q.missing h) | inr h ↦ omega (arith, times_has c (bad_cids q.bad) h) ]

pub grows_hear : (order : List Cid) (q : Queue) (c : Cid) → IsOnce order q → Grows order q (hear order q c)
grows_hear order q c once =
    elim (has c q.missing || has c (bad_cids q.bad)) as (λ t. (has c q.missing || has c (bad_cids q.bad)) ≡ t → Grows order q (cond t (to_waiting (out_of_stuck q c) c) (want order q c))) [
      | true ↦ λ h. grows_unstuck order q c once h
      | false ↦ λ h. grows_want order q c
    ] refl

pub grows_hear_all : (order : List Cid) (q : Queue) (cids : List Cid) → IsOnce order q → Grows order q (hear_all order q cids)
grows_hear_all order q [] once = grows_not order q
grows_hear_all order q (c ∷ cids) once =
    let first = grows_hear order q c once in
    grows_on order q (hear order q c) _ first (grows_hear_all order (hear order q c) cids (first.once once))

-- what is processed is wanted no more

without_times : (q : Queue) (cids : List Cid) (d : Cid) → times d (wanted (without q cids)) ≡ cond (has d cids) 0 (times d (wanted q))
without_times q cids d =
    let bad : times d (bad_cids (without q cids).bad) ≡ times d (filter (λ e. not (has e cids)) (bad_cids q.bad)) = ap (times d) (map-filter (λ e. not (has e cids)) q.bad) in
    elim (has d cids) as (λ t.
    times d (without q cids).waiting ≡ cond (not t) (times d q.waiting) 0
    → times d (without q cids).flight ≡ cond (not t) (times d q.flight) 0
    → times d (without q cids).missing ≡ cond (not t) (times d q.missing) 0
    → times d (bad_cids (without q cids).bad) ≡ cond (not t) (times d (bad_cids q.bad)) 0
    → times d (wanted (without q cids)) ≡ cond t 0 (times d (wanted q))) [
      | true ↦ λ a b c e. omega (arith, in_parts (without q cids) d, a, b, c, e)
      | false ↦ λ a b c e. omega (arith, in_parts (without q cids) d, in_parts q d, a, b, c, e)
    ] (times-filter d (λ e. not (has e cids)) q.waiting) (times-filter d (λ e. not (has e cids)) q.flight) (times-filter d (λ e. not (has e cids)) q.missing) (bad ∙ times-filter d (λ e. not (has e cids)) (bad_cids q.bad))

-- the two lists after a Process, before its links are wanted
pub record Taken (order : List Cid) (q : Queue) (cids : List Cid) : Type 0 where
  pub more : (d : Cid) → held order q d ≤ held (order ++ cids) (without q cids) d
  pub once : IsOnce (order ++ cids) (without q cids)

pub taken : (order : List Cid) (q : Queue) (cids : List Cid) → IsOnce order q → ((c : Cid) → times c order + times c cids ≤ 1) → Taken order q cids
taken order q cids once apart = record { more = λ d. (both d).0; once = λ d. (both d).1 }
  where
    both : (d : Cid) → (held order q d ≤ held (order ++ cids) (without q cids) d) × (held (order ++ cids) (without q cids) d ≤ 1)
    both d =
        elim (has d cids) as (λ t. has d cids ≡ t → times d (wanted (without q cids)) ≡ cond t 0 (times d (wanted q)) → (held order q d ≤ held (order ++ cids) (without q cids) d) × (held (order ++ cids) (without q cids) d ≤ 1)) [
          | true ↦ λ s h. (omega (arith, h, times-append d order cids, times_has d cids s, once d), omega (arith, h, times-append d order cids, apart d))
          | false ↦ λ s h. (omega (arith, h, times-append d order cids), omega (arith, h, times-append d order cids, times_none d cids s, once d))
        ] refl (without_times q cids d)

-- where the wanted ones come from

pub want_from : (order : List Cid) (q : Queue) (x c : Cid) → has c (wanted (want order q x)) ≡ true → (has c (wanted q) ≡ true) ⊎ (same_cid c x ≡ true)
want_from order q x c e =
    elim (has x order || has x (wanted q)) as (λ t. has c (wanted (cond t q (to_waiting q x))) ≡ true → (has c (wanted q) ≡ true) ⊎ (same_cid c x ≡ true)) [
      | true ↦ λ h. inl h
      | false ↦ λ h. elim (same_cid c x) as (λ t. times c (wanted (to_waiting q x)) ≡ times c (wanted q) + cond t 1 0 → (has c (wanted q) ≡ true) ⊎ (t ≡ true)) [
        | true ↦ λ k. inr refl
        | false ↦ λ k. inl (has_times c (wanted q) (omega (arith, k, times_has c (wanted (to_waiting q x)) h)))
      ] (to_waiting_held q x c)
    ] e

pub want_all_from : (order : List Cid) (q : Queue) (cids : List Cid) (c : Cid) → has c (wanted (want_all order q cids)) ≡ true → (has c (wanted q) ≡ true) ⊎ (has c cids ≡ true)
want_all_from order q [] c e = inl e
want_all_from order q (x ∷ cids) c e =
    elim (want_all_from order (want order q x) cids c e) [
      | inl h ↦ elim (want_from order q x c h) [ inl k ↦ inl k | inr k ↦ inr (or_left (same_cid c x) (has c cids) k) ]
      | inr h ↦ inr (or_right (same_cid c x) (has c cids) h)
    ]

pub without_from : (q : Queue) (cids : List Cid) (c : Cid) → has c (wanted (without q cids)) ≡ true → has c (wanted q) ≡ true
without_from q cids c e =
    elim (has c cids) as (λ t. times c (wanted (without q cids)) ≡ cond t 0 (times c (wanted q)) → has c (wanted q) ≡ true) [
      | true ↦ λ h. absurd (omega (arith, h, times_has c (wanted (without q cids)) e))
      | false ↦ λ h. has_times c (wanted q) (omega (arith, h, times_has c (wanted (without q cids)) e))
    ] (without_times q cids c)
