-- The moves as functions of the four lists.
use Rattle.std.proofs.Common.{◌≡◌, ℕ, suc, ◌+◌, ◌≤◌, ◌<◌, inl, inr, Bool, true, false, not, cond, List, [], ◌∷◌, ◌++◌, ◌||◌, Option, Some, None, sym, refl, ap, ◌∙◌, subst, arith, length}
use Rattle.std.specs.Prelude.{is_some}
use Rattle.std.proofs.lemmas.List.{append_assoc, append-nil}
use Rattle.std.proofs.lemmas.Bool.{or_left, or_cases}
use Rattle.mc_base.specs.declared.cid.Cid.{Cid}
use Rattle.mc_model.specs.Front.{same_cid}
use Rattle.mc_model.specs.Graph.{times, has}
use Rattle.mc_model.specs.Wanted.{Queue, bad_cids, wanted, others, bad_others, to_waiting, start_first, give_back, to_missing, to_bad, out_of_stuck, hear, want}
use Rattle.mc_model.proofs.Counts.{cid_itself, same_cid-symm, times_has, times_none, map-filter, has-append}
use Rattle.mc_model.proofs.Held.{in_parts}
use Rattle.mc_queue.specs.declared.part.Part.{Part}
use Rattle.mc_queue.specs.declared.part.Part.TheVariants.{Waiting, Flight, Missing, Bad}
use Rattle.mc_queue.specs.Parts.{same_part, first_of}
use Rattle.mc_queue.specs.Fits.{moved}
use Rattle.mc_queue.specs.Shown.{cids_of, drained}
use Rattle.mc_queue.proofs.EntryFacts.{no_true}

-- lists

others_none : (xs : List Cid) (c : Cid) → times c xs ≡ 0 → others xs c ≡ xs
others_none [] c e = refl
others_none (x ∷ xs) c e =
    elim (same_cid c x) as (λ t. same_cid c x ≡ t → cond t (1 + times c xs) (times c xs) ≡ 0 → cond (not (same_cid x c)) (x ∷ others xs c) (others xs c) ≡ x ∷ xs) [
      | true ↦ λ s k. absurd (omega (arith, k))
      | false ↦ λ s k. ap (λ t. cond (not t) (x ∷ others xs c) (others xs c)) (same_cid-symm x c ∙ s) ∙ ap (λ rest. x ∷ rest) (others_none xs c k)
    ] refl e

bad_others_none : (xs : List (Cid × ℕ)) (c : Cid) → times c (bad_cids xs) ≡ 0 → bad_others xs c ≡ xs
bad_others_none [] c e = refl
bad_others_none (x ∷ xs) c e =
    elim (same_cid c x.0) as (λ t. same_cid c x.0 ≡ t → cond t (1 + times c (bad_cids xs)) (times c (bad_cids xs)) ≡ 0 → cond (not (same_cid x.0 c)) (x ∷ bad_others xs c) (bad_others xs c) ≡ x ∷ xs) [
      | true ↦ λ s k. absurd (omega (arith, k))
      | false ↦ λ s k. ap (λ t. cond {A = List (Cid × ℕ)} (not t) (x ∷ bad_others xs c) (bad_others xs c)) (same_cid-symm x.0 c ∙ s) ∙ ap (λ (rest : List (Cid × ℕ)). x ∷ rest) (bad_others_none xs c k)
    ] refl e

has_not : (xs : List Cid) (c : Cid) → times c xs ≡ 0 → has c xs ≡ false
has_not xs c e = elim (has c xs) as (λ t. has c xs ≡ t → t ≡ false) [ true ↦ λ h. absurd (omega (arith, e, times_has c xs h)) | false ↦ λ h. refl ] refl

no_first : (c : Cid) → ◌≡◌ {A = Option Cid} None (Some c) → ⊥
no_first c e = absurd (let f : false ≡ true = ap is_some e in cc)

no_list : (c : Cid) (cids : List Cid) → ◌≡◌ {A = List Cid} (c ∷ cids) [] → ⊥
no_list c cids e = absurd (let n : suc (length cids) ≡ 0 = ap length e in omega (arith, n))

some_is : (x c : Cid) → Some x ≡ Some c → x ≡ c
some_is x c e = cc

-- the first of a list in which it stands once

first_gone : (xs : List Cid) (c : Cid) → first_of xs ≡ Some c → times c xs ≤ 1 → c ∷ others xs c ≡ xs
first_gone [] c f once = absurd (no_first c f)
first_gone (x ∷ xs) c f once = subst (λ (z : Cid). times z (x ∷ xs) ≤ 1 → z ∷ others (x ∷ xs) z ≡ x ∷ xs) (some_is x c f) (first x xs) once
  where
    first : (x : Cid) (xs : List Cid) → times x (x ∷ xs) ≤ 1 → x ∷ others (x ∷ xs) x ≡ x ∷ xs
    first x xs once =
        let front : times x (x ∷ xs) ≡ 1 + times x xs = ap (λ (t : Bool). cond t (1 + times x xs) (times x xs)) (cid_itself x) in
        ap (λ rest. x ∷ rest) (ap (λ t. cond (not t) (x ∷ others xs x) (others xs x)) (cid_itself x) ∙ others_none xs x (omega (arith, front, once)))

first_has : (xs : List Cid) (c : Cid) → first_of xs ≡ Some c → has c xs ≡ true
first_has [] c f = absurd (no_first c f)
first_has (x ∷ xs) c f = or_left (same_cid c x) (has c xs) (let e : x ≡ c = some_is x c f in ap (same_cid c) e ∙ cid_itself c)

-- what is once in one part is not in another
alone : (a b : Part) (n : Part → ℕ) → same_part a b ≡ false → n Waiting + (n Flight + (n Missing + n Bad)) ≤ 1 → 1 ≤ n a → n b ≡ 0
alone Waiting Waiting n apart sum some = absurd (no_true (sym apart))
alone Flight Flight n apart sum some = absurd (no_true (sym apart))
alone Missing Missing n apart sum some = absurd (no_true (sym apart))
alone Bad Bad n apart sum some = absurd (no_true (sym apart))
alone a b n apart sum some = omega (arith, sum, some)

-- a block that is in one part, and nowhere else
module _ (q : Queue) (c : Cid) (once : times c (wanted q) ≤ 1) (from : Part) (within : has c (cids_of from q) ≡ true) where
  gone : (part : Part) → same_part from part ≡ false → times c (cids_of part q) ≡ 0
  gone part apart = alone from part (λ part. times c (cids_of part q)) apart (omega (arith, once, in_parts q c)) (times_has c (cids_of from q) within)

  stays : (part : Part) → same_part from part ≡ false → others (cids_of part q) c ≡ cids_of part q
  stays part apart = others_none (cids_of part q) c (gone part apart)

  bad_stays : same_part from Bad ≡ false → bad_others q.bad c ≡ q.bad
  bad_stays apart = bad_others_none q.bad c (gone Bad apart)

  is_out : (part : Part) → same_part from part ≡ false → has c (cids_of part q) ≡ false
  is_out part apart = has_not (cids_of part q) c (gone part apart)

  -- whether a heard block comes to waiting
  pub came_stuck : same_part from Waiting ≡ false → same_part from Flight ≡ false → true ≡ not (has c q.waiting || has c q.flight)
  came_stuck waiting flight = sym (ap (λ b. not (b || has c q.flight)) (is_out Waiting waiting) ∙ ap (λ b. not b) (is_out Flight flight))

once_in : (q : Queue) (c : Cid) (part : Part) → times c (wanted q) ≤ 1 → times c (cids_of part q) ≤ 1
once_in q c Waiting once = omega (arith, once, in_parts q c)
once_in q c Flight once = omega (arith, once, in_parts q c)
once_in q c Missing once = omega (arith, once, in_parts q c)
once_in q c Bad once = omega (arith, once, in_parts q c)

-- the calls

start_is : (q : Queue) (c : Cid) → times c (wanted q) ≤ 1 → first_of q.waiting ≡ Some c → moved (Some Flight) q c 0 ≡ start_first q q.waiting
start_is q c once f =
    let within = first_has q.waiting c f in
    let gone : c ∷ others q.waiting c ≡ q.waiting = first_gone q.waiting c f (once_in q c Waiting once) in
    let flight = stays q c once Waiting within Flight refl in
    let missing = stays q c once Waiting within Missing refl in
    let bad = bad_stays q c once Waiting within refl in
    let now : moved (Some Flight) q c 0 ≡ start_first q (c ∷ others q.waiting c) = λ i. record { waiting = others q.waiting c; flight = flight i ++ c ∷ []; missing = missing i; bad = bad i } in
    now ∙ ap (start_first q) gone

-- the first block that waits
pub next_is : (q now : Queue) (c : Cid) → first_of q.waiting ≡ Some c → times c (wanted q) ≤ 1 → now ≡ moved (Some Flight) q c 0 → now ≡ start_first q q.waiting
next_is q now c f once e = e ∙ start_is q c once f

-- a block leaves flight, where it is in it

where_it_is : (b : Bool) (now target q : Queue) → (b ≡ true → now ≡ target) → cond b now q ≡ cond b target q
where_it_is true now target q same = same refl
where_it_is false now target q same = refl

module _ (q : Queue) (c : Cid) (once : has c q.flight ≡ true → times c (wanted q) ≤ 1) where
  waits : has c q.flight ≡ true → others q.waiting c ≡ q.waiting
  waits within = stays q c (once within) Flight within Waiting refl

  misses : has c q.flight ≡ true → others q.missing c ≡ q.missing
  misses within = stays q c (once within) Flight within Missing refl

  is_bad : has c q.flight ≡ true → bad_others q.bad c ≡ q.bad
  is_bad within = bad_stays q c (once within) Flight within refl

  pub back_is : cond (has c q.flight) (moved (Some Waiting) q c 0) q ≡ cond (has c q.flight) (give_back q c) q
  back_is = where_it_is (has c q.flight) (moved (Some Waiting) q c 0) (give_back q c) q (λ within i. record { waiting = waits within i ++ c ∷ []; flight = others q.flight c; missing = misses within i; bad = is_bad within i })

  pub missing_is : cond (has c q.flight) (moved (Some Missing) q c 0) q ≡ cond (has c q.flight) (to_missing q c) q
  missing_is = where_it_is (has c q.flight) (moved (Some Missing) q c 0) (to_missing q c) q (λ within i. record { waiting = waits within i; flight = others q.flight c; missing = misses within i ++ c ∷ []; bad = is_bad within i })

  pub bad_is : (damage : ℕ) → has c q.flight ≡ true → moved (Some Bad) q c damage ≡ cond (has c q.flight) (to_bad q c damage) q
  bad_is damage within = ap (λ b. cond b (moved (Some Bad) q c damage) q) (sym within)
      ∙ where_it_is (has c q.flight) (moved (Some Bad) q c damage) (to_bad q c damage) q (λ within i. record { waiting = waits within i; flight = others q.flight c; missing = misses within i; bad = is_bad within i ++ (c, damage) ∷ [] })

-- a block that is in no part leaves none
pub absent_is : (q : Queue) (c : Cid) → has c (wanted q) ≡ false → q ≡ moved None q c 0
absent_is q c out = λ i. record { waiting = list q.waiting (omega (arith, none, in_parts q c)) i; flight = list q.flight (omega (arith, none, in_parts q c)) i; missing = list q.missing (omega (arith, none, in_parts q c)) i; bad = bad i }
  where
    none : times c (wanted q) ≡ 0
    none = times_none c (wanted q) out

    list : (xs : List Cid) → times c xs ≡ 0 → xs ≡ others xs c
    list xs e = sym (others_none xs c e)

    bad : q.bad ≡ bad_others q.bad c
    bad = sym (bad_others_none q.bad c (omega (arith, none, in_parts q c)))

-- a block is named

has_parts : (q : Queue) (c : Cid) → has c (wanted q) ≡ (has c q.waiting || (has c q.flight || (has c q.missing || has c (bad_cids q.bad))))
has_parts q c =
    has-append c q.waiting (q.flight ++ (q.missing ++ bad_cids q.bad)) ∙ ap (λ b. has c q.waiting || b) (has-append c q.flight (q.missing ++ bad_cids q.bad) ∙ ap (λ b. has c q.flight || b) (has-append c q.missing (bad_cids q.bad)))

-- what is missing or bad is heard of
module _ (q : Queue) (c : Cid) (once : times c (wanted q) ≤ 1) (stuck : (has c q.missing || has c (bad_cids q.bad)) ≡ true) where
  out_of : (from : Part) → has c (cids_of from q) ≡ true → same_part from Waiting ≡ false → same_part from Flight ≡ false
      → (others q.waiting c ≡ q.waiting) × (others q.flight c ≡ q.flight) × (true ≡ not (has c q.waiting || has c q.flight))
  out_of from within waiting flight = (stays q c once from within Waiting waiting, stays q c once from within Flight flight, came_stuck q c once from within waiting flight)

  stuck_out : (others q.waiting c ≡ q.waiting) × (others q.flight c ≡ q.flight) × (true ≡ not (has c q.waiting || has c q.flight))
  stuck_out = elim (or_cases (has c q.missing) (has c (bad_cids q.bad)) stuck) [ inl h ↦ out_of Missing h refl refl | inr h ↦ out_of Bad h refl refl ]

  pub hear_stuck : moved (Some Waiting) q c 0 ≡ hear [] q c
  hear_stuck =
      let now : moved (Some Waiting) q c 0 ≡ to_waiting (out_of_stuck q c) c = λ i. record { waiting = stuck_out.0 i ++ c ∷ []; flight = stuck_out.1 i; missing = others q.missing c; bad = bad_others q.bad c } in
      now ∙ ap (λ (b : Bool). cond b (to_waiting (out_of_stuck q c) c) (want [] q c)) (sym stuck)

  pub came_out : true ≡ not (has c q.waiting || has c q.flight)
  came_out = stuck_out.2

-- what waits or is in flight is heard of in vain
module _ (q : Queue) (c : Cid) (there : has c (wanted q) ≡ true) (free : (has c q.missing || has c (bad_cids q.bad)) ≡ false) where
  pub hear_not : q ≡ hear [] q c
  hear_not = ap (λ (b : Bool). cond b q (to_waiting q c)) (sym there) ∙ ap (λ (b : Bool). cond b (to_waiting (out_of_stuck q c) c) (want [] q c)) (sym free)

  pub came_not : false ≡ not (has c q.waiting || has c q.flight)
  came_not = sym (ap not (first_two (has c q.waiting) (has c q.flight) (has c q.missing || has c (bad_cids q.bad)) (sym (has_parts q c) ∙ there) free))
    where
      first_two : (a b rest : Bool) → (a || (b || rest)) ≡ true → rest ≡ false → (a || b) ≡ true
      first_two true b rest e f = refl
      first_two false true rest e f = refl
      first_two false false rest e f = sym f ∙ e

-- a part is emptied into waiting

joined : (ws fs : List Cid) (c : Cid) → others ws c ≡ ws → c ∷ others fs c ≡ fs → (others ws c ++ c ∷ []) ++ others fs c ≡ ws ++ fs
joined ws fs c e f = ap (λ z. (z ++ c ∷ []) ++ others fs c) e ∙ append_assoc ws (c ∷ []) (others fs c) ∙ ap (λ z. ws ++ z) f

bad_cids_others : (c : Cid) (bad : List (Cid × ℕ)) → bad_cids (bad_others bad c) ≡ others (bad_cids bad) c
bad_cids_others c bad = map-filter (λ e. not (same_cid e c)) bad

shorter : (xs : List Cid) (c : Cid) → c ∷ others xs c ≡ xs → length (others xs c) < length xs
shorter xs c e = let n : suc (length (others xs c)) ≡ length xs = ap length e in omega (arith, n)

-- the first of a part comes to waiting
module _ (q : Queue) (c : Cid) (once : times c (wanted q) ≤ 1) where
  step : (from : Part) → same_part from Waiting ≡ false → first_of (cids_of from q) ≡ Some c → (others q.waiting c ++ c ∷ []) ++ others (cids_of from q) c ≡ q.waiting ++ cids_of from q
  step from apart f = joined q.waiting (cids_of from q) c (stays q c once from (first_has (cids_of from q) c f) Waiting apart) (first_gone (cids_of from q) c f (once_in q c from once))

  pub drain_step : (from : Part) → same_part from Waiting ≡ false → first_of (cids_of from q) ≡ Some c → drained from (moved (Some Waiting) q c 0) ≡ drained from q
  drain_step Waiting apart f = absurd (no_true (sym apart))
  drain_step Flight apart f =
      let within = first_has q.flight c f in
      let all = step Flight apart f in
      let missing = stays q c once Flight within Missing refl in
      let bad = bad_stays q c once Flight within refl in
      λ i. record { waiting = all i; flight = []; missing = missing i; bad = bad i }
  drain_step Missing apart f =
      let within = first_has q.missing c f in
      let all = step Missing apart f in
      let flight = stays q c once Missing within Flight refl in
      let bad = bad_stays q c once Missing within refl in
      λ i. record { waiting = all i; flight = flight i; missing = []; bad = bad i }
  drain_step Bad apart f =
      let within = first_has (bad_cids q.bad) c f in
      let all = ap (λ z. (others q.waiting c ++ c ∷ []) ++ z) (bad_cids_others c q.bad) ∙ step Bad apart f in
      let flight = stays q c once Bad within Flight refl in
      let missing = stays q c once Bad within Missing refl in
      λ i. record { waiting = all i; flight = flight i; missing = missing i; bad = [] }

  pub drain_less : (from : Part) → same_part from Waiting ≡ false → first_of (cids_of from q) ≡ Some c → length (cids_of from (moved (Some Waiting) q c 0)) < length (cids_of from q)
  drain_less Waiting apart f = absurd (no_true (sym apart))
  drain_less Flight apart f = shorter q.flight c (first_gone q.flight c f (once_in q c Flight once))
  drain_less Missing apart f = shorter q.missing c (first_gone q.missing c f (once_in q c Missing once))
  drain_less Bad apart f =
      let less = shorter (bad_cids q.bad) c (first_gone (bad_cids q.bad) c f (once_in q c Bad once)) in omega (arith, less, ap length (bad_cids_others c q.bad))

bad_none : (xs : List (Cid × ℕ)) → bad_cids xs ≡ [] → xs ≡ []
bad_none [] e = refl
bad_none (x ∷ xs) e = absurd (no_list x.0 (bad_cids xs) e)

pub drain_end : (from : Part) (q : Queue) → cids_of from q ≡ [] → same_part from Waiting ≡ false → q ≡ drained from q
drain_end Waiting q e apart = refl
drain_end Flight q e apart =
    let waiting : q.waiting ≡ q.waiting ++ q.flight = sym (ap (λ z. q.waiting ++ z) e ∙ append-nil q.waiting) in λ i. record { waiting = waiting i; flight = e i; missing = q.missing; bad = q.bad }
drain_end Missing q e apart =
    let waiting : q.waiting ≡ q.waiting ++ q.missing = sym (ap (λ z. q.waiting ++ z) e ∙ append-nil q.waiting) in λ i. record { waiting = waiting i; flight = q.flight; missing = e i; bad = q.bad }
drain_end Bad q e apart =
    let waiting : q.waiting ≡ q.waiting ++ bad_cids q.bad = sym (ap (λ z. q.waiting ++ z) e ∙ append-nil q.waiting) in
    let bad = bad_none q.bad e in λ i. record { waiting = waiting i; flight = q.flight; missing = q.missing; bad = bad i }
