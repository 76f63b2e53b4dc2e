-- What is in flight comes back one after another.
use Rattle.std.proofs.Common.{◌≡◌, ◌+◌, ◌≤◌, Bool, true, false, not, cond, List, [], ◌∷◌, ◌++◌, sym, refl, ap, ◌∙◌, subst, arith, Some}
use Rattle.std.proofs.lemmas.List.{append_assoc, append-nil}
use Rattle.std.proofs.lemmas.Bool.{or_left}
use Rattle.mc_base.specs.declared.cid.Cid.{Cid}
use Rattle.mc_model.specs.Draining.{FoundBytes, TakesAll, AllSayRight, all_given_back}
use Rattle.mc_model.specs.Events.{GiveBack, MayComeAll, happens, after, Goes}
use Rattle.mc_model.specs.Found.{Offers}
use Rattle.mc_model.specs.Front.{same_cid}
use Rattle.mc_model.specs.Graph.{times, has}
use Rattle.mc_model.specs.State.{Durable, Running, State}
use Rattle.mc_model.specs.Wanted.{Queue, IsOnce, others, give_back, recall}
use Rattle.mc_model.proofs.Counts.{cid_is, cid_itself, times_has}
use Rattle.mc_model.proofs.Held.{in_parts}

-- a list without the block is itself where the block isn't there
others_none : (xs : List Cid) (c : Cid) → times c xs ≡ 0 → others xs c ≡ xs
others_none [] c e = refl
others_none (x ∷ xs) c e =
    elim (same_cid x c) as (λ t. same_cid x c ≡ t → cond (not t) (x ∷ others xs c) (others xs c) ≡ x ∷ xs) [
      | true ↦ λ s. absurd (here s)
      | false ↦ λ s. ap (λ rest. x ∷ rest) (others_none xs c rest)
    ] refl
  where
    here : same_cid x c ≡ true → ⊥
    here s = let first : same_cid c x ≡ true = ap (same_cid c) (cid_is x c s) ∙ cid_itself c in omega (arith, e, times_has c (x ∷ xs) (or_left (same_cid c x) (has c xs) first))

    rest : times c xs ≡ 0
    rest = elim (same_cid c x) as (λ t. cond t (1 + times c xs) (times c xs) ≡ 0 → times c xs ≡ 0) [
      | true ↦ λ h. omega (arith, h)
      | false ↦ λ h. h
    ] e

others_first : (xs : List Cid) (c : Cid) → times c (c ∷ xs) ≤ 1 → others (c ∷ xs) c ≡ xs
others_first xs c once =
    ap (λ t. cond (not t) (c ∷ others xs c) (others xs c)) (cid_itself c)
    ∙ others_none xs c (let front : times c (c ∷ xs) ≡ 1 + times c xs = ap (λ (t : Bool). cond t (1 + times c xs) (times c xs)) (cid_itself c) in omega (arith, front, once))

abbrev with_parts : Queue → List Cid → List Cid → Queue
with_parts q waiting flight = record q { waiting = waiting; flight = flight }

abbrev running : Durable → Running → Queue → State
running durable run q = record { durable = durable; run = Some (record run { queue = q }) }

-- all but the first
others_rest : (c : Cid) (flight : List Cid) → ((d : Cid) → times d (c ∷ flight) ≤ 1) → (d : Cid) → times d flight ≤ 1
others_rest c flight once d = elim (same_cid d c) as (λ t. cond t (1 + times d flight) (times d flight) ≤ 1 → times d flight ≤ 1) [
  | true ↦ λ k. omega (arith, k)
  | false ↦ λ k. k
] (once d)

module _ (durable : Durable) (run : Running) (q : Queue) where
  -- the first one is given back
  first_back : (c : Cid) (flight waiting : List Cid) → times c (c ∷ flight) ≤ 1
      → happens (running durable run (with_parts q waiting (c ∷ flight))) (GiveBack c) ≡ running durable run (with_parts q (waiting ++ c ∷ []) flight)
  first_back c flight waiting once = ap (λ rest. running durable run (with_parts q (waiting ++ c ∷ []) rest)) (others_first flight c once)

  back_may : (flight waiting : List Cid) → ((c : Cid) → times c flight ≤ 1) → MayComeAll (running durable run (with_parts q waiting flight)) (all_given_back flight)
  back_may [] waiting once = tt
  back_may (c ∷ flight) waiting once = (
    or_left (same_cid c c) (has c flight) (cid_itself c),
    subst (λ (s : State). MayComeAll s (all_given_back flight)) (sym (first_back c flight waiting (once c))) (back_may flight (waiting ++ c ∷ []) (others_rest c flight once)),
  )

  back_is : (flight waiting : List Cid) → ((c : Cid) → times c flight ≤ 1)
      → after (running durable run (with_parts q waiting flight)) (all_given_back flight) ≡ running durable run (with_parts q (waiting ++ flight) [])
  back_is [] waiting once = ap (λ front. running durable run (with_parts q front [])) (sym (append-nil waiting))
  back_is (c ∷ flight) waiting once =
      ap (λ (s : State). after s (all_given_back flight)) (first_back c flight waiting (once c))
      ∙ back_is flight (waiting ++ c ∷ []) (others_rest c flight once)
      ∙ ap (λ front. running durable run (with_parts q front [])) (append_assoc waiting (c ∷ []) flight)

in_flight : (durable : Durable) (run : Running) → IsOnce durable.order run.queue → (c : Cid) → times c run.queue.flight ≤ 1
in_flight durable run once c = omega (arith, once c, in_parts run.queue c)

-- a recall is that each comes back in its order
pub recall_may : (durable : Durable) (run : Running) → IsOnce durable.order run.queue → MayComeAll (record { durable = durable; run = Some run }) (all_given_back run.queue.flight)
recall_may durable run once = back_may durable run run.queue run.queue.flight run.queue.waiting (in_flight durable run once)

pub recall_is : (durable : Durable) (run : Running) → IsOnce durable.order run.queue
    → after (record { durable = durable; run = Some run }) (all_given_back run.queue.flight) ≡ record { durable = durable; run = Some (record run { queue = recall run.queue }) }
recall_is durable run once = back_is durable run run.queue run.queue.flight run.queue.waiting (in_flight durable run once)

pub recall_goes : (durable : Durable) (run : Running) → IsOnce durable.order run.queue → Goes (record { durable = durable; run = Some run }) (record { durable = durable; run = Some (record run { queue = recall run.queue }) })
recall_goes durable run once = record { events = all_given_back run.queue.flight; may = recall_may durable run once; ends = recall_is durable run once }

-- and asks nothing of a drain
pub back_takes : (bytes_of : FoundBytes) (durable : Durable) (run : Running) (cids : List Cid) → TakesAll bytes_of (record { durable = durable; run = Some run }) (all_given_back cids)
back_takes bytes_of durable run [] = tt
back_takes bytes_of durable run (c ∷ cids) = (tt, back_takes bytes_of durable (record run { queue = give_back run.queue c }) cids)

pub back_says : (found : Offers) (cids : List Cid) → AllSayRight found (all_given_back cids)
back_says found [] = tt
back_says found (c ∷ cids) = (tt, back_says found cids)
