-- What was pushed is moved into the inbox and taken in, call by call.
use Rattle.std.proofs.Common.{◌≡◌, ◌≤◌, ◌<◌, ◌+◌, ◌-◌, ℕ, true, false, List, [], ◌∷◌, ◌++◌, length, min, take, drop, Option, Some, None, Result, Ok, Err, refl, sym, ap, ◌∙◌, subst, arith, inl, inr, append-nil}
use Rattle.std.specs.Prelude.{⊤, ◌⊎◌, IfErr, IfSome, OnOk, is_some}
use Rattle.std.proofs.lemmas.Bool.{false≢true}
use Rattle.std.proofs.lemmas.List.{length-drop, length-take, take-append-drop}
use Rattle.mc_core.specs.Counted.{capped}
use Rattle.mc_drain.specs.Groups.{InboxTaken}
use Rattle.mc_drain.specs.declared.end.DrainEnd.{DrainEnd}
use Rattle.mc_fetch.specs.declared.naming.Naming as naming
use Rattle.mc_group.specs.declared.grouped.Grouped.{Grouped}
use Rattle.mc_model.specs.Kept.{Kept}
use Rattle.mc_model.specs.declared.block.Stored.{Stored}
use Rattle.mc_relay.specs.declared.posts.TakerEnd.{TakerEnd}
use Rattle.mc_worker.specs.declared.ends.ShopError.{ShopError}
use Rattle.mc_worker.specs.declared.ends.ShopError.TheVariants.{KeeperFault, Stopped, Spent, Memory}
use Rattle.mc_node.specs.Fillings.{GathersIn, HasEmptied, HasTaken, Moves, TakesAll, TakesFirst, TakesGroup, TakesRound, blocks_in, empties}
use Rattle.mc_node.specs.Items.{Item, Shown, has_halted}
use Rattle.mc_node.specs.Jobs.{IsBroken, shop_answer}
use Rattle.mc_node.specs.Pieces.{Gathered, GathersAt, Group, counted}
use Rattle.mc_node.specs.Serves.{AnswersAt}
use Rattle.mc_node.proofs.PieceFacts.{runs_one}
use Rattle.mc_node.proofs.TakeFacts.{gathers_group, on_ok}

-- what one group comes to
one_gathered : (items : List Stored) (answer : Result Grouped ShopError) → IfErr (counted answer) IsBroken → Gathered (counted answer) (Group items answer ∷ [])
one_gathered items (Ok grouped) b = omega arith
one_gathered items (Err KeeperFault) b = record { first = []; items = items; is = refl }
one_gathered items (Err Stopped) b = absurd b
one_gathered items (Err Spent) b = absurd b
one_gathered items (Err Memory) b = tt

-- blocks that go from the relay into the inbox

module _ {J : Type 0} {j : naming.Ghosts J} where
  -- what came in is taken out of what was moved
  pub moves_out : (gave gives : Option (TakerEnd J j)) (waited held gone left : List Stored) → Moves gave gives waited [] held → held ≡ gone ++ left → Moves gave gives waited gone left
  moves_out gave gives waited held gone left moves is = record { items = moves.items; taken = moves.taken; whole = moves.whole ∙ is; noted = moves.noted }

  -- a relay that was emptied, and a group of what was moved then
  pub round_of : (limit processed : ℕ) (result : Result ℕ ShopError) (gave mid gives : Option (TakerEnd J j)) (waited held left : List Stored) (old log : List Item) (before now : Shown) (new : List Item) (after : Shown)
      → gives ≡ mid → log ≡ old → now ≡ before → Moves gave mid waited [] held → HasEmptied gave mid held → TakesGroup limit processed result held left log now new after → TakesRound limit processed result gave gives waited left old before new after
  round_of limit processed result gave mid gives waited held left old log before now new after taker logs shows moves emptied takes = record {
    held = held;
    moves = subst (λ (t : Option (TakerEnd J j)). Moves gave t waited [] held) (sym taker) moves;
    emptied = subst (λ (t : Option (TakerEnd J j)). HasEmptied gave t held) (sym taker) emptied;
    takes = subst (λ (s : Shown). TakesGroup limit processed result held left old s new after) shows (subst (λ (l : List Item). TakesGroup limit processed result held left l now new after) logs takes);
  }

  pub noted_same : (gave gives : Option (TakerEnd J j)) → gives ≡ gave → empties gave ≤ empties gives
  noted_same gave gives is = subst (λ (t : Option (TakerEnd J j)). empties gave ≤ empties t) (sym is) (omega arith)

  one_group : (gave gives : Option (TakerEnd J j)) (waited items left : List Stored) → Moves gave gives waited items left → Moves gave gives waited (items ++ []) left
  one_group gave gives waited items left moves = subst (λ (l : List Stored). Moves gave gives waited l left) (sym (append-nil items)) moves

  -- the whole call

  -- nothing was called, for an error or without a relay
  pub in_nothing : (limit : ℕ) (result : Result ℕ ShopError) (gave gives : Option (TakerEnd J j)) (waited left : List Stored) (old : List Item) (before : Shown) (new : List Item) (after : Shown)
      → AnswersAt limit result before → before.stopped ≡ has_halted old → new ≡ old → after ≡ before → Gathered result [] → OnOk result (is_some gave ≡ false) → GathersIn limit result gave gives waited left old before new after
  in_nothing limit result gave gives waited left old before new after at halted log now says none = record {
    at = record { stopped = at.stopped; spent = at.spent };
    halted = halted;
    pieces = [];
    runs = (log, now);
    says = says;
    takes = on_ok result _ _ (λ (e : is_some gave ≡ false) (some : is_some gave ≡ true). absurd (false≢true (sym e ∙ some))) none;
  }

  pub in_round : (limit processed : ℕ) (result : Result ℕ ShopError) (gave gives : Option (TakerEnd J j)) (waited left : List Stored) (old : List Item) (before : Shown) (new : List Item) (after : Shown)
      → before.stopped ≡ has_halted old → IfErr result IsBroken → IfSome before.told (λ kept. processed ≡ capped (length kept.order)) → TakesRound limit processed result gave gives waited left old before new after → GathersIn limit result gave gives waited left old before new after
  in_round limit processed result gave gives waited left old before new after halted broken count round = record {
    at = let g = gathers_group limit result old before new after halted broken round.takes.does in record { stopped = g.at.stopped; spent = g.at.spent };
    halted = halted;
    pieces = Group round.takes.does.items round.takes.does.answer ∷ [];
    runs = runs_one limit (Group round.takes.does.items round.takes.does.answer) old before new after round.takes.does.does;
    says = subst (λ (r : Result ℕ ShopError). Gathered r (Group round.takes.does.items round.takes.does.answer ∷ [])) (sym round.takes.does.is) (one_gathered round.takes.does.items round.takes.does.answer (subst (λ (r : Result ℕ ShopError). IfErr r IsBroken) round.takes.does.is broken));
    takes = on_ok result _ _ all round.takes.takes;
  }
    where
      cut : (told : Option Kept) → IfSome told (λ kept. processed ≡ capped (length kept.order)) → limit ≤ processed + length round.takes.does.items → IfSome told (λ kept. limit ≤ capped (length kept.order) + length (round.takes.does.items ++ []))
      cut None c full = tt
      cut (Some kept) c full = let e = ap length (append-nil round.takes.does.items) in omega (arith, c, full, e)

      rest_of : (left ≡ []) ⊎ (limit ≤ processed + length round.takes.does.items) → (left ≡ []) ⊎ IfSome before.told (λ kept. limit ≤ capped (length kept.order) + length (round.takes.does.items ++ []))
      rest_of (inl none) = inl none
      rest_of (inr full) = inr (cut before.told count full)

      all : TakesFirst limit processed round.takes.does.items round.held left → is_some gave ≡ true → TakesAll limit before.told gave gives waited (round.takes.does.items ++ []) left
      all t some = record {
        moves = one_group gave gives waited round.takes.does.items left (moves_out gave gives waited round.held round.takes.does.items left round.moves t.whole);
        emptied = subst (HasEmptied gave gives) (t.whole ∙ ap (λ (l : List Stored). l ++ left) (sym (append-nil round.takes.does.items))) round.emptied;
        rest = rest_of t.rest;
      }

  pub in_from : (limit : ℕ) (result : Result ℕ ShopError) (gave start gives : Option (TakerEnd J j)) (waited held left : List Stored) (old log : List Item) (before now : Shown) (new : List Item) (after : Shown)
      → start ≡ gave → held ≡ waited → log ≡ old → now ≡ before → GathersIn limit result start gives held left log now new after → GathersIn limit result gave gives waited left old before new after
  in_from limit result gave start gives waited held left old log before now new after taker same logs shows on =
      subst (λ (t : Option (TakerEnd J j)). GathersIn limit result t gives waited left old before new after) taker
      (subst (λ (w : List Stored). GathersIn limit result start gives w left old before new after) same
      (subst (λ (l : List Item). GathersIn limit result start gives held left l before new after) logs
      (subst (λ (s : Shown). GathersIn limit result start gives held left log s new after) shows on)))

  -- what a seat sees of it
  pub in_seen : (limit : ℕ) (result : Result ℕ ShopError) (gave gives : Option (TakerEnd J j)) (waited left : List Stored) (old : List Item) (before : Shown) (new : List Item) (after : Shown) → GathersIn limit result gave gives waited left old before new after → GathersAt limit result old before new after
  in_seen limit result gave gives waited left old before new after g = record { at = record { stopped = g.at.stopped; spent = g.at.spent }; halted = g.halted; pieces = g.pieces; runs = g.runs; says = g.says }

module _ {J : Type 0} {j : naming.Ghosts J} where
  -- what was taken
  pub in_took : (limit : ℕ) (result : Result ℕ ShopError) (gave gives : Option (TakerEnd J j)) (waited left : List Stored) (old : List Item) (before : Shown) (new : List Item) (after : Shown) → GathersIn limit result gave gives waited left old before new after → OnOk result (HasTaken limit before.told gave gives waited left)
  in_took limit result gave gives waited left old before new after g = on_ok result _ _ (λ takes some. (blocks_in g.pieces, takes some)) g.takes

-- the first blocks of an inbox are taken out

pub first_taken : (limit processed most : ℕ) (result : Result Grouped DrainEnd) (answer : Result Grouped ShopError) (old new : List Stored) → answer ≡ shop_answer result → most ≡ min (limit - processed) 64 → processed < limit → length old ≤ 64 → InboxTaken result most old new → OnOk answer (TakesFirst limit processed (take most old) old new)
first_taken limit processed most result answer old new is all below few taken = subst (λ (a : Result Grouped ShopError). OnOk a (TakesFirst limit processed (take most old) old new)) (sym is) (over result taken)
  where
    rest_of : new ≡ drop most old → (new ≡ []) ⊎ (limit ≤ processed + length (take most old))
    rest_of dropped = over_new new dropped
      where
        over_new : (new : List Stored) → new ≡ drop most old → (new ≡ []) ⊎ (limit ≤ processed + length (take most old))
        over_new [] e = inl refl
        over_new (x ∷ xs) e = inr (
            let d = ap length e ∙ length-drop most old in
            let t = length-take most old in
            omega (arith, d, t, all, below, few))

    over : (result : Result Grouped DrainEnd) → InboxTaken result most old new → OnOk (shop_answer result) (TakesFirst limit processed (take most old) old new)
    over (Ok grouped) dropped = record { whole = sym (take-append-drop most old) ∙ ap (λ (l : List Stored). take most old ++ l) (sym dropped); rest = rest_of dropped }
    over (Err end) dropped = tt
