-- The first of the blocks that wait.
use Rattle.std.proofs.Common.{◌≡◌, ℕ, zero, suc, ◌+◌, ◌≤◌, Bool, true, false, not, eqb, cond, List, [], ◌∷◌, ◌++◌, ◌||◌, ◌&&◌, Option, Some, None, sym, refl, ap, ◌∙◌, subst, arith, length, filter, map, take, drop}
use Rattle.std.specs.List.{list_all}
use Rattle.std.specs.Result.{is_ok}
use Rattle.std.proofs.lemmas.Bool.{and_from}
use Rattle.std.proofs.lemmas.List.{map-append, append-nil, append_assoc}
use Rattle.mc_block.specs.declared.verified.Verified.{Verified}
use Rattle.mc_model.specs.declared.block.Stored.{Stored}
use Rattle.mc_model.specs.Offer.{is_good}
use Rattle.mc_list.specs.Entries.{Entry, entry, those_at, others, has_place, first_place}
use Rattle.mc_list.specs.declared.lists.Place.{Place}
use Rattle.mc_list.proofs.RingFacts.{eqb-self}
use Rattle.mc_inbox.specs.Waiting.{as_stored, first_of, turned}
use Rattle.mc_inbox.specs.Views.{items_of}

no_more : (xs : List (Entry Verified)) → length xs ≤ 0 → xs ≡ []
no_more [] few = refl
no_more (x ∷ xs) few = absurd (omega (arith, few))

-- where nothing stands at a place, none goes away
none_at : (p : Place) (es : List (Entry Verified)) → those_at p es ≡ [] → others p es ≡ es
none_at p [] none = refl
none_at p (e ∷ es) none =
    (elim (eqb e.place.number p.number) as (λ b. cond b (e ∷ those_at p es) (those_at p es) ≡ [] → cond (not b) (e ∷ others p es) (others p es) ≡ e ∷ es) [
      | true ↦ λ h. absurd (let l : length (e ∷ those_at p es) ≡ 0 = ap length h in omega (arith, l))
      | false ↦ λ h. ap (λ xs. e ∷ xs) (none_at p es h)
    ]) none

those_append : (p : Place) (xs ys : List (Entry Verified)) → length (those_at p (xs ++ ys)) ≡ length (those_at p xs) + length (those_at p ys)
those_append p [] ys = omega arith
those_append p (e ∷ xs) ys =
    let ih = those_append p xs ys in
    elim (eqb e.place.number p.number) as (λ b. length (cond b (e ∷ those_at p (xs ++ ys)) (those_at p (xs ++ ys))) ≡ length (cond b (e ∷ those_at p xs) (those_at p xs)) + length (those_at p ys)) [
      | true ↦ omega (arith, ih)
      | false ↦ ih
    ]

at_itself : (e : Entry Verified) (es : List (Entry Verified)) → those_at e.place (e ∷ es) ≡ e ∷ those_at e.place es
at_itself e es = ap (λ b. cond b (e ∷ those_at e.place es) (those_at e.place es)) (eqb-self e.place.number)

-- the others of the first are the rest
rest_is : (e : Entry Verified) (es more : List (Entry Verified)) → length (those_at e.place (e ∷ es ++ more)) ≤ 1 → others e.place (e ∷ es) ≡ es
rest_is e es more few =
    let whole = ap length (at_itself e (es ++ more)) in
    let split = those_append e.place es more in
    ap (λ b. cond (not b) (e ∷ others e.place es) (others e.place es)) (eqb-self e.place.number)
    ∙ none_at e.place es (no_more (those_at e.place es) (omega (arith, few, whole, split)))

some_is : (p q : Place) → Some p ≡ Some q → p ≡ q
some_is p q e = ap (λ (o : Option Place). or_else o p) e
  where
    or_else : Option Place → Place → Place
    or_else None d = d
    or_else (Some x) d = x

-- what is first, and what is taken out
module _ (p : Place) (item : Verified) where
  pub is_first : (es more : List (Entry Verified)) → Some p ≡ first_place es → those_at p (es ++ more) ≡ entry p item ∷ [] → Some (as_stored item) ≡ first_of (items_of es)
  is_first [] more first is = absurd (cc)
  is_first (e ∷ es) more first is =
      let at : p ≡ e.place = some_is p e.place first in
      let there : e ∷ those_at e.place (es ++ more) ≡ entry p item ∷ [] = sym (at_itself e (es ++ more)) ∙ ap (λ q. those_at q (e ∷ es ++ more)) (sym at) ∙ is in
      ap (λ o. Some o) (sym (ap (λ xs. head_or xs) there))
    where
      head_or : List (Entry Verified) → Stored
      head_or [] = as_stored item
      head_or (x ∷ xs) = as_stored x.item

  pub is_taken : (es more new : List (Entry Verified)) → Some p ≡ first_place es → those_at p (es ++ more) ≡ entry p item ∷ [] → length (those_at p (es ++ more)) ≤ 1 → new ≡ others p es
      → items_of es ≡ as_stored item ∷ items_of new
  is_taken [] more new first is few left = absurd (cc)
  is_taken (e ∷ es) more new first is few left =
      let at : p ≡ e.place = some_is p e.place first in
      let there : e ∷ those_at e.place (es ++ more) ≡ entry p item ∷ [] = sym (at_itself e (es ++ more)) ∙ ap (λ q. those_at q (e ∷ es ++ more)) (sym at) ∙ is in
      let few_at : length (those_at e.place (e ∷ es ++ more)) ≤ 1 = subst (λ q. length (those_at q (e ∷ es ++ more)) ≤ 1) at few in
      let rest : new ≡ es = left ∙ ap (λ q. others q (e ∷ es)) at ∙ rest_is e es more few_at in
      let back : es ≡ new = sym rest in (λ i. head_or (there i) ∷ items_of (back i))
    where
      head_or : List (Entry Verified) → Stored
      head_or [] = as_stored item
      head_or (x ∷ xs) = as_stored x.item

  pub is_less : (es more new : List (Entry Verified)) → Some p ≡ first_place es → length (those_at p (es ++ more)) ≤ 1 → new ≡ others p es → length es ≡ length new + 1
  is_less [] more new first few left = absurd (cc)
  is_less (e ∷ es) more new first few left =
      let at : p ≡ e.place = some_is p e.place first in
      let few_at : length (those_at e.place (e ∷ es ++ more)) ≤ 1 = subst (λ q. length (those_at q (e ∷ es ++ more)) ≤ 1) at few in
      let rest = ap length (left ∙ ap (λ q. others q (e ∷ es)) at ∙ rest_is e es more few_at) in omega (arith, rest)

-- the first comes to the back
pub is_turned : (p : Place) (es more new : List (Entry Verified)) → Some p ≡ first_place es → length (those_at p (es ++ more)) ≤ 1 → new ≡ others p es ++ those_at p (es ++ more) → items_of new ≡ turned (items_of es)
is_turned p [] more new first few left = absurd (cc)
is_turned p (e ∷ es) more new first few left =
    let at : p ≡ e.place = some_is p e.place first in
    let few_at : length (those_at e.place (e ∷ es ++ more)) ≤ 1 = subst (λ q. length (those_at q (e ∷ es ++ more)) ≤ 1) at few in
    let whole = ap length (at_itself e (es ++ more)) in
    let alone : those_at e.place (e ∷ es ++ more) ≡ e ∷ [] = at_itself e (es ++ more) ∙ ap (λ xs. e ∷ xs) (no_more (those_at e.place (es ++ more)) (omega (arith, few_at, whole))) in
    ap items_of (left ∙ ap (λ q. others q (e ∷ es) ++ those_at q (e ∷ es ++ more)) at ∙ (λ i. rest_is e es more few_at i ++ alone i))
    ∙ map-append (λ (e : Entry Verified). as_stored e.item) es (e ∷ [])

pub turned_length : (p : Place) (es more new : List (Entry Verified)) → Some p ≡ first_place es → length (those_at p (es ++ more)) ≤ 1 → new ≡ others p es ++ those_at p (es ++ more) → length new ≡ length es
turned_length p [] more new first few left = absurd (cc)
turned_length p (e ∷ es) more new first few left =
    let at : p ≡ e.place = some_is p e.place first in
    let few_at : length (those_at e.place (e ∷ es ++ more)) ≤ 1 = subst (λ q. length (those_at q (e ∷ es ++ more)) ≤ 1) at few in
    let whole = ap length (at_itself e (es ++ more)) in
    let alone : those_at e.place (e ∷ es ++ more) ≡ e ∷ [] = at_itself e (es ++ more) ∙ ap (λ xs. e ∷ xs) (no_more (those_at e.place (es ++ more)) (omega (arith, few_at, whole))) in
    ap length (left ∙ ap (λ q. others q (e ∷ es) ++ those_at q (e ∷ es ++ more)) at ∙ (λ i. rest_is e es more few_at i ++ alone i)) ∙ one_more es
  where
    one_more : (xs : List (Entry Verified)) → length (xs ++ e ∷ []) ≡ length (e ∷ xs)
    one_more [] = refl
    one_more (x ∷ xs) = ap suc (one_more xs)

-- all of them are good
pub all_good : (es : List (Entry Verified)) → list_all (λ (item : Stored). is_good item.cid item.bytes) (items_of es) ≡ true
all_good [] = refl
all_good (e ∷ es) = and_from (is_good e.item.cid e.item.bytes) (list_all (λ (item : Stored). is_good item.cid item.bytes) (items_of es)) (ap is_ok e.item.good) (all_good es)

-- one more turn
pub turn_more : (count : ℕ) (items : List Stored) → suc count ≤ length items → turned (drop count items ++ take count items) ≡ drop (suc count) items ++ take (suc count) items
turn_more count items lt = go count items [] lt
  where
    go : (count : ℕ) (items front : List Stored) → suc count ≤ length items → turned (drop count items ++ (front ++ take count items)) ≡ drop (suc count) items ++ (front ++ take (suc count) items)
    go zero [] front lt = absurd (omega (arith, lt))
    go zero (x ∷ xs) front lt = ap (λ ys. xs ++ ys ++ x ∷ []) (append-nil front) ∙ append_assoc xs front (x ∷ [])
    go (suc count) [] front lt = absurd (omega (arith, lt))
    go (suc count) (x ∷ xs) front lt =
        ap (λ ys. turned (drop count xs ++ ys)) (sym (append_assoc front (x ∷ []) (take count xs)))
        ∙ go count xs (front ++ x ∷ []) (omega (arith, lt))
        ∙ ap (λ ys. drop (suc count) xs ++ ys) (append_assoc front (x ∷ []) (take (suc count) xs))

pub items_length : (es : List (Entry Verified)) → length (items_of es) ≡ length es
items_length [] = refl
items_length (e ∷ es) = ap suc (items_length es)
