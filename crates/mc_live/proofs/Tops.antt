-- The first row of a key is its value.
use Rattle.std.proofs.Common.{◌≡◌, ℕ, ◌<◌, ◌≤◌, length, arith, Bool, true, false, not, ◌||◌, ◌&&◌, List, [], ◌∷◌, Option, Some, None, refl, sym, ap, ◌∙◌, subst}
use Rattle.std.specs.Prelude.{fold, slice_index_or}
use Rattle.std.specs.BinaryHeap.{IsHeap, IsUpperBound}
use Rattle.std.specs.List.{list_any}
use Rattle.std.specs.Option.{option_map}
use Rattle.std.specs.Ordering.{is_gt, is_lt, nat_cmp, ordering_then}
use Rattle.std.specs.declared.cmp.Ordering.{Ordering}
use Rattle.std.specs.declared.cmp.Ordering.TheVariants.{Less, Equal, Greater}
use Rattle.std.specs.Str.{bytes_eq}
use Rattle.std.proofs.lemmas.Slice.Eq.{bytes_eq-Decides}
use Rattle.std.proofs.lemmas.Bool.{eq-eqb, or_parts}
use Rattle.mc_model.specs.declared.block.Block.{Block}
use Rattle.mc_model.specs.Live.{has_tomb, live, value}
use Rattle.mc_model.specs.Rank.{Ranked, greater, greatest, rank_cmp, same_ranked}
use Rattle.mc_model.proofs.Greatest.{greatest_of_fewer, gt_lt}
use Rattle.mc_live.specs.Order.{row_cmp}
use Rattle.mc_live.specs.Rows.{IsFirst, id_at, row_lives, shows}
use Rattle.mc_live.specs.Stands.{KeyStands, entries}
use Rattle.mc_live.specs.declared.order.Row.{Row}
use Rattle.mc_live.proofs.Shows.{live_shows, of_ranked}

-- one of a list above which none of it is, is its greatest
stays : (xs : List Ranked) (m : Ranked) → list_any (λ x. is_gt (rank_cmp x m)) xs ≡ false → fold greater (Some m) xs ≡ Some m
stays [] m none = refl
stays (x ∷ xs) m none =
    let parts = or_parts (is_gt (rank_cmp x m)) (list_any (λ x. is_gt (rank_cmp x m)) xs) none in
    let below : is_lt (rank_cmp m x) ≡ false = sym (gt_lt x m) ∙ parts.0 in
    rw below (stays xs m parts.1)

pub greatest_is : (xs : List Ranked) (m : Ranked) → list_any (same_ranked m) xs ≡ true → list_any (λ x. is_gt (rank_cmp x m)) xs ≡ false → greatest xs ≡ Some m
greatest_is xs m there none = greatest_of_fewer (m ∷ xs) xs m (stays xs m none) (λ test e. (or_parts (test m) (list_any test xs) e).1) there

abbrev pub ranked_of : Row → Ranked
ranked_of row = (row.priority, row.value)

-- a row that isn't less in the order of rows is not less by its rank
not_above : (r s : Row) → is_lt (row_cmp r s) ≡ false → is_gt (rank_cmp (ranked_of s) (ranked_of r)) ≡ false
not_above r s e = gt_lt (ranked_of s) (ranked_of r) ∙ by (rank_cmp (ranked_of r) (ranked_of s)) e
  where
    by : (o : Ordering) → is_lt (ordering_then o (nat_cmp r.call s.call)) ≡ false → is_lt o ≡ false
    by Less e = e
    by Equal e = refl
    by Greater e = refl

-- no row that is shown is above the first
none_shown : (hidden : List ℕ → Bool) (ids : List (Option (List ℕ))) (r : Row) (rows : List Row) → IsUpperBound row_cmp r rows
    → list_any (shows hidden ids (of_ranked (λ x. is_gt (rank_cmp x (ranked_of r))))) rows ≡ false
none_shown hidden ids r [] upper = refl
none_shown hidden ids r (s ∷ rows) upper =
    ap (λ b. b || list_any (shows hidden ids (of_ranked (λ x. is_gt (rank_cmp x (ranked_of r))))) rows) (by (id_at ids s.call))
    ∙ none_shown hidden ids r rows upper.1
  where
    false_and : (a b : Bool) → b ≡ false → (a && b) ≡ false
    false_and true b e = e
    false_and false b e = refl

    by : (id : Option (List ℕ)) → row_lives hidden (of_ranked (λ x. is_gt (rank_cmp x (ranked_of r)))) s id ≡ false
    by None = refl
    by (Some id) = false_and (not (hidden id)) (is_gt (rank_cmp (ranked_of s) (ranked_of r))) (not_above r s upper.0)

empty : {X : Type 0} (xs : List X) → list_any (λ _. true) xs ≡ false → xs ≡ []
empty [] e = refl
empty (x ∷ xs) e = absurd (let f : true ≡ false = e in cc)

same_itself : (m : Ranked) → same_ranked m m ≡ true
same_itself (p, v) = ap (λ b. b && bytes_eq v v) (eq-eqb p p refl) ∙ (bytes_eq-Decides v v).1 refl

module _ (blocks : List Block) (key : List ℕ) (ids : List (Option (List ℕ))) where
  -- what is seen of the live values
  seen : (rows : List Row) → KeyStands (has_tomb blocks key) ids rows (entries blocks key) → (test : Ranked → Bool)
      → list_any test (live blocks key) ≡ list_any (shows (has_tomb blocks key) ids (of_ranked test)) rows
  seen rows stands test = live_shows blocks key test blocks ∙ sym (stands.same (of_ranked test))

  pub no_row : KeyStands (has_tomb blocks key) ids [] (entries blocks key) → value blocks key ≡ None
  no_row stands = ap (λ z. option_map (λ (ranked : Ranked). ranked.1) (greatest z)) (empty (live blocks key) (seen [] stands (λ _. true)))

  pub first_row : (r : Row) (rows : List Row) → KeyStands (has_tomb blocks key) ids (r ∷ rows) (entries blocks key) → IsUpperBound row_cmp r (r ∷ rows) → value blocks key ≡ Some r.value
  first_row r rows stands upper =
      let there : list_any (same_ranked (ranked_of r)) (live blocks key) ≡ true = seen (r ∷ rows) stands (same_ranked (ranked_of r))
      ∙ ap (λ b. b || list_any (shows (has_tomb blocks key) ids (of_ranked (same_ranked (ranked_of r)))) rows) (by (id_at ids r.call) stands.top) in
      let none : list_any (λ x. is_gt (rank_cmp x (ranked_of r))) (live blocks key) ≡ false = seen (r ∷ rows) stands (λ x. is_gt (rank_cmp x (ranked_of r))) ∙ none_shown (has_tomb blocks key) ids r (r ∷ rows) upper in
      ap (option_map (λ (ranked : Ranked). ranked.1)) (greatest_is (live blocks key) (ranked_of r) there none)
    where
      both : (a b : Bool) → (a && true) ≡ true → b ≡ true → (a && b) ≡ true
      both true b e f = f
      both false b e f = absurd (cc)

      by : (id : Option (List ℕ)) → row_lives (has_tomb blocks key) (λ _. true) r id ≡ true → row_lives (has_tomb blocks key) (of_ranked (same_ranked (ranked_of r))) r id ≡ true
      by None e = absurd (let f : false ≡ true = e in cc)
      by (Some id) e = both (not (has_tomb blocks key id)) (same_ranked (ranked_of r) (ranked_of r)) e (same_itself (ranked_of r))

  pub first_is_value : (rows : List Row) (found : Option (List ℕ)) → KeyStands (has_tomb blocks key) ids rows (entries blocks key) → IsFirst rows found → found ≡ value blocks key
  first_is_value [] found stands first = first.value_is ∙ sym (no_row stands)
  first_is_value (r ∷ rows) found stands first = first.value_is ∙ sym (first_row r rows stands (first.bound stands.heap))

-- what a look at the first row finds
pub some_first : (rows : List Row) (r : Row) (value : List ℕ) → 0 < length rows → r ≡ slice_index_or rows 0 r → value ≡ r.value → (IsHeap row_cmp rows → IsUpperBound row_cmp r rows) → IsFirst rows (Some value)
some_first [] r value some is told upper = absurd (omega (arith, some))
some_first (first ∷ rows) r value some is told upper =
    let same : r ≡ first = is in
    record { value_is = ap (λ z. Some z) (told ∙ ap (λ (z : Row). z.value) same); bound = λ heap. subst (λ (z : Row). IsUpperBound row_cmp z (first ∷ rows)) same (upper heap) }

pub no_first : (rows : List Row) → length rows ≤ 0 → IsFirst rows None
no_first [] none = record { value_is = refl; bound = λ heap. tt }
no_first (row ∷ rows) none = absurd (omega (arith, none))
