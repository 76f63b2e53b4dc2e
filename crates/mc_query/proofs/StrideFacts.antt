-- The key at a place among the next keys, and among those that a prefix selects.
use Rattle.std.proofs.Common.{◌≡◌, ℕ, zero, suc, ◌+◌, ◌-◌, Bool, true, false, cond, ◌&&◌, List, [], ◌∷◌, drop, refl, sym, ap, ◌∙◌, subst, arith, Option, Some, None}
use Rattle.std.proofs.lemmas.List.{drop_all}
use Rattle.std.specs.Cmp.Lexicographic.{slice_cmp}
use Rattle.std.specs.Option.{option_map}
use Rattle.std.specs.Ordering.{nat_cmp}
use Rattle.std.specs.Prelude.{slice_get, IfSome}
use Rattle.mc_base.proofs.Orders.{less_is}
use Rattle.mc_key.specs.Prefix.{is_under}
use Rattle.mc_model.specs.declared.block.Block.{Block}
use Rattle.mc_model.specs.Live.{value_row}
use Rattle.mc_model.specs.Rank.{Ranked}
use Rattle.mc_keep.specs.Next.{is_past, AreNext, AreNextOf, IsKeyAt}
use Rattle.mc_keep.specs.declared.rows.ValueRow.{ValueRow}
use Rattle.mc_query.specs.Places.{start_of, left_of, key_left, IsKeyUnder, IsNextUnder}
use Rattle.mc_query.proofs.KeyOrder.{past_bound, past_more}
use Rattle.mc_query.proofs.NextFacts.{AreSorted, AreExact, next_is, none_left_after, selected_past, told_so}

-- the key of the row at a place
abbrev pub key_at : List ValueRow → ℕ → Option (List ℕ)
key_at rows place = option_map (λ (row : ValueRow). row.key) (slice_get rows place)

-- the key, where the prefix selects it
abbrev pub key_selected : List ℕ → Option (List ℕ) → Option (List ℕ)
key_selected prefix None = None
key_selected prefix (Some key) = cond (is_under prefix key) (Some key) None

-- each of the next keys is past the bound
all_beyond : (value : List ℕ → Option Ranked) (bound : List ℕ) (inclusive : Bool) (most : ℕ) (rows : List ValueRow) (place : ℕ) → AreNextOf value bound inclusive most rows →
    IfSome (key_at rows place) (λ key. is_past bound inclusive key ≡ true)
all_beyond value bound inclusive most [] place next = tt
all_beyond value bound inclusive most (row ∷ rows) zero next = next.1.past
all_beyond value bound inclusive most (row ∷ rows) (suc place) next =
    told_so (key_at rows place) (all_beyond value row.key false (most - 1) rows place next.2)
    (λ (key : List ℕ). λ past. past_more bound inclusive row.key key next.1.past (less_is (slice_cmp nat_cmp row.key key) past))

beyond_left : (prefix bound : List ℕ) (inclusive : Bool) (key : Option (List ℕ)) → IfSome key (λ key. is_past bound inclusive key ≡ true) → key_left prefix bound inclusive key ≡ key_selected prefix key
beyond_left prefix bound inclusive None past = refl
beyond_left prefix bound inclusive (Some key) past = ap (λ b. cond (b && is_under prefix key) (Some key) None) past

module _ (sorted : AreSorted) (exact : AreExact) where
  at_first : (blocks : List Block) (prefix bound : List ℕ) (inclusive : Bool) (row : ValueRow) (b : Bool) → IsNextUnder blocks prefix bound inclusive (cond b (Some row) None) →
      IsKeyUnder blocks prefix bound inclusive zero (cond b (Some row.key) None)
  at_first blocks prefix bound inclusive row true next = next.0
  at_first blocks prefix bound inclusive row false next = next

  -- a key at a place after a row is at the next place from that row on; after one that isn't selected there is none
  at_later : (blocks : List Block) (prefix bound : List ℕ) (inclusive : Bool) (row : ValueRow) (place : ℕ) (key : Option (List ℕ)) (b : Bool) → is_under prefix row.key ≡ b →
      is_past (start_of prefix) true row.key ≡ true → IsNextUnder blocks prefix bound inclusive (cond b (Some row) None) → IsKeyUnder blocks prefix row.key false place key →
      IsKeyUnder blocks prefix bound inclusive (suc place) key
  at_later blocks prefix bound inclusive row place None true under from next after = ap (drop (suc place)) next.0 ∙ after
  at_later blocks prefix bound inclusive row place (Some key) true under from next after = ap (drop (suc place)) next.0 ∙ after
  at_later blocks prefix bound inclusive row place None false under from next after = ap (drop (suc place)) next
  at_later blocks prefix bound inclusive row place (Some key) false under from next after =
      let none : drop place (left_of blocks prefix row.key false) ≡ [] = ap (drop place) (none_left_after blocks prefix row.key from under) ∙ drop_all place [] (omega arith) in
      absurd (let some : key ∷ left_of blocks prefix key false ≡ [] = sym after ∙ none in cc)

  -- the key at a place among the next ones, where it is selected, is at this place among the selected ones
  selected_at : (blocks : List Block) (prefix bound : List ℕ) (inclusive : Bool) (place : ℕ) (rows : List ValueRow) → is_past (start_of prefix) true bound ≡ true →
      AreNext blocks bound inclusive (place + 1) rows → IsKeyUnder blocks prefix bound inclusive place (key_selected prefix (key_at rows place))
  selected_at blocks prefix bound inclusive place [] from next =
      ap (drop place) (next_is sorted exact blocks prefix bound inclusive None from (next (omega arith))) ∙ drop_all place [] (omega arith)
  selected_at blocks prefix bound inclusive zero (row ∷ rows) from next =
      at_first blocks prefix bound inclusive row (is_under prefix row.key) (next_is sorted exact blocks prefix bound inclusive (Some row) from next.1)
  selected_at blocks prefix bound inclusive (suc place) (row ∷ rows) from next =
      let one_less : suc place + 1 - 1 ≡ place + 1 = omega arith in
      let more : AreNext blocks row.key false (place + 1) rows = subst (λ (n : ℕ). AreNext blocks row.key false n rows) one_less next.2 in
      let past = past_bound (start_of prefix) bound inclusive row.key from next.1.past in
      at_later blocks prefix bound inclusive row place (key_selected prefix (key_at rows place)) (is_under prefix row.key) refl past
      (next_is sorted exact blocks prefix bound inclusive (Some row) from next.1) (selected_at blocks prefix row.key false place rows past more)

  -- the key at a place among the next ones, where it is left, is at this place among those that are left
  pub left_at : (blocks : List Block) (prefix bound : List ℕ) (inclusive : Bool) (place : ℕ) (key : Option (List ℕ)) → is_past (start_of prefix) true bound ≡ true →
      IsKeyAt blocks bound inclusive place key → IsKeyUnder blocks prefix bound inclusive place (key_left prefix bound inclusive key)
  left_at blocks prefix bound inclusive place key from at =
      let past : IfSome key (λ key. is_past bound inclusive key ≡ true) = subst (λ (k : Option (List ℕ)). IfSome k (λ key. is_past bound inclusive key ≡ true)) (sym at.2) (all_beyond (value_row blocks) bound inclusive (place + 1) at.0 place at.1) in
      subst (λ (k : Option (List ℕ)). IsKeyUnder blocks prefix bound inclusive place k) (sym (beyond_left prefix bound inclusive key past ∙ ap (key_selected prefix) at.2))
      (selected_at blocks prefix bound inclusive place at.0 from at.1)

-- what two tests let through passes both
passes_both : (P : List ℕ → Type 0) (key : List ℕ) (first second : Bool) → (first ≡ true → second ≡ true → P key) → IfSome (cond (first && second) (Some key) None) P
passes_both P key true true both = both refl refl
passes_both P key true false both = tt
passes_both P key false second both = tt

-- a key that is left is past the start
pub left_from : (prefix bound : List ℕ) (inclusive : Bool) (key : Option (List ℕ)) → IfSome (key_left prefix bound inclusive key) (λ key. is_past (start_of prefix) true key ≡ true)
left_from prefix bound inclusive None = tt
left_from prefix bound inclusive (Some key) =
    passes_both (λ (key : List ℕ). is_past (start_of prefix) true key ≡ true) key (is_past bound inclusive key) (is_under prefix key) (λ past under. selected_past prefix key under)

-- and past the bound
pub left_beyond : (prefix bound : List ℕ) (inclusive : Bool) (key : Option (List ℕ)) → IfSome (key_left prefix bound inclusive key) (λ key. is_past bound inclusive key ≡ true)
left_beyond prefix bound inclusive None = tt
left_beyond prefix bound inclusive (Some key) =
    passes_both (λ (key : List ℕ). is_past bound inclusive key ≡ true) key (is_past bound inclusive key) (is_under prefix key) (λ past under. past)
