-- The events at some positions are those of the whole feed.
use Rattle.std.proofs.Common.{◌≡◌, ℕ, ◌+◌, ◌≤◌, ◌<◌, arith, true, false, cond, ◌&&◌, List, [], ◌∷◌, ◌++◌, map, length, take, drop, refl, sym, ap, take-append-drop, append_assoc, ◌∙◌, inl, inr, ◌⊎◌}
use Rattle.std.specs.Prelude.{filter, nat_le, nat_lt}
use Rattle.std.proofs.lemmas.Bool.Decides.{nat_tests}
use Rattle.std.proofs.lemmas.List.{append-nil, drop_all, length-take, length-take-le, take_all}
use Rattle.std.proofs.lemmas.List.Elements.{filter-append}
use Rattle.mc_feed.specs.Changes.{changed_keys, event_at, events_of, feed, feed_from}
use Rattle.mc_model.specs.declared.block.Block.{Block}
use Rattle.mc_past.specs.Past.{AllChangesAreFeed, ChangesAreFeed, changes_between, is_between}

-- the feed of two lists, one after the other
feed_parts : (position : ℕ) (before xs ys : List Block) → feed_from position before (xs ++ ys) ≡ feed_from position before xs ++ feed_from (position + length xs) (before ++ xs) ys
feed_parts position before [] ys =
    let same : position ≡ position + 0 = omega arith in
    ap (λ (z : List Block). feed_from position z ys) (sym (append-nil before)) ∙ ap (λ n. feed_from n (before ++ []) ys) same
feed_parts position before (x ∷ xs) ys =
    let same : position + 1 + length xs ≡ position + length (x ∷ xs) = omega arith in
    ap (λ z. events_of position before x ++ z) (feed_parts (position + 1) (before ++ x ∷ []) xs ys)
    ∙ sym (append_assoc (events_of position before x) (feed_from (position + 1) (before ++ x ∷ []) xs) (feed_from (position + 1 + length xs) ((before ++ x ∷ []) ++ xs) ys))
    ∙ ap (λ n. feed_from position before (x ∷ xs) ++ feed_from n ((before ++ x ∷ []) ++ xs) ys) same
    ∙ ap (λ (z : List Block). feed_from position before (x ∷ xs) ++ feed_from (position + length (x ∷ xs)) z ys) (append_assoc before (x ∷ []) xs)

-- the events of positions that all pass, and of such that none do

one_passes : (from count position : ℕ) (after : List Block) (keys : List (List ℕ)) → (nat_le from position && nat_lt position (from + count)) ≡ true
    → filter (is_between from count) (map (event_at position after) keys) ≡ map (event_at position after) keys
one_passes from count position after [] here = refl
one_passes from count position after (key ∷ keys) here =
    ap (λ b. cond b (event_at position after key ∷ filter (is_between from count) (map (event_at position after) keys)) (filter (is_between from count) (map (event_at position after) keys))) here
    ∙ ap (λ z. event_at position after key ∷ z) (one_passes from count position after keys here)

one_fails : (from count position : ℕ) (after : List Block) (keys : List (List ℕ)) → (nat_le from position && nat_lt position (from + count)) ≡ false → filter (is_between from count) (map (event_at position after) keys) ≡ []
one_fails from count position after [] away = refl
one_fails from count position after (key ∷ keys) away =
    ap (λ b. cond b (event_at position after key ∷ filter (is_between from count) (map (event_at position after) keys)) (filter (is_between from count) (map (event_at position after) keys))) away ∙ one_fails from count position after keys away

all_pass : (from count position : ℕ) (before blocks : List Block) → from ≤ position → position + length blocks ≤ from + count → filter (is_between from count) (feed_from position before blocks) ≡ feed_from position before blocks
all_pass from count position before [] low high = refl
all_pass from count position before (block ∷ blocks) low high =
    filter-append (is_between from count) (events_of position before block) (feed_from (position + 1) (before ++ block ∷ []) blocks)
    ∙ ap (λ z. z ++ filter (is_between from count) (feed_from (position + 1) (before ++ block ∷ []) blocks)) (one_passes from count position (before ++ block ∷ []) (changed_keys before block) (inside position low (omega (arith, high))))
    ∙ ap (λ z. events_of position before block ++ z) (all_pass from count (position + 1) (before ++ block ∷ []) blocks (omega (arith, low)) (omega (arith, high)))
  where
    inside : (position : ℕ) → from ≤ position → position < from + count → (nat_le from position && nat_lt position (from + count)) ≡ true
    inside position low high = grind (arith, nat_tests, low, high)

none_before : (from count position : ℕ) (before blocks : List Block) → position + length blocks ≤ from → filter (is_between from count) (feed_from position before blocks) ≡ []
none_before from count position before [] high = refl
none_before from count position before (block ∷ blocks) high =
    filter-append (is_between from count) (events_of position before block) (feed_from (position + 1) (before ++ block ∷ []) blocks)
    ∙ ap (λ z. z ++ filter (is_between from count) (feed_from (position + 1) (before ++ block ∷ []) blocks)) (one_fails from count position (before ++ block ∷ []) (changed_keys before block) (outside position (omega (arith, high))))
    ∙ none_before from count (position + 1) (before ++ block ∷ []) blocks (omega (arith, high))
  where
    outside : (position : ℕ) → position < from → (nat_le from position && nat_lt position (from + count)) ≡ false
    outside position high = grind (arith, nat_tests, high)

none_after : (from count position : ℕ) (before blocks : List Block) → from + count ≤ position → filter (is_between from count) (feed_from position before blocks) ≡ []
none_after from count position before [] low = refl
none_after from count position before (block ∷ blocks) low =
    filter-append (is_between from count) (events_of position before block) (feed_from (position + 1) (before ++ block ∷ []) blocks)
    ∙ ap (λ z. z ++ filter (is_between from count) (feed_from (position + 1) (before ++ block ∷ []) blocks)) (one_fails from count position (before ++ block ∷ []) (changed_keys before block) (outside position low))
    ∙ none_after from count (position + 1) (before ++ block ∷ []) blocks (omega (arith, low))
  where
    outside : (position : ℕ) → from + count ≤ position → (nat_le from position && nat_lt position (from + count)) ≡ false
    outside position low = grind (arith, nat_tests, low)

-- three parts of a feed: before the positions, at them, and after them
three_parts : (from count : ℕ) (first mid last : List Block) → length first ≡ from → length mid ≤ count → (length mid < count → last ≡ []) → filter (is_between from count) (feed (first ++ (mid ++ last))) ≡ feed_from from first mid
three_parts from count first mid last here few full =
    let same : 0 + length first ≡ from = omega (arith, here) in
    ap (filter (is_between from count)) (feed_parts 0 [] first (mid ++ last) ∙ ap (λ n. feed_from 0 [] first ++ feed_from n first (mid ++ last)) same ∙ ap (λ z. feed_from 0 [] first ++ z) (feed_parts from first mid last))
    ∙ filter-append (is_between from count) (feed_from 0 [] first) (feed_from from first mid ++ feed_from (from + length mid) (first ++ mid) last)
    ∙ ap (λ z. z ++ filter (is_between from count) (feed_from from first mid ++ feed_from (from + length mid) (first ++ mid) last)) (none_before from count 0 [] first (omega (arith, here)))
    ∙ filter-append (is_between from count) (feed_from from first mid) (feed_from (from + length mid) (first ++ mid) last)
    ∙ ap (λ z. z ++ filter (is_between from count) (feed_from (from + length mid) (first ++ mid) last)) (all_pass from count from first mid (omega arith) (omega (arith, few)))
    ∙ ap (λ z. feed_from from first mid ++ z) (rest (low_or_high (length mid) count))
    ∙ append-nil (feed_from from first mid)
  where
    low_or_high : (n m : ℕ) → (n < m) ⊎ (m ≤ n)
    low_or_high n m = grind arith

    rest : (length mid < count) ⊎ (count ≤ length mid) → filter (is_between from count) (feed_from (from + length mid) (first ++ mid) last) ≡ []
    rest (inl low) = ap (λ (z : List Block). filter (is_between from count) (feed_from (from + length mid) (first ++ mid) z)) (full low)
    rest (inr high) = none_after from count (from + length mid) (first ++ mid) last (omega (arith, high))

pub changes_are_feed : ChangesAreFeed
changes_are_feed from count blocks = by (low_or_high from (length blocks))
  where
    low_or_high : (n m : ℕ) → (n ≤ m) ⊎ (m < n)
    low_or_high n m = grind arith

    by : (from ≤ length blocks) ⊎ (length blocks < from) → changes_between from count blocks ≡ filter (is_between from count) (feed blocks)
    by (inl low) =
        let mid = take count (drop from blocks) in
        let last = drop count (drop from blocks) in
        let few : length mid ≤ count = omega (arith, length-take count (drop from blocks)) in
        let whole : take from blocks ++ (mid ++ last) ≡ blocks = ap (λ (z : List Block). take from blocks ++ z) (take-append-drop count (drop from blocks)) ∙ take-append-drop from blocks in
        sym (three_parts from count (take from blocks) mid last (length-take-le from blocks low) few (λ less. drop_all count (drop from blocks) (omega (arith, less, length-take count (drop from blocks)))))
        ∙ ap (λ (z : List Block). filter (is_between from count) (feed z)) whole
    by (inr high) =
        let none : drop from blocks ≡ [] = drop_all from blocks (omega (arith, high)) in
        ap (λ (z : List Block). feed_from from (take from blocks) (take count z)) none ∙ empty count ∙ sym (none_before from count 0 [] blocks (omega (arith, high)))
      where
        empty : (n : ℕ) → feed_from from (take from blocks) (take n []) ≡ []
        empty n = ap (feed_from from (take from blocks)) (take_all n [] (omega arith))

pub all_changes_are_feed : AllChangesAreFeed
all_changes_are_feed blocks = ap (feed_from 0 []) (take_all (length blocks) blocks (omega arith))
