-- The value of a key while a delete of it is under way: it stays until the last block.
use Rattle.std.proofs.Common.{◌≡◌, ◌≢◌, ◌<◌, ◌+◌, ℕ, Bool, true, false, cond, ◌||◌, ◌&&◌, ◌⊎◌, List, [], ◌∷◌, ◌++◌, length, map, take, suc, zero, Some, None, refl, sym, ◌∙◌, ap, subst, arith, inl, inr}
use Rattle.std.specs.List.{list_any, flat_map, filter_map, AllByRecursion}
use Rattle.std.specs.List.Sorted.{IsStrictlySortedBy}
use Rattle.std.specs.Option.{option_map}
use Rattle.std.specs.Str.{bytes_eq}
use Rattle.std.specs.Cmp.Lexicographic.{slice_cmp}
use Rattle.std.specs.Ordering.{is_eq, is_gt, nat_cmp, ordering_reverse, ordering_then}
use Rattle.std.specs.declared.cmp.Ordering.{Ordering}
use Rattle.std.specs.declared.cmp.Ordering.TheVariants.{Less, Equal, Greater}
use Rattle.std.proofs.lemmas.Cmp.{tied_itself, upto}
use Rattle.std.proofs.lemmas.List.{append-nil, append_assoc}
use Rattle.std.proofs.lemmas.List.Folds.{list_any-append}
use Rattle.std.proofs.lemmas.Slice.Eq.{bytes_eq-Decides}
use Rattle.std.proofs.lemmas.Bool.{false_from_ne_true, or_parts}
use Rattle.std.specs.Cmp.{Equal-is}
use Rattle.mc_base.specs.declared.cid.Cid.{Cid}
use Rattle.mc_model.specs.declared.block.Block.{Block}
use Rattle.mc_model.specs.declared.delta.Delta.{Delta}
use Rattle.mc_model.specs.Cuts.{Pair, IsCuts, pair_cmp, pair_in, pair_tomb, pairs}
use Rattle.mc_model.specs.Id.{id_text}
use Rattle.mc_model.specs.Live.{has_tomb, is_hidden, is_tomb, ranked_in, live_among, value, ranked_elements}
use Rattle.mc_model.specs.Made.{made_cid}
use Rattle.mc_model.specs.Rank.{Ranked, rank_cmp, greatest}
use Rattle.mc_model.proofs.Ascending.{ascending_ascends}
use Rattle.mc_model.proofs.Greatest.{rank_total, not_gt_itself}
use Rattle.mc_model.proofs.Live.{has_tomb-append, live_among-append}
use Rattle.mc_write.specs.PairOrder.{pair_total}
use Rattle.mc_write.proofs.Membership.{In, in_from_any, in_same, in_append_left, in_flat_map, from_flat_map, in_filter_map, from_filter_map}
use Rattle.mc_write.proofs.PairFacts.{pair_tied}
use Rattle.mc_write.proofs.TakenFacts.{greatest_is}
use Rattle.mc_plan.specs.Deletes.{chain_blocks}

-- the last of ascending pairs

pub record Top (first rest : List Pair) : Type 0 where
  pub last : Pair
  pub within : In last (first ++ rest)
  pub top : (pair : Pair) → In pair (first ++ rest) → (pair ≡ last) ⊎ (pair_cmp pair last ≡ Less)
  pub above : (pair : Pair) → In pair first → pair_cmp pair last ≡ Less

below_in : (x : Pair) (ys : List Pair) (y : Pair) → AllByRecursion (λ z. pair_cmp x z ≡ Less) ys → In y ys → pair_cmp x y ≡ Less
below_in x [] y b i = absurd i
below_in x (z ∷ ys) y b (inl same) = subst (λ w. pair_cmp x w ≡ Less) (sym same) b.0
below_in x (z ∷ ys) y b (inr i) = below_in x ys y b.1 i

top_first : (r : Pair) (rest : List Pair) → IsStrictlySortedBy pair_cmp (r ∷ rest) → Top [] (r ∷ rest)
unfolding IsStrictlySortedBy
top_first r [] s = record { last = r; within = inl refl; top = λ p i. elim i [ inl same ↦ inl same | inr j ↦ absurd j ]; above = λ p i. absurd i }
top_first r (q ∷ rest) s =
    let t : Top [] (q ∷ rest) = top_first q rest s.1 in
    record {
      last = t.last;
      within = inr t.within;
      top = λ p i. elim i [ inl same ↦ inr (subst (λ w. pair_cmp w t.last ≡ Less) (sym same) (below_in r (q ∷ rest) t.last s.0 t.within)) | inr j ↦ t.top p j ];
      above = λ p i. absurd i;
    }

top_of : (first rest : List Pair) → rest ≢ [] → IsStrictlySortedBy pair_cmp (first ++ rest) → Top first rest
unfolding IsStrictlySortedBy
top_of [] [] some s = absurd (some refl)
top_of [] (r ∷ rest) some s = top_first r rest s
top_of (f ∷ first) rest some s =
    let t : Top first rest = top_of first rest some s.1 in
    record {
      last = t.last;
      within = inr t.within;
      top = λ p i. elim i [ inl same ↦ inr (subst (λ w. pair_cmp w t.last ≡ Less) (sym same) (below_in f (first ++ rest) t.last s.0 t.within)) | inr j ↦ t.top p j ];
      above = λ p i. elim i [ inl same ↦ subst (λ w. pair_cmp w t.last ≡ Less) (sym same) (below_in f (first ++ rest) t.last s.0 t.within) | inr j ↦ t.above p j ];
    }

abbrev rank_of : Pair → Ranked
rank_of pair = (pair.priority, pair.value)

then_less : (a b : Ordering) → ordering_then a b ≡ Less → is_gt a ≡ false
then_less Less b e = refl
then_less Equal b e = refl
then_less Greater b e = absurd (let f : Greater ≡ Less = e in cc)

rank_below : (x y : Pair) → (x ≡ y) ⊎ (pair_cmp x y ≡ Less) → is_gt (rank_cmp (rank_of x) (rank_of y)) ≡ false
rank_below x y (inl same) = subst (λ z. is_gt (rank_cmp (rank_of x) (rank_of z)) ≡ false) same (ap is_gt (tied_itself rank_total (rank_of x)))
rank_below x y (inr less) = then_less (rank_cmp (rank_of x) (rank_of y)) (slice_cmp nat_cmp x.cid.0 y.cid.0) less

not_below_itself : (x : Pair) → pair_cmp x x ≡ Less → ⊥
not_below_itself x e = absurd (let f : Less ≡ Equal = sym e ∙ tied_itself pair_total x in cc)

-- the greatest of some values, as one of them

pub record Greatest (ranked : List Ranked) : Type 0 where
  pub best : Ranked
  pub is : greatest ranked ≡ Some best
  pub within : In best ranked
  pub bound : (x : Ranked) → In x ranked → is_gt (rank_cmp x best) ≡ false

turn : (o p : Ordering) → o ≡ ordering_reverse p → is_gt o ≡ true → is_gt p ≡ false
turn o Less e g = refl
turn o Equal e g = refl
turn o Greater e g = absurd (let f : false ≡ true = sym (ap is_gt e) ∙ g in cc)

greatest_of : (ranked : List Ranked) (best : Ranked) → In best ranked → ((x : Ranked) → In x ranked → is_gt (rank_cmp x best) ≡ false) → Greatest ranked
greatest_of ranked best i bound = record { best = best; is = greatest_is ranked best i bound; within = i; bound = bound }

some_greatest : (x : Ranked) (ranked : List Ranked) → Greatest (x ∷ ranked)
some_greatest x [] = greatest_of (x ∷ []) x (inl refl) (λ y i. elim i [ inl same ↦ subst (λ z. is_gt (rank_cmp z x) ≡ false) (sym same) (not_gt_itself x) | inr j ↦ absurd j ])
some_greatest x (y ∷ ranked) =
    let g : Greatest (y ∷ ranked) = some_greatest y ranked in
    elim (is_gt (rank_cmp x g.best)) as (λ t. is_gt (rank_cmp x g.best) ≡ t → Greatest (x ∷ y ∷ ranked)) [
      | true ↦ λ e. greatest_of (x ∷ y ∷ ranked) x (inl refl) (λ z i. elim i [
        | inl same ↦ subst (λ w. is_gt (rank_cmp w x) ≡ false) (sym same) (not_gt_itself x)
        | inr j ↦ upto rank_total z g.best x (g.bound z j) (turn (rank_cmp x g.best) (rank_cmp g.best x) (rank_total.antisymm x g.best) e)
      ])
      | false ↦ λ e. greatest_of (x ∷ y ∷ ranked) g.best (inr g.within) (λ z i. elim i [
        | inl same ↦ subst (λ w. is_gt (rank_cmp w g.best) ≡ false) (sym same) e
        | inr j ↦ g.bound z j
      ])
    ] refl

greatest_with : (x : Ranked) (ranked : List Ranked) → In x ranked → Greatest ranked
greatest_with x [] i = absurd i
greatest_with x (y ∷ ranked) i = some_greatest y ranked

-- what a pair says of its block

pub record IsPairOf (blocks : List Block) (key : List ℕ) (block : Block) (pair : Pair) : Type 0 where
  pub shown : is_hidden blocks key block ≡ false
  pub has : In (rank_of pair) (ranked_in key block)
  pub own : pair.cid ≡ block.cid

abbrev pair_with : Block → Ranked → Pair
pair_with block best = record { priority = best.0; value = best.1; cid = block.cid }

some_is : (x y : Pair) → Some x ≡ Some y → x ≡ y
some_is x y e = cc

best_pair : (block : Block) (pair : Pair) (ranked : List Ranked) → option_map (pair_with block) (greatest (ranked ++ [])) ≡ Some pair → In (rank_of pair) ranked × (pair.cid ≡ block.cid)
best_pair block pair [] e = absurd (let f : None ≡ Some pair = e in cc)
best_pair block pair (x ∷ ranked) e =
    let g : Greatest (x ∷ ranked) = some_greatest x ranked in
    let is : pair_with block g.best ≡ pair = some_is (pair_with block g.best) pair (sym (ap (option_map (pair_with block)) (ap greatest (append-nil (x ∷ ranked)) ∙ g.is)) ∙ e) in
    (subst (λ (p : Pair). In (rank_of p) (x ∷ ranked)) is g.within, ap (λ (p : Pair). p.cid) (sym is))

pair_of : (blocks : List Block) (key : List ℕ) (block : Block) (pair : Pair) → pair_in blocks key block ≡ Some pair → IsPairOf blocks key block pair
pair_of blocks key block pair e =
    elim (is_hidden blocks key block) as (λ t. is_hidden blocks key block ≡ t → option_map (pair_with block) (greatest (cond t [] (ranked_in key block) ++ [])) ≡ Some pair → IsPairOf blocks key block pair) [
      | true ↦ λ t f. absurd (let g : None ≡ Some pair = f in cc)
      | false ↦ λ t f. let best = best_pair block pair (ranked_in key block) f in record { shown = t; has = best.0; own = best.1 }
    ] refl e

-- each live element is at most the pair of its block
pair_over : (blocks : List Block) (key : List ℕ) (block : Block) (x : Ranked) → is_hidden blocks key block ≡ false → In x (ranked_in key block)
    → (pair : Pair) × (pair_in blocks key block ≡ Some pair) × (is_gt (rank_cmp x (rank_of pair)) ≡ false)
pair_over blocks key block x shown i =
    let g : Greatest (ranked_in key block) = greatest_with x (ranked_in key block) i in (
      pair_with block g.best,
      ap (λ t. option_map (pair_with block) (greatest (cond t [] (ranked_in key block) ++ []))) shown ∙ ap (λ l. option_map (pair_with block) (greatest l)) (append-nil (ranked_in key block)) ∙ ap (option_map (pair_with block)) g.is,
      g.bound x i,
    )

-- the pairs of all blocks

abbrev same_pair : Pair → Pair → Bool
same_pair a b = is_eq (pair_cmp a b)

same_itself : (x : Pair) → same_pair x x ≡ true
same_itself x = ap is_eq (tied_itself pair_total x)

same_tied : (x y : Pair) → same_pair x y ≡ true → x ≡ y
same_tied x y e = pair_tied x y ((Equal-is (pair_cmp x y)).0 e)

to_pairs : (blocks : List Block) (key : List ℕ) (pair : Pair) → In pair (filter_map (pair_in blocks key) blocks) → In pair (pairs blocks key)
to_pairs blocks key pair i =
    let ascends = ascending_ascends pair_cmp pair_total pair_tied (filter_map (pair_in blocks key) blocks) in
    in_same same_pair same_itself same_tied (filter_map (pair_in blocks key) blocks) (pairs blocks key) (record { same = λ test. sym (ascends.members.same test) }) pair i

from_pairs : (blocks : List Block) (key : List ℕ) (pair : Pair) → In pair (pairs blocks key) → In pair (filter_map (pair_in blocks key) blocks)
from_pairs blocks key pair i =
    let ascends = ascending_ascends pair_cmp pair_total pair_tied (filter_map (pair_in blocks key) blocks) in
    in_same same_pair same_itself same_tied (pairs blocks key) (filter_map (pair_in blocks key) blocks) ascends.members pair i

-- where the block of the last pair is shown, its value is the greatest

abbrev shown_by : (Block → Bool) → List ℕ → Block → List Ranked
shown_by hide key block = cond (hide block) [] (ranked_in key block)

top_shown : (blocks : List Block) (key : List ℕ) (hide : Block → Bool) (last : Pair) (block : Block) → In block blocks → hide block ≡ false → In (rank_of last) (ranked_in key block)
    → ((other : Block) → hide other ≡ false → is_hidden blocks key other ≡ false) → ((pair : Pair) → In pair (pairs blocks key) → is_gt (rank_cmp (rank_of pair) (rank_of last)) ≡ false)
    → greatest (flat_map (shown_by hide key) blocks) ≡ Some (rank_of last)
top_shown blocks key hide last block within free has shown bound =
    greatest_is (flat_map (shown_by hide key) blocks) (rank_of last)
    (in_flat_map (shown_by hide key) block (rank_of last) blocks within (subst (λ t. In (rank_of last) (cond t [] (ranked_in key block))) (sym free) has))
    (λ x i. let found = from_flat_map (shown_by hide key) x blocks i in at_most x found.item found.within found.has)
  where
    at_most : (x : Ranked) (other : Block) → In other blocks → In x (shown_by hide key other) → is_gt (rank_cmp x (rank_of last)) ≡ false
    at_most x other within i =
        elim (hide other) as (λ t. hide other ≡ t → In x (cond t [] (ranked_in key other)) → is_gt (rank_cmp x (rank_of last)) ≡ false) [
          | true ↦ λ e j. absurd j
          | false ↦ λ e j.
              let over = pair_over blocks key other x (shown other e) j in
              upto rank_total x (rank_of over.0) (rank_of last) over.2 (bound over.0 (to_pairs blocks key over.0 (in_filter_map (pair_in blocks key) other over.0 blocks within over.1)))
        ] refl i

-- tombstones for the first pairs, and for no others, leave the value

abbrev pub hidden_by : List Pair → List ℕ → Bool
hidden_by taken id = list_any (λ (pair : Pair). bytes_eq (id_text pair.cid.0) id) taken

-- no two of the blocks have one identifier, nor one id
abbrev pub AreOwn : (Cid → Block) → List Block → Type 0
AreOwn own blocks = (block : Block) → In block blocks → own block.cid ≡ block

abbrev pub HaveIds : List Block → Type 0
HaveIds blocks = (a b : Block) → In a blocks → In b blocks → id_text a.cid.0 ≡ id_text b.cid.0 → a.cid ≡ b.cid

last_is_free : (own : Cid → Block) (blocks : List Block) (key : List ℕ) (first rest : List Pair) → AreOwn own blocks → HaveIds blocks → pairs blocks key ≡ first ++ rest → (t : Top first rest) (block : Block) → In block blocks
    → pair_in blocks key block ≡ Some t.last → hidden_by first (id_text block.cid.0) ≡ false
last_is_free own blocks key first rest owned apart split t block within gives = false_from_ne_true (hidden_by first (id_text block.cid.0)) (λ e.
    let found = in_from_any (λ (pair : Pair). bytes_eq (id_text pair.cid.0) (id_text block.cid.0)) first e in
    let given = from_filter_map (pair_in blocks key) found.item blocks (from_pairs blocks key found.item (subst (In found.item) (sym split) (in_append_left found.item first rest found.within))) in
    let pair = pair_of blocks key given.item found.item given.gives in
    let id : id_text given.item.cid.0 ≡ id_text block.cid.0 = ap (λ (c : Cid). id_text c.0) (sym pair.own) ∙ (bytes_eq-Decides (id_text found.item.cid.0) (id_text block.cid.0)).0 found.passes in
    let same : given.item ≡ block = sym (owned given.item given.within) ∙ ap own (apart given.item block given.within within id) ∙ owned block within in
    let is : found.item ≡ t.last = some_is found.item t.last (sym given.gives ∙ ap (pair_in blocks key) same ∙ gives) in
    not_below_itself t.last (subst (λ p. pair_cmp p t.last ≡ Less) is (t.above found.item found.within)))

pub value_stays : (own : Cid → Block) (blocks more : List Block) (key : List ℕ) (first rest : List Pair) → AreOwn own blocks → HaveIds blocks → pairs blocks key ≡ first ++ rest → rest ≢ []
    → ((id : List ℕ) → has_tomb more key id ≡ hidden_by first id) → live_among (blocks ++ more) key more ≡ [] → value (blocks ++ more) key ≡ value blocks key
value_stays own blocks more key first rest owned apart split some tombs none =
    let sorted : IsStrictlySortedBy pair_cmp (first ++ rest) = subst (IsStrictlySortedBy pair_cmp) split (ascending_ascends pair_cmp pair_total pair_tied (filter_map (pair_in blocks key) blocks)).sorted in
    let t : Top first rest = top_of first rest some sorted in
    let given = from_filter_map (pair_in blocks key) t.last blocks (from_pairs blocks key t.last (subst (In t.last) (sym split) t.within)) in
    let pair = pair_of blocks key given.item t.last given.gives in
    let bound : (p : Pair) → In p (pairs blocks key) → is_gt (rank_cmp (rank_of p) (rank_of t.last)) ≡ false = λ p i. rank_below p t.last (t.top p (subst (In p) split i)) in
    let free = last_is_free own blocks key first rest owned apart split t given.item given.within given.gives in
    let hides : (b : Block) → is_hidden (blocks ++ more) key b ≡ (is_hidden blocks key b || has_tomb more key (id_text b.cid.0)) = λ b. has_tomb-append blocks more key (id_text b.cid.0) in
    let old : greatest (live_among blocks key blocks) ≡ Some (rank_of t.last) = top_shown blocks key (is_hidden blocks key) t.last given.item given.within pair.shown pair.has (λ b e. e) bound in
    let new : greatest (live_among (blocks ++ more) key blocks) ≡ Some (rank_of t.last) =
    top_shown blocks key (is_hidden (blocks ++ more) key) t.last given.item given.within
    (hides given.item ∙ ap (λ b. b || has_tomb more key (id_text given.item.cid.0)) pair.shown ∙ tombs (id_text given.item.cid.0) ∙ free) pair.has
    (λ b e. (or_parts (is_hidden blocks key b) (has_tomb more key (id_text b.cid.0)) (sym (hides b) ∙ e)).0) bound in
    ap (λ l. option_map (λ (r : Ranked). r.1) (greatest l)) (live_among-append (blocks ++ more) blocks more key ∙ ap (λ l. live_among (blocks ++ more) key blocks ++ l) none ∙ append-nil (live_among (blocks ++ more) key blocks))
    ∙ ap (option_map (λ (r : Ranked). r.1)) (new ∙ sym old)

-- some first blocks of a delete have the tombstones of some first pairs

nothing_live : (all more : List Block) (key : List ℕ) → AllByRecursion (λ (block : Block). block.delta.elements ≡ []) more → live_among all key more ≡ []
nothing_live all [] key none = refl
nothing_live all (block ∷ more) key none =
    ap (λ elements. cond (is_hidden all key block) [] (ranked_elements block.delta.priority elements key) ++ live_among all key more) none.0
    ∙ elim (is_hidden all key block) as (λ t. ◌≡◌ {A = List Ranked} (cond t [] [] ++ live_among all key more) []) [ true ↦ nothing_live all more key none.1 | false ↦ nothing_live all more key none.1 ]

pub record IsPart (key : List ℕ) (pairs : List Pair) (blocks : List Block) : Type 0 where
  pub first : List Pair
  pub rest : List Pair
  pub split : pairs ≡ first ++ rest
  pub some : rest ≢ []
  pub tombs : (id : List ℕ) → has_tomb blocks key id ≡ hidden_by first id
  pub none : AllByRecursion (λ (block : Block). block.delta.elements ≡ []) blocks

tomb_is : (key id : List ℕ) (taken : List Pair) → list_any (is_tomb key id) (map (pair_tomb key) taken) ≡ hidden_by taken id
tomb_is key id [] = refl
tomb_is key id (pair ∷ taken) =
    ap (λ t. (t && bytes_eq (id_text pair.cid.0) id) || list_any (is_tomb key id) (map (pair_tomb key) taken)) ((bytes_eq-Decides key key).1 refl)
    ∙ ap (λ rest. bytes_eq (id_text pair.cid.0) id || rest) (tomb_is key id taken)

some_append : (xs ys : List Pair) → xs ≢ [] → xs ++ ys ≢ []
some_append [] ys some e = some refl
some_append (x ∷ xs) ys some e = absurd (let f : false ≡ true = ap is_nil e in cc)
  where
    is_nil : List Pair → Bool
    is_nil [] = true
    is_nil (y ∷ zs) = false

pub part_of : (n : ℕ) (links : List Cid) (priority : ℕ) (key : List ℕ) (pairs : List Pair) (deltas : List Delta) → IsCuts links priority key pairs deltas → n < length deltas
    → IsPart key pairs (chain_blocks links (take n deltas))
part_of zero links priority key pairs [] cuts less = absurd (omega (arith, less))
part_of zero links priority key pairs (delta ∷ deltas) (taken, rest, split, cut, cuts) less =
    record { first = []; rest = pairs; split = refl; some = λ e. some_append taken rest cut.some (sym split ∙ e); tombs = λ id. refl; none = tt }
part_of (suc n) links priority key pairs [] cuts less = absurd (omega (arith, less))
part_of (suc n) links priority key pairs (delta ∷ deltas) (taken, rest, split, cut, cuts) less =
    let part : IsPart key rest (chain_blocks (made_cid links delta ∷ []) (take n deltas)) = part_of n (made_cid links delta ∷ []) (priority + 1) key rest deltas cuts (omega (arith, less)) in
    record {
      first = taken ++ part.first;
      rest = part.rest;
      split = split ∙ ap (λ l. taken ++ l) part.split ∙ sym (append_assoc taken part.first part.rest);
      some = part.some;
      tombs = λ id.
          ap (λ (d : Delta). list_any (is_tomb key id) d.tombstones || has_tomb (chain_blocks (made_cid links delta ∷ []) (take n deltas)) key id) cut.made
          ∙ ap (λ b. b || has_tomb (chain_blocks (made_cid links delta ∷ []) (take n deltas)) key id) (tomb_is key id taken)
          ∙ ap (λ b. hidden_by taken id || b) (part.tombs id)
          ∙ sym (list_any-append (λ (pair : Pair). bytes_eq (id_text pair.cid.0) id) taken part.first);
      none = (ap (λ (d : Delta). d.elements) cut.made, part.none);
    }

pub value_of_part : (own : Cid → Block) (blocks : List Block) (n : ℕ) (links : List Cid) (priority : ℕ) (key : List ℕ) (deltas : List Delta) → AreOwn own blocks → HaveIds blocks
    → IsCuts links priority key (pairs blocks key) deltas → n < length deltas → value (blocks ++ chain_blocks links (take n deltas)) key ≡ value blocks key
value_of_part own blocks n links priority key deltas owned apart cuts less =
    let part : IsPart key (pairs blocks key) (chain_blocks links (take n deltas)) = part_of n links priority key (pairs blocks key) deltas cuts less in
    value_stays own blocks (chain_blocks links (take n deltas)) key part.first part.rest owned apart part.split part.some part.tombs
    (nothing_live (blocks ++ chain_blocks links (take n deltas)) (chain_blocks links (take n deltas)) key part.none)
