-- A block comes to a group.
use Rattle.std.proofs.Common.{◌≡◌, ℕ, ◌+◌, ◌≤◌, Bool, true, false, not, cond, ◌&&◌, ◌||◌, List, [], ◌∷◌, ◌++◌, length, map, filter, drop, Option, Some, None, Result, Ok, Err, refl, sym, ap, ◌∙◌, subst, arith}
use Rattle.std.specs.Prelude.{IfOk, IfSome, unwrap_or, is_some}
use Rattle.std.specs.Option.{option_map}
use Rattle.std.specs.Result.{result_ok}
use Rattle.std.proofs.lemmas.Bool.{or_right, false≢true}
use Rattle.std.proofs.lemmas.List.{append_assoc, append-nil}
use Rattle.mc_base.specs.declared.cid.Cid.{Cid}
use Rattle.mc_block.specs.declared.verified.Verified.{Verified}
use Rattle.mc_model.specs.declared.block.Block.{Block}
use Rattle.mc_model.specs.declared.block.Stored.{Stored}
use Rattle.mc_model.specs.Front.{same_cid}
use Rattle.mc_model.specs.Graph.{has, in_graph}
use Rattle.mc_model.specs.Kept.{Kept, IsKept, block_in, block_under, bytes_at, cids_of, is_stored}
use Rattle.mc_model.specs.Offer.{block_of, empty_delta, is_good, offer}
use Rattle.mc_model.specs.State.{durable_of, vertices}
use Rattle.mc_model.specs.Wanted.{others}
use Rattle.mc_model.proofs.Blocks.{in_graph_stored}
use Rattle.mc_model.proofs.Counts.{cid_is, same_cid-symm}
use Rattle.mc_inbox.specs.Groups.{group_of, to_store}
use Rattle.mc_inbox.specs.Waiting.{as_stored, first_of}
use Rattle.mc_plan.proofs.JobFacts.{stored_good}
use Rattle.mc_group.specs.declared.group.Fate.{Fate}
use Rattle.mc_group.specs.declared.group.Fate.TheVariants as fate
use Rattle.mc_group.specs.declared.group.Slot.{Slot}
use Rattle.mc_group.specs.declared.group.Slot.TheVariants.{Known, Held, New}
use Rattle.mc_group.specs.Gathering.{AreHeld, FateFits, IsGroup, IsGroupOver, IsHeld, IsNamed, IsPut, block_at, blocks_left, is_known, is_taken, item_of, items_of, picked, stores_in}

-- more slots

pub items_more : (slots : List Slot) (slot : Slot) → items_of (slots ++ slot ∷ []) ≡ items_of slots ++ item_of slot ∷ []
items_more [] slot = refl
items_more (s ∷ slots) slot = ap (λ xs. item_of s ∷ xs) (items_more slots slot)

picked_more : (slots : List Slot) (slot : Slot) → picked (slots ++ slot ∷ []) ≡ picked slots ++ cond (is_taken slot) (item_of slot ∷ []) []
picked_more [] slot = elim (is_taken slot) as (λ b. items_of (cond b (slot ∷ []) []) ≡ cond b (item_of slot ∷ []) []) [ true ↦ refl | false ↦ refl ]
picked_more (s ∷ slots) slot =
    elim (is_taken s) as (λ b. items_of (cond b (s ∷ filter is_taken (slots ++ slot ∷ [])) (filter is_taken (slots ++ slot ∷ []))) ≡ items_of (cond b (s ∷ filter is_taken slots) (filter is_taken slots)) ++ cond (is_taken slot) (item_of slot ∷ []) []) [
      | true ↦ ap (λ xs. item_of s ∷ xs) (picked_more slots slot)
      | false ↦ picked_more slots slot
    ]

stores_more : (slots : List Slot) (slot : Slot) → stores_in (slots ++ slot ∷ []) ≡ stores_in slots ++ stores_in (slot ∷ [])
stores_more [] slot = refl
stores_more (Known v ∷ slots) slot = stores_more slots slot
stores_more (Held v ∷ slots) slot = stores_more slots slot
stores_more (New s ∷ slots) slot = ap (λ xs. s ∷ xs) (stores_more slots slot)

pub slots_length : (slots : List Slot) (slot : Slot) → length (slots ++ slot ∷ []) ≡ length slots + 1
slots_length [] slot = refl
slots_length (s ∷ slots) slot = let more = slots_length slots slot in omega (arith, more)

one_length : {X : Type 0} (xs : List X) (x : X) → length (xs ++ x ∷ []) ≡ length xs + 1
one_length [] x = refl
one_length (y ∷ xs) x = let more = one_length xs x in omega (arith, more)

map_more : {X Y : Type 0} (f : X → Y) (xs : List X) (x : X) → map f (xs ++ x ∷ []) ≡ map f xs ++ f x ∷ []
map_more f [] x = refl
map_more f (y ∷ xs) x = ap (λ ys. f y ∷ ys) (map_more f xs x)

-- the blocks of the slots

held_known : (slots : List Slot) (blocks : List Block) (v : Verified) → AreHeld slots blocks → AreHeld (slots ++ Known v ∷ []) blocks
held_known [] blocks v h = (tt, h)
held_known (s ∷ slots) blocks v h = (h.0, held_known slots (blocks_left s blocks) v h.1)

-- a block behind the others leaves the first one where it is
front_held : (slot : Slot) (blocks : List Block) (b : Block) → IsHeld slot blocks → IsHeld slot (blocks ++ b ∷ [])
front_held (Known v) blocks b h = tt
front_held (Held v) [] b h = absurd h
front_held (Held v) (x ∷ blocks) b h = h
front_held (New s) [] b h = absurd h
front_held (New s) (x ∷ blocks) b h = h

left_more : (slot : Slot) (blocks : List Block) (b : Block) → IsHeld slot blocks → blocks_left slot blocks ++ b ∷ [] ≡ blocks_left slot (blocks ++ b ∷ [])
left_more (Known v) blocks b h = refl
left_more (Held v) [] b h = absurd h
left_more (Held v) (x ∷ blocks) b h = refl
left_more (New s) [] b h = absurd h
left_more (New s) (x ∷ blocks) b h = refl

held_more : (slots : List Slot) (blocks : List Block) (slot : Slot) (b : Block) → AreHeld slots blocks → IsHeld slot (b ∷ []) → blocks_left slot (b ∷ []) ≡ [] → AreHeld (slots ++ slot ∷ []) (blocks ++ b ∷ [])
held_more [] blocks slot b h first none = (subst (λ xs. IsHeld slot (xs ++ b ∷ [])) (sym h) first, ap (λ xs. blocks_left slot (xs ++ b ∷ [])) h ∙ none)
held_more (s ∷ slots) blocks slot b h first none = (
  front_held s blocks b h.0,
  subst (AreHeld (slots ++ slot ∷ [])) (left_more s blocks b h.0) (held_more slots (blocks_left s blocks) slot b h.1 first none),
)

-- which are taken up

no_true : false ≡ true → ⊥
no_true e = false≢true e

and_no : (b : Bool) → false ≡ (b && false)
and_no true = refl
and_no false = refl

has_others : (c x : Cid) (flight : List Cid) → has c (others flight x) ≡ (has c flight && not (same_cid c x))
has_others c x [] = refl
has_others c x (d ∷ flight) = by_test (has_others c x flight) (same_cid d x) (same_cid c d) (same_cid c x) refl refl refl
  where
    by_test : has c (others flight x) ≡ (has c flight && not (same_cid c x)) → (p q r : Bool) → same_cid d x ≡ p → same_cid c d ≡ q → same_cid c x ≡ r → has c (cond (not p) (d ∷ others flight x) (others flight x)) ≡ ((q || has c flight) && not r)
    by_test ih true true true dx cd cx = ih ∙ ap (λ t. has c flight && not t) cx ∙ sym (and_no (has c flight))
    by_test ih true true false dx cd cx = absurd (no_true (sym cx ∙ (ap (λ (z : Cid). same_cid z x) (cid_is c d cd) ∙ dx)))
    by_test ih true false r dx cd cx = ih ∙ ap (λ t. has c flight && not t) cx
    by_test ih false true true dx cd cx = absurd (no_true (sym dx ∙ (ap (λ (z : Cid). same_cid z x) (sym (cid_is c d cd)) ∙ cx)))
    by_test ih false true false dx cd cx = ap (λ t. t || has c (others flight x)) cd
    by_test ih false false r dx cd cx = ap (λ t. t || has c (others flight x)) cd ∙ ih ∙ ap (λ t. has c flight && not t) cx

and_or : (h s g : Bool) → ((h && not s) && not g) ≡ (h && not (s || g))
and_or true true g = refl
and_or true false g = refl
and_or false s g = refl

pub group_more : (flight : List Cid) (items : List Stored) (x : Stored) → group_of flight (items ++ x ∷ []) ≡ group_of flight items ++ cond (has x.cid flight && not (has x.cid (cids_of (group_of flight items)))) (x ∷ []) []
group_more flight [] x = elim (has x.cid flight) as (λ b. cond b (x ∷ []) [] ≡ cond (b && true) (x ∷ []) []) [ true ↦ refl | false ↦ refl ]
group_more flight (i ∷ items) x =
    elim (has i.cid flight) as (λ b. cond b (i ∷ group_of (others flight i.cid) (items ++ x ∷ [])) (group_of flight (items ++ x ∷ []))
    ≡ cond b (i ∷ group_of (others flight i.cid) items) (group_of flight items) ++ cond (has x.cid flight && not (has x.cid (cids_of (cond b (i ∷ group_of (others flight i.cid) items) (group_of flight items))))) (x ∷ []) []) [
      | true ↦ ap (λ xs. i ∷ xs) (group_more (others flight i.cid) items x)
          ∙ ap (λ t. i ∷ group_of (others flight i.cid) items ++ cond t (x ∷ []) [])
          (ap (λ t. t && not (has x.cid (cids_of (group_of (others flight i.cid) items)))) (has_others x.cid i.cid flight) ∙ and_or (has x.cid flight) (same_cid x.cid i.cid) (has x.cid (cids_of (group_of (others flight i.cid) items))))
      | false ↦ group_more flight items x
    ]

-- one that is not taken up, or is
module _ (flight : List Cid) (slots : List Slot) (blocks : List Block) (cids : List Cid) (g : IsGroup flight slots blocks cids) where
  some_more : (slot : Slot) → is_taken slot ≡ (has (item_of slot).cid flight && not (has (item_of slot).cid cids)) → picked (slots ++ slot ∷ []) ≡ group_of flight (items_of (slots ++ slot ∷ []))
  some_more slot due =
      picked_more slots slot
      ∙ (λ i. g.some i ++ cond (due i) (item_of slot ∷ []) [])
      ∙ ap (λ (cs : List Cid). group_of flight (items_of slots) ++ cond (has (item_of slot).cid flight && not (has (item_of slot).cid cs)) (item_of slot ∷ []) []) (g.named ∙ ap cids_of g.some)
      ∙ sym (group_more flight (items_of slots) (item_of slot))
      ∙ ap (group_of flight) (sym (items_more slots slot))

  out_group : (v : Verified) → false ≡ (has v.cid flight && not (has v.cid cids)) → IsGroup flight (slots ++ Known v ∷ []) blocks cids
  out_group v due = record {
    some = some_more (Known v) due;
    held = held_known slots blocks v g.held;
    named = g.named ∙ ap cids_of (sym (append-nil (picked slots)) ∙ sym (picked_more slots (Known v)));
    blocks_named = g.blocks_named;
    few_blocks = let n = slots_length slots (Known v) in let f = g.few_blocks in omega (arith, n, f);
    few_cids = let n = slots_length slots (Known v) in let f = g.few_cids in omega (arith, n, f);
  }

  in_group : (slot : Slot) (b : Block) → is_taken slot ≡ true → true ≡ (has (item_of slot).cid flight && not (has (item_of slot).cid cids)) → IsHeld slot (b ∷ []) → blocks_left slot (b ∷ []) ≡ [] → b.cid ≡ (item_of slot).cid
      → IsGroup flight (slots ++ slot ∷ []) (blocks ++ b ∷ []) (cids ++ (item_of slot).cid ∷ [])
  in_group slot b taken due first none named = record {
    some = some_more slot (taken ∙ due);
    held = held_more slots blocks slot b g.held first none;
    named = ap (λ cs. cs ++ (item_of slot).cid ∷ []) g.named ∙ sym (ap cids_of (picked_more slots slot ∙ ap (λ t. picked slots ++ cond t (item_of slot ∷ []) []) taken) ∙ map_more (λ (stored : Stored). stored.cid) (picked slots) (item_of slot));
    blocks_named = map_more (λ (block : Block). block.cid) blocks b ∙ (λ i. g.blocks_named i ++ named i ∷ []);
    few_blocks = let n = slots_length slots slot in let m = one_length blocks b in let f = g.few_blocks in omega (arith, n, m, f);
    few_cids = let n = slots_length slots slot in let m = one_length cids (item_of slot).cid in let f = g.few_cids in omega (arith, n, m, f);
  }

  pub put_group : (f : Fate) (v : Verified) (slots_new : List Slot) (blocks_new : List Block) (cids_new : List Cid) → IsPut f v slots blocks cids slots_new blocks_new cids_new
      → is_known f ≡ not (has v.cid flight && not (has v.cid cids)) → IsNamed v.cid f → IsGroup flight slots_new blocks_new cids_new
  put_group fate.Known v slots_new blocks_new cids_new put due named =
      subst (λ s. IsGroup flight s blocks_new cids_new) (sym put.0) (subst (λ b. IsGroup flight (slots ++ Known v ∷ []) b cids_new) (sym put.1) (subst (λ c. IsGroup flight (slots ++ Known v ∷ []) blocks c) (sym put.2) (out_group v (flip_true _ due))))
    where
      flip_true : (b : Bool) → true ≡ not b → false ≡ b
      flip_true true e = absurd (no_true (sym e))
      flip_true false e = refl
  put_group (fate.Held b) v slots_new blocks_new cids_new put due named =
      subst (λ s. IsGroup flight s blocks_new cids_new) (sym put.0) (subst (λ bs. IsGroup flight (slots ++ Held v ∷ []) bs cids_new) (sym put.1) (subst (λ c. IsGroup flight (slots ++ Held v ∷ []) (blocks ++ b ∷ []) c) (sym put.2)
      (in_group (Held v) b refl (flip_false _ due) named refl named)))
    where
      flip_false : (b : Bool) → false ≡ not b → true ≡ b
      flip_false true e = refl
      flip_false false e = absurd (no_true e)
  put_group fate.New v slots_new blocks_new cids_new put due named =
      subst (λ s. IsGroup flight s blocks_new cids_new) (sym put.0) (subst (λ bs. IsGroup flight (slots ++ New (as_stored v) ∷ []) bs cids_new) (sym put.1) (subst (λ c. IsGroup flight (slots ++ New (as_stored v) ∷ []) (blocks ++ v.block ∷ []) c) (sym put.2)
      (in_group (New (as_stored v)) v.block refl (flip_false _ due) (v.good, v.named) refl v.named)))
    where
      flip_false : (b : Bool) → false ≡ not b → true ≡ b
      flip_false true e = refl
      flip_false false e = absurd (no_true e)

pub put_items : (f : Fate) (v : Verified) (slots : List Slot) (blocks : List Block) (cids : List Cid) (slots_new : List Slot) (blocks_new : List Block) (cids_new : List Cid) (old new : List Stored) → IsPut f v slots blocks cids slots_new blocks_new cids_new
    → old ≡ as_stored v ∷ new → items_of slots ++ old ≡ items_of slots_new ++ new
put_items f v slots blocks cids slots_new blocks_new cids_new old new put is = by_fate f put
  where
    over : (slot : Slot) → item_of slot ≡ as_stored v → slots_new ≡ slots ++ slot ∷ [] → items_of slots ++ old ≡ items_of slots_new ++ new
    over slot item e =
        ap (λ xs. items_of slots ++ xs) (is ∙ ap (λ x. x ∷ new) (sym item))
        ∙ sym (append_assoc (items_of slots) (item_of slot ∷ []) new)
        ∙ ap (λ xs. xs ++ new) (sym (items_more slots slot) ∙ ap items_of (sym e))

    by_fate : (f : Fate) → IsPut f v slots blocks cids slots_new blocks_new cids_new → items_of slots ++ old ≡ items_of slots_new ++ new
    by_fate fate.Known put = over (Known v) refl put.0
    by_fate (fate.Held b) put = over (Held v) refl put.0
    by_fate fate.New put = over (New (as_stored v)) refl put.0

pub put_one : (f : Fate) (v : Verified) (slots : List Slot) (blocks : List Block) (cids : List Cid) (slots_new : List Slot) (blocks_new : List Block) (cids_new : List Cid) → IsPut f v slots blocks cids slots_new blocks_new cids_new → length slots_new ≡ length slots + 1
put_one fate.Known v slots blocks cids slots_new blocks_new cids_new put = ap length put.0 ∙ slots_length slots (Known v)
put_one (fate.Held b) v slots blocks cids slots_new blocks_new cids_new put = ap length put.0 ∙ slots_length slots (Held v)
put_one fate.New v slots blocks cids slots_new blocks_new cids_new put = ap length put.0 ∙ slots_length slots (New (as_stored v))

-- over what is stored

to_store_more : (kept : Kept) (group : List Stored) (x : Stored) → to_store (durable_of kept).graph (group ++ x ∷ []) ≡ to_store (durable_of kept).graph group ++ cond (is_stored kept.graph x.cid) [] (x ∷ [])
to_store_more kept [] x = ap (λ t. cond t [] (x ∷ [])) (in_graph_stored kept.graph x.cid)
to_store_more kept (y ∷ group) x =
    elim (in_graph (durable_of kept).graph y.cid) as (λ b. cond b (to_store (durable_of kept).graph (group ++ x ∷ [])) (y ∷ to_store (durable_of kept).graph (group ++ x ∷ []))
    ≡ cond b (to_store (durable_of kept).graph group) (y ∷ to_store (durable_of kept).graph group) ++ cond (is_stored kept.graph x.cid) [] (x ∷ [])) [
      | true ↦ to_store_more kept group x
      | false ↦ ap (λ xs. y ∷ xs) (to_store_more kept group x)
    ]

stored_block_is : (graph : List Stored) (x : Stored) → is_stored graph x.cid ≡ true → block_in graph x.cid ≡ block_at graph x
stored_block_is graph x e = by_bytes (bytes_at graph x.cid) e
  where
    by_bytes : (b : Option (List ℕ)) → is_some b ≡ true → block_under x.cid b ≡ block_of x.cid (unwrap_or b x.bytes)
    by_bytes None e = absurd (no_true e)
    by_bytes (Some bytes) e = refl

new_block_is : (graph : List Stored) (v : Verified) → is_stored graph v.cid ≡ false → v.block ≡ block_at graph (as_stored v)
new_block_is graph v e = by_bytes (bytes_at graph v.cid) e
  where
    by_bytes : (b : Option (List ℕ)) → is_some b ≡ false → v.block ≡ block_of v.cid (unwrap_or b v.bytes)
    by_bytes None e = sym (ap (λ r. unwrap_or (result_ok r) (record { cid = v.cid; links = []; delta = empty_delta })) v.good)
    by_bytes (Some bytes) e = absurd (no_true (sym e))

module _ (kept : Kept) (slots : List Slot) (blocks : List Block) (cids : List Cid) (o : IsGroupOver kept slots blocks) where
  in_over : (slot : Slot) (b : Block) → is_taken slot ≡ true → b ≡ block_at kept.graph (item_of slot) → stores_in (slot ∷ []) ≡ cond (is_stored kept.graph (item_of slot).cid) [] (item_of slot ∷ []) → IsGroupOver kept (slots ++ slot ∷ []) (blocks ++ b ∷ [])
  in_over slot b taken is stores =
      let more : picked (slots ++ slot ∷ []) ≡ picked slots ++ item_of slot ∷ [] = picked_more slots slot ∙ ap (λ t. picked slots ++ cond t (item_of slot ∷ []) []) taken in
      record {
        blocks_are = (λ i. o.blocks_are i ++ is i ∷ []) ∙ sym (map_more (block_at kept.graph) (picked slots) (item_of slot)) ∙ ap (map (block_at kept.graph)) (sym more);
        stores_are = stores_more slots slot ∙ (λ i. o.stores_are i ++ stores i) ∙ sym (to_store_more kept (picked slots) (item_of slot)) ∙ ap (to_store (durable_of kept).graph) (sym more);
      }

  out_over : (v : Verified) → IsGroupOver kept (slots ++ Known v ∷ []) blocks
  out_over v =
      let more : picked (slots ++ Known v ∷ []) ≡ picked slots = picked_more slots (Known v) ∙ append-nil (picked slots) in
      record {
        blocks_are = o.blocks_are ∙ ap (map (block_at kept.graph)) (sym more);
        stores_are = stores_more slots (Known v) ∙ append-nil (stores_in slots) ∙ o.stores_are ∙ ap (to_store (durable_of kept).graph) (sym more);
      }

  pub put_over : (f : Fate) (v : Verified) (slots_new : List Slot) (blocks_new : List Block) (cids_new : List Cid) → IsPut f v slots blocks cids slots_new blocks_new cids_new → FateFits kept.graph v.cid f → IsGroupOver kept slots_new blocks_new
  put_over fate.Known v slots_new blocks_new cids_new put fits = subst (λ s. IsGroupOver kept s blocks_new) (sym put.0) (subst (λ b. IsGroupOver kept (slots ++ Known v ∷ []) b) (sym put.1) (out_over v))
  put_over (fate.Held b) v slots_new blocks_new cids_new put fits =
      subst (λ s. IsGroupOver kept s blocks_new) (sym put.0) (subst (λ bs. IsGroupOver kept (slots ++ Held v ∷ []) bs) (sym put.1)
      (in_over (Held v) b refl (fits.1 ∙ stored_block_is kept.graph (as_stored v) fits.0) (ap (λ t. cond t [] (as_stored v ∷ [])) (sym fits.0))))
  put_over fate.New v slots_new blocks_new cids_new put fits =
      subst (λ s. IsGroupOver kept s blocks_new) (sym put.0) (subst (λ bs. IsGroupOver kept (slots ++ New (as_stored v) ∷ []) bs) (sym put.1)
      (in_over (New (as_stored v)) v.block refl (new_block_is kept.graph v fits) (ap (λ t. cond t [] (as_stored v ∷ [])) (sym fits))))

pub told_over : (told : Option Kept) (f : Fate) (v : Verified) (slots : List Slot) (blocks : List Block) (cids : List Cid) (slots_new : List Slot) (blocks_new : List Block) (cids_new : List Cid) → IsPut f v slots blocks cids slots_new blocks_new cids_new
    → IfSome told (λ kept. FateFits kept.graph v.cid f) → IfSome told (λ kept. IsGroupOver kept slots blocks → IsGroupOver kept slots_new blocks_new)
told_over None f v slots blocks cids slots_new blocks_new cids_new put fits = tt
told_over (Some kept) f v slots blocks cids slots_new blocks_new cids_new put fits = λ o. put_over kept slots blocks cids o f v slots_new blocks_new cids_new put fits

-- a group without blocks

pub empty_group : (flight : List Cid) (slots : List Slot) (blocks : List Block) (cids : List Cid) → (slots ≡ []) × (blocks ≡ []) × (cids ≡ []) → IsGroup flight slots blocks cids
empty_group flight slots blocks cids none =
    subst (λ s. IsGroup flight s blocks cids) (sym none.0) (subst (λ b. IsGroup flight [] b cids) (sym none.1) (subst (λ c. IsGroup flight [] [] c) (sym none.2)
    (record { some = refl; held = refl; named = refl; blocks_named = refl; few_blocks = omega arith; few_cids = omega arith })))

pub empty_over : (told : Option Kept) (slots : List Slot) (blocks : List Block) → slots ≡ [] → blocks ≡ [] → IfSome told (λ kept. IsGroupOver kept slots blocks)
empty_over None slots blocks no_slots no_blocks = tt
empty_over (Some kept) slots blocks no_slots no_blocks =
    subst (λ s. IsGroupOver kept s blocks) (sym no_slots) (subst (λ b. IsGroupOver kept [] b) (sym no_blocks) (record { blocks_are = refl; stores_are = refl }))

-- what is first and what is taken are one

pub same_first : (a b : Verified) (items rest : List Stored) → Some (as_stored a) ≡ first_of items → items ≡ as_stored b ∷ rest → a.cid ≡ b.cid
same_first a b items rest first is = ap cid_or (first ∙ ap first_of is)
  where
    cid_or : Option Stored → Cid
    cid_or None = a.cid
    cid_or (Some x) = x.cid

-- what is stored is read as a block

pub found_told : (told : Option Kept) (cid : Cid) (bytes : List ℕ) {E : Type 0} (result : Result (Option Block) E) → IfSome told IsKept → IfSome told (λ kept. Some bytes ≡ bytes_at kept.graph cid)
    → (is_good cid bytes ≡ true → IfOk result (λ found. found ≡ Some (block_of cid bytes))) → IfSome told (λ kept. IfOk result (λ found. found ≡ option_map (block_of cid) (bytes_at kept.graph cid)))
found_told None cid bytes result sound row same = tt
found_told (Some kept) cid bytes (Ok found) sound row same = same (stored_good kept.graph cid bytes sound.good (sym row)) ∙ ap (option_map (block_of cid)) row
found_told (Some kept) cid bytes (Err error) sound row same = tt
