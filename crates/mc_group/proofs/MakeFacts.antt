-- The events of a group, and how its blocks are counted.
use Rattle.std.proofs.Common.{◌≡◌, ◌≢◌, ℕ, zero, suc, ◌+◌, ◌≤◌, Bool, true, false, List, [], ◌∷◌, ◌++◌, length, map, take, drop, Option, Some, None, Result, Ok, Err, refl, sym, ap, ◌∙◌, subst, arith, ◌⊎◌, inl, inr}
use Rattle.std.specs.Prelude.{IfSome}
use Rattle.std.proofs.lemmas.List.{append-nil}
use Rattle.mc_base.specs.declared.cid.Cid.{Cid}
use Rattle.mc_model.specs.declared.block.Block.{Block}
use Rattle.mc_model.specs.declared.block.Stored.{Stored}
use Rattle.mc_model.specs.Events.{Event, Store, Process}
use Rattle.mc_model.specs.Kept.{Kept, cids_of}
use Rattle.mc_model.specs.State.{Running, durable_of, vertices}
use Rattle.mc_keep.specs.declared.fuse.Fuse.{Fuse}
use Rattle.mc_inbox.specs.Groups.{group_events, group_of, process_events, store_events, to_store}
use Rattle.mc_plan.specs.Counted.{run_of}
use Rattle.mc_plan.specs.Events.{ReplicaState}
use Rattle.mc_plan.specs.Reads.{read_refusal}
use Rattle.mc_plan.specs.Refusals.{Is}
use Rattle.mc_plan.proofs.CallFacts.{at}
use Rattle.mc_group.specs.declared.group.Slot.{Slot}
use Rattle.mc_group.specs.declared.grouped.Grouped.{Grouped}
use Rattle.mc_group.specs.Gathering.{IsGroup, IsGroupOver, item_of, items_of, picked, stores_in}
use Rattle.mc_group.specs.Inboxes.{CountsGroup, GroupEvents}

map_length : {X Y : Type 0} (f : X → Y) (xs : List X) → length (map f xs) ≡ length xs
map_length f [] = refl
map_length f (x ∷ xs) = ap suc (map_length f xs)

some_process : (cids : List Cid) → cids ≢ [] → process_events cids ≡ Process cids ∷ []
some_process [] some = absurd (some refl)
some_process (c ∷ cids) some = refl

pub some_stores : (stores : List Stored) (events : List Event) → stores ≢ [] → Store (vertices stores) ∷ events ≡ store_events stores ++ events
some_stores [] events some = absurd (some refl)
some_stores (s ∷ stores) events some = refl

no_cids : (items : List Stored) → cids_of items ≡ [] → items ≡ []
no_cids [] e = refl
no_cids (i ∷ items) e = absurd (let n : suc (length (cids_of items)) ≡ 0 = ap length e in omega (arith, n))

module _ (flight : List Cid) (slots : List Slot) (blocks : List Block) (cids : List Cid) (g : IsGroup flight slots blocks cids) where
  -- each is counted once
  pub picked_count : length cids ≡ length (group_of flight (items_of slots))
  picked_count = ap length g.named ∙ map_length (λ (stored : Stored). stored.cid) (picked slots) ∙ ap length g.some

  pub items_count : length (items_of slots) ≡ length slots
  items_count = map_length item_of slots

module _ (run : Running) (slots : List Slot) (blocks : List Block) (cids : List Cid) (grouped : Grouped) (g : IsGroup run.queue.flight slots blocks cids) (fuse : Option Fuse) (counts : CountsGroup run.queue (items_of slots) grouped) where
  pub group_makes : (told : Option Kept) (marks : List Cid) → IfSome told (λ kept. IsGroupOver kept slots blocks) → marks ≡ cids → cids ≢ []
      → IfSome told (λ kept. Is (read_refusal (at kept fuse (run_of false run))) None × GroupEvents (at kept fuse (run_of false run)) (items_of slots) (store_events (stores_in slots) ++ Process marks ∷ []) grouped)
  group_makes None marks over is some = tt
  group_makes (Some kept) marks over is some = (
    refl,
    record {
      are = (λ i. store_events ((over.stores_are ∙ ap (to_store (durable_of kept).graph) g.some) i) ++ Process (is i) ∷ [])
          ∙ ap (λ events. store_events (to_store (durable_of kept).graph (group_of run.queue.flight (items_of slots))) ++ events) (sym (some_process cids some) ∙ ap process_events (g.named ∙ ap cids_of g.some));
      counts = counts;
    },
  )

  pub none_makes : (told : Option Kept) → cids ≡ [] → IfSome told (λ kept. Is (read_refusal (at kept fuse (run_of false run))) None × GroupEvents (at kept fuse (run_of false run)) (items_of slots) [] grouped)
  none_makes None none = tt
  none_makes (Some kept) none =
      let empty : group_of run.queue.flight (items_of slots) ≡ [] = sym g.some ∙ no_cids (picked slots) (sym g.named ∙ none) in
      (refl, record { are = sym (ap (group_events (durable_of kept).graph) empty); counts = counts })

-- what was taken out is what was first

first_of_all : (limit : ℕ) (items rest : List Stored) → length items ≡ limit → take limit (items ++ rest) ≡ items
first_of_all limit [] rest e = subst (λ n. take n rest ≡ []) e refl
first_of_all limit (x ∷ items) rest e = subst (λ n. take n (x ∷ items ++ rest) ≡ x ∷ items) e (ap (λ xs. x ∷ xs) (first_of_all (length items) items rest refl))

left_of_all : (limit : ℕ) (items rest : List Stored) → length items ≡ limit → drop limit (items ++ rest) ≡ rest
left_of_all limit [] rest e = subst (λ n. drop n rest ≡ rest) e refl
left_of_all limit (x ∷ items) rest e = subst (λ n. drop n (x ∷ items ++ rest) ≡ rest) e (left_of_all (length items) items rest refl)

few_first : (limit : ℕ) (items : List Stored) → length items ≤ limit → take limit items ≡ items
few_first limit [] few = none_first limit
  where
    none_first : (limit : ℕ) → take {A = Stored} limit [] ≡ []
    none_first zero = refl
    none_first (suc n) = refl
few_first zero (x ∷ items) few = absurd (omega (arith, few))
few_first (suc limit) (x ∷ items) few = ap (λ xs. x ∷ xs) (few_first limit items (omega (arith, few)))

few_left : (limit : ℕ) (items : List Stored) → length items ≤ limit → drop limit items ≡ []
few_left limit [] few = none_left limit
  where
    none_left : (limit : ℕ) → drop {A = Stored} limit [] ≡ []
    none_left zero = refl
    none_left (suc n) = refl
few_left zero (x ∷ items) few = absurd (omega (arith, few))
few_left (suc limit) (x ∷ items) few = few_left limit items (omega (arith, few))

pub taken_first : (limit : ℕ) (slots : List Slot) (old rest : List Stored) → old ≡ items_of slots ++ rest → length slots ≤ limit → (length slots ≡ limit) ⊎ (rest ≡ []) → take limit old ≡ items_of slots
taken_first limit slots old rest is few (inl all) = ap (take limit) is ∙ first_of_all limit (items_of slots) rest (map_length item_of slots ∙ all)
taken_first limit slots old rest is few (inr none) = ap (take limit) (is ∙ ap (λ r. items_of slots ++ r) none ∙ append-nil (items_of slots)) ∙ few_first limit (items_of slots) (let n = map_length item_of slots in omega (arith, n, few))

pub taken_left : (limit : ℕ) (slots : List Slot) (old rest : List Stored) → old ≡ items_of slots ++ rest → length slots ≤ limit → (length slots ≡ limit) ⊎ (rest ≡ []) → drop limit old ≡ rest
taken_left limit slots old rest is few (inl all) = ap (drop limit) is ∙ left_of_all limit (items_of slots) rest (map_length item_of slots ∙ all)
taken_left limit slots old rest is few (inr none) = ap (drop limit) (is ∙ ap (λ r. items_of slots ++ r) none ∙ append-nil (items_of slots)) ∙ few_left limit (items_of slots) (let n = map_length item_of slots in omega (arith, n, few)) ∙ sym none
