-- Groups of blocks that a replica takes up.
use Rattle.std.proofs.Common.{◌≡◌, ◌≢◌, ℕ, zero, suc, rules, ◌-◌, ◌+◌, ◌≤◌, Bool, true, false, ◌||◌, List, [], ◌∷◌, ◌++◌, drop, length, Option, Some, None, Result, Ok, Err, refl, sym, ap, ◌∙◌, subst, arith}
use Rattle.std.specs.Prelude.{IfErr, IfSome, ◌==◌}
use Rattle.std.proofs.lemmas.Bool.{false≢true}
use Rattle.std.proofs.lemmas.List.{append-nil}
use Rattle.mc_base.specs.Causes.{Rose}
use Rattle.mc_base.specs.Told.{Told}
use Rattle.mc_base.specs.declared.cid.Cid.{Cid}
use Rattle.mc_keep.specs.declared.changes.Changes.{Changes}
use Rattle.mc_keep.specs.declared.fuse.Fuse.{Fuse}
use Rattle.mc_keep.specs.Changes.{changed}
use Rattle.mc_keep.specs.Tables.{ChangesFit}
use Rattle.mc_model.specs.declared.block.Block.{Block}
use Rattle.mc_model.specs.Events.{Event, Process}
use Rattle.mc_model.specs.Kept.{Kept, cids_of}
use Rattle.mc_model.specs.State.{Running}
use Rattle.mc_inbox.specs.Groups.{group_of, store_events}
use Rattle.mc_model.specs.declared.block.Stored.{Stored}
use Rattle.mc_model.specs.Wanted.{Queue, without}
use Rattle.mc_plan.specs.declared.error.CoreError.{CoreError}
use Rattle.mc_plan.specs.declared.error.CoreError.TheVariants.{KeeperFault}
use Rattle.mc_plan.specs.Refusals.{ByKind, Is, kind_of}
use Rattle.mc_plan.specs.Uptakes.{wants}
use Rattle.mc_plan.specs.Calls.{Call, Faults}
use Rattle.mc_plan.specs.Events.{ReplicaState, state_of}
use Rattle.mc_plan.proofs.EventFacts.{breaks_rose}
use Rattle.mc_plan.proofs.KindFacts.{by_kind, kinds}
use Rattle.mc_group.specs.declared.group.Slot.{Slot}
use Rattle.mc_group.specs.declared.group.Slot.TheVariants.{Known, Held, New}
use Rattle.mc_group.specs.Gathering.{IsGroup, IsGroupOver, items_of, stores_in}
use Rattle.mc_group.proofs.ReadyFacts.{group_new}
use Rattle.mc_keep.specs.New.{AreNew}
use Rattle.mc_plan.specs.Counted.{AreSound, run_of}
use Rattle.mc_plan.specs.Reads.{read_refusal}
use Rattle.mc_plan.proofs.CallFacts.{at}
use Rattle.mc_group.specs.Planning.{AreReady, storing}
use Rattle.mc_group.proofs.MakeFacts.{group_makes, items_count, picked_count}
use Rattle.mc_group.proofs.WithoutFacts.{without_none}
use Rattle.mc_group.specs.declared.grouped.Grouped.{Grouped}
use Rattle.mc_group.specs.Inboxes.{CountsGroup, GroupEvents, GroupWants, InboxAfter}
use Rattle.mc_core.specs.Groups.{InboxLeft}

-- where all was put back
pub put_left : (error : CoreError) (items rest new : List Stored) → new ≡ items ++ rest → InboxLeft (Err error) items rest new
put_left error items rest new is = kinds (kind_of error) is (0, is) is

-- where a group was taken up, or its commits failed
pub commit_left : (result : Result Grouped CoreError) (items rest new : List Stored) → new ≡ rest → IfErr result (λ error. error ≡ KeeperFault) → InboxLeft result items rest new
commit_left (Ok grouped) items rest new is only = is
commit_left (Err error) items rest new is only =
    subst (λ e. InboxLeft (Err e) items rest new) (sym only) (length items, is ∙ sym (gone items))
  where
    gone : (items : List Stored) → drop (length items) (items ++ rest) ≡ rest
    gone [] = refl
    gone (i ∷ items) = gone items

-- in the words of the whole inbox
pub left_after : (result : Result Grouped CoreError) (limit : ℕ) (items rest old new : List Stored) → old ≡ items ++ rest → drop limit old ≡ rest → InboxLeft result items rest new → InboxAfter result limit old new
left_after (Ok grouped) limit items rest old new is left h = h ∙ sym left
left_after (Err error) limit items rest old new is left h = subst (λ xs. ByKind (new ≡ xs) ((n : ℕ) × (new ≡ drop n xs)) (new ≡ xs) (kind_of error)) (sym is) h

-- what a group's commits need

no_blocks : (kept : Kept) → changed kept (storing []) ≡ kept
no_blocks kept = ap (λ graph. record { graph = graph; order = kept.order ++ []; mark = kept.mark }) (append-nil kept.graph) ∙ ap (λ order. record { graph = kept.graph; order = order; mark = kept.mark }) (append-nil kept.order)

pub no_items : {X : Type 0} (xs : List X) → (length xs == 0) ≡ true → xs ≡ []
no_items [] e = refl
no_items (x ∷ xs) e = absurd (false≢true (sym (not_zero (length xs)) ∙ e))
  where
    not_zero : (n : ℕ) → (suc n == 0) ≡ false
    not_zero n = search rules

pub ready_fit : (told : Option Kept) (whole : Bool) (process : Changes) (cids links : List Cid) (count : ℕ) → cids ≢ [] → IfSome told (λ kept. AreReady kept whole process links count) → IfSome told (λ kept. ChangesFit kept process)
ready_fit None whole process cids links count some ready = tt
ready_fit (Some kept) whole process [] links count some ready = absurd (some refl)
ready_fit (Some kept) whole process (c ∷ cids) links count some ready = (ready c).fits

pub ready_then : (told : Option Kept) (whole : Bool) (stores : List Stored) (process : Changes) (links : List Cid) (count : ℕ) → IfSome told (λ kept. ChangesFit kept (storing stores) × AreReady (changed kept (storing stores)) whole process links count)
    → IfSome told (λ kept. AreReady (changed kept (storing stores)) whole process links count)
ready_then None whole stores process links count ready = tt
ready_then (Some kept) whole stores process links count ready = ready.1

pub ready_alone : (told : Option Kept) (whole : Bool) (stores : List Stored) (process : Changes) (links : List Cid) (count : ℕ) → stores ≡ [] → IfSome told (λ kept. ChangesFit kept (storing stores) × AreReady (changed kept (storing stores)) whole process links count)
    → IfSome told (λ kept. AreReady kept whole process links count)
ready_alone None whole stores process links count none ready = tt
ready_alone (Some kept) whole stores process links count none ready = subst (λ (k : Kept). AreReady k whole process links count) (ap (λ s. changed kept (storing s)) none ∙ no_blocks kept) ready.1

-- a group of which nothing is taken up

pub none_counts : (q : Queue) (slots : List Slot) (blocks : List Block) (cids : List Cid) (known : ℕ) → IsGroup q.flight slots blocks cids → cids ≡ [] → known ≡ length slots → CountsGroup q (items_of slots) (record { processed = 0; known = known })
none_counts q slots blocks cids known g none is =
    let picked = picked_count q.flight slots blocks cids g in
    let items = items_count q.flight slots blocks cids g in
    let n = ap length none in record { many = omega (arith, picked, n); others = omega (arith, items, is) }

pub none_wants : (q : Queue) (slots : List Slot) (blocks : List Block) (cids : List Cid) → IsGroup q.flight slots blocks cids → cids ≡ [] → (links : List Cid) × (q ≡ wants (without q (cids_of (group_of q.flight (items_of slots)))) links)
none_wants q slots blocks cids g none = ([], without_none q ∙ ap (without q) (sym (sym (g.named ∙ ap cids_of g.some) ∙ none)))

pub some_counts : (q : Queue) (slots : List Slot) (blocks : List Block) (cids : List Cid) (processed known : ℕ) → IsGroup q.flight slots blocks cids → processed ≡ length cids → processed + known ≡ length slots → CountsGroup q (items_of slots) (record { processed = processed; known = known })
some_counts q slots blocks cids processed known g is both =
    let picked = picked_count q.flight slots blocks cids g in
    let items = items_count q.flight slots blocks cids g in
    record { many = omega (arith, picked, is); others = omega (arith, items, both) }

-- a call after reads

call_rose : {T : Type 0} (Refusal : Option CoreError → Type 0) (Makes : List Event → T → Type 0) (Short : ReplicaState → Type 0) (P Q : Type 0) (result : Result T CoreError) (s new : ReplicaState) → (P → Q) → Call Refusal Makes Short P result s new → Call Refusal Makes Short Q result s new
call_rose Refusal Makes Short P Q (Ok value) s new f call = call
call_rose Refusal Makes Short P Q (Err error) s new f call =
    by_kind (kind_of error) (λ p. p) (λ (p : Faults Makes P s new). record { events = p.events; begins = p.begins; breaks = breaks_rose p.events P Q s new f p.breaks }) (λ p. p) call

pub call_after : {T : Type 0} (Refusal : ReplicaState → Option CoreError → Type 0) (Makes : ReplicaState → List Event → T → Type 0) (Short : ReplicaState → ReplicaState → Type 0) (told mid : Option Kept) (fuse fuse_mid : Option Fuse) (run : Option Running) (new : Option ReplicaState) (own own_mid own_new : ℕ) (result : Result T CoreError)
    → mid ≡ told → fuse_mid ≡ fuse → own ≤ own_mid → Told (state_of mid fuse_mid run) new (λ s after. Call (Refusal s) (Makes s) (Short s) (Rose own_mid own_new) result s after)
    → Told (state_of told fuse run) new (λ s after. Call (Refusal s) (Makes s) (Short s) (Rose own own_new) result s after)
call_after Refusal Makes Short told mid fuse fuse_mid run new own own_mid own_new result e f later call =
    over told new
    (subst (λ x. Told (state_of told x run) new (λ s after. Call (Refusal s) (Makes s) (Short s) (Rose own_mid own_new) result s after)) f
    (subst (λ t. Told (state_of t fuse_mid run) new (λ s after. Call (Refusal s) (Makes s) (Short s) (Rose own_mid own_new) result s after)) e call))
  where
    over : (told : Option Kept) (new : Option ReplicaState) → Told (state_of told fuse run) new (λ s after. Call (Refusal s) (Makes s) (Short s) (Rose own_mid own_new) result s after)
        → Told (state_of told fuse run) new (λ s after. Call (Refusal s) (Makes s) (Short s) (Rose own own_new) result s after)
    over None new call = tt
    over (Some kept) None call = absurd call
    over (Some kept) (Some after) call = call_rose _ _ _ (Rose own_mid own_new) (Rose own own_new) result _ after (λ r. omega (arith, r, later)) call

-- what is stored of a group is no more than it has
pub stores_few : (slots : List Slot) → length (stores_in slots) ≤ length slots
stores_few [] = omega arith
stores_few (Known v ∷ slots) = let few = stores_few slots in omega (arith, few)
stores_few (Held v ∷ slots) = let few = stores_few slots in omega (arith, few)
stores_few (New s ∷ slots) = let few = stores_few slots in omega (arith, few)

-- no block of a group is processed, where it is told
pub new_told : (told : Option Kept) (stop : Bool) (run : Running) (slots : List Slot) (blocks : List Block) (cids : List Cid) → AreSound stop told run → stop ≡ false → IsGroup run.queue.flight slots blocks cids → IfSome told (λ kept. AreNew kept blocks)
new_told None stop run slots blocks cids sound up g = tt
new_told (Some kept) stop run slots blocks cids sound up g = group_new kept run.queue slots blocks cids (sound.once kept refl up) g

-- the events of a group whose commits are made
pub made_told : (told : Option Kept) (fuse : Option Fuse) (run : Running) (slots : List Slot) (blocks : List Block) (cids marks : List Cid) (stores : List Stored) (grouped : Grouped) → IsGroup run.queue.flight slots blocks cids → stores ≡ stores_in slots
    → CountsGroup run.queue (items_of slots) grouped → IfSome told (λ kept. IsGroupOver kept slots blocks) → marks ≡ cids → cids ≢ []
    → IfSome told (λ kept. Is (read_refusal (at kept fuse (run_of false run))) None × GroupEvents (at kept fuse (run_of false run)) (items_of slots) (store_events stores ++ Process marks ∷ []) grouped)
made_told told fuse run slots blocks cids marks stores grouped g is counts over named some =
    subst (λ st. IfSome told (λ kept. Is (read_refusal (at kept fuse (run_of false run))) None × GroupEvents (at kept fuse (run_of false run)) (items_of slots) (store_events st ++ Process marks ∷ []) grouped)) (sym is)
    (group_makes run slots blocks cids grouped g fuse counts told marks over named some)

pub rest_counts : (q : Queue) (slots : List Slot) (blocks : List Block) (cids : List Cid) (processed all : ℕ) → IsGroup q.flight slots blocks cids → processed ≡ length cids → all ≡ length slots → CountsGroup q (items_of slots) (record { processed = processed; known = all - processed })
rest_counts q slots blocks cids processed all g is whole = let few = g.few_cids in some_counts q slots blocks cids processed (all - processed) g is (omega (arith, few, is, whole))
