-- What workers pushed, taken in by calls one right after another.
use Rattle.std.proofs.Common.{◌≡◌, ◌<◌, ◌+◌, ℕ, zero, suc, All, Bool, true, false, ◌&&◌, List, [], ◌∷◌, ◌++◌, length, map, take, drop, Option, Some, None, Result, Ok, Err, refl, sym, ap, ◌∙◌, subst, arith, append-nil, length-append}
use Rattle.std.specs.Prelude.{IfErr, IfOk, IfSome, OnOk, is_some}
use Rattle.std.specs.List.{list_all}
use Rattle.std.proofs.lemmas.Bool.{and_parts, false≢true}
use Rattle.std.proofs.lemmas.List.{append_assoc, map-append}
use Rattle.std.proofs.lemmas.List.Elements.{All-push, All-tail}
use Rattle.mc_base.specs.declared.counted.Counted as counted
use Rattle.mc_block.specs.declared.verified.Verified.{Verified}
use Rattle.mc_fetch.specs.Fits.{Map}
use Rattle.mc_keep.specs.declared.fuse.Fuse.{Fuse}
use Rattle.mc_keep.specs.declared.keeper.Keeper as keeper
use Rattle.mc_keep.specs.Plan.{Schedule}
use Rattle.mc_model.specs.Kept.{Kept}
use Rattle.mc_model.specs.declared.block.Stored.{Stored}
use Rattle.mc_inbox.specs.Groups.{AreOffered}
use Rattle.mc_inbox.specs.Waiting.{Waiting, as_stored}
use Rattle.mc_relay.specs.Items.{IsRight}
use Rattle.mc_core.specs.declared.replica.Replica.{Replica}
use Rattle.mc_turn.specs.Lists.{Begins}
use Rattle.mc_worker.specs.declared.ends.ShopError.{ShopError}
use Rattle.mc_node.specs.declared.entry.Entry.{Entry}
use Rattle.mc_node.specs.declared.note.Note.TheVariants.{Fetched}
use Rattle.mc_node.specs.Entries.{AddsAll, AreFetched, items_at, shown_at}
use Rattle.mc_node.specs.Handovers.{AddsFetched, is_of_fetched}
use Rattle.mc_node.specs.Items.{Item, Shown, is_fetched}
use Rattle.mc_node.specs.Moves.{with_entry}
use Rattle.mc_node.specs.Pieces.{AreRight, Piece, PieceDoes, Runs, processed_in, with_fetched}
use Rattle.mc_node.specs.Ties.{IsTied}
use Rattle.mc_node.specs.Works.{Bounds}
use Rattle.mc_node.proofs.WorkTies.{tied_fetched}

-- the blocks of an inbox stay right

pub right_on : {T : Type 0} (taker : Option T) (found : Option Map) (old new : Waiting) → new ≡ old → IfSome taker (λ end. AreRight found old.items) → IfSome taker (λ end. AreRight found new.items)
right_on {T} taker found old new same right = subst (λ (w : Waiting). IfSome taker (λ end. AreRight found w.items)) (sym same) right

pub items_right : {T : Type 0} (taker : Option T) (found : Option Map) (old new : List Stored) → new ≡ old → IfSome taker (λ end. AreRight found old) → IfSome taker (λ end. AreRight found new)
items_right {T} taker found old new same right = subst (λ (w : List Stored). IfSome taker (λ end. AreRight found w)) (sym same) right

empty_right : (found : Option Map) → AreRight found []
empty_right None = tt
empty_right (Some map) = tt

pub none_right : {T : Type 0} (taker : Option T) (found : Option Map) (items : List Stored) → IfSome taker (λ end. items ≡ []) → IfSome taker (λ end. AreRight found items)
none_right None found items none = tt
none_right (Some end) found items none = subst (AreRight found) (sym none) (empty_right found)

pub gone_right : {T : Type 0} (taker : Option T) (found : Option Map) (items : List Stored) → items ≡ [] → IfSome taker (λ end. AreRight found items)
gone_right None found items none = tt
gone_right (Some end) found items none = subst (AreRight found) (sym none) (empty_right found)

offered_more : (map : Map) (items : List Stored) (item : Stored) → AreOffered map items → map item.cid ≡ Some item.bytes → AreOffered map (items ++ item ∷ [])
offered_more map [] item right is = (is, tt)
offered_more map (x ∷ items) item right is = (right.0, offered_more map items item right.1 is)

right_more : (found : Option Map) (items : List Stored) (item : Verified) → AreRight found items → IsRight found item → AreRight found (items ++ as_stored item ∷ [])
right_more None items item right is = tt
right_more (Some map) items item right is = offered_more map items (as_stored item) right is

pub added_right : {T : Type 0} (taker : Option T) (found : Option Map) (old new : List Stored) (item : Verified) → new ≡ old ++ as_stored item ∷ [] → IsRight found item → IfSome taker (λ end. AreRight found old) → IfSome taker (λ end. AreRight found new)
added_right None found old new item added is right = tt
added_right (Some end) found old new item added is right = subst (AreRight found) (sym added) (right_more found old item right is)

-- a block for which there is room is added
pub was_added : {T : Type 0} (result : Result T Verified) (old new : List Stored) (item : Verified) → OnOk result ((length old < 64) × (new ≡ old ++ as_stored item ∷ [])) → IfErr result (λ left. (left ≡ item) × (length old ≡ 64) × (new ≡ old)) → length old < 64 → new ≡ old ++ as_stored item ∷ []
was_added (Ok value) old new item added full less = added.1
was_added (Err left) old new item added full less = let many = full.1 in absurd (omega (arith, many, less))

offered_take : (map : Map) (n : ℕ) (items : List Stored) → AreOffered map items → AreOffered map (take n items)
offered_take map zero items right = tt
offered_take map (suc n) [] right = tt
offered_take map (suc n) (item ∷ items) right = (right.0, offered_take map n items right.1)

offered_drop : (map : Map) (n : ℕ) (items : List Stored) → AreOffered map items → AreOffered map (drop n items)
offered_drop map zero items right = right
offered_drop map (suc n) [] right = right
offered_drop map (suc n) (item ∷ items) right = offered_drop map n items right.1

pub right_take : (found : Option Map) (n : ℕ) (items : List Stored) → AreRight found items → AreRight found (take n items)
right_take None n items right = tt
right_take (Some map) n items right = offered_take map n items right

right_drop : (found : Option Map) (n : ℕ) (items : List Stored) → AreRight found items → AreRight found (drop n items)
right_drop None n items right = tt
right_drop (Some map) n items right = offered_drop map n items right

pub dropped_right : {T : Type 0} (taker : Option T) (found : Option Map) (n : ℕ) (old new : List Stored) → new ≡ drop n old → IfSome taker (λ end. AreRight found old) → IfSome taker (λ end. AreRight found new)
dropped_right None found n old new is right = tt
dropped_right (Some end) found n old new is right = subst (AreRight found) (sym is) (right_drop found n old right)

pub right_of : {T : Type 0} (taker : Option T) (P : Type 0) → is_some taker ≡ true → IfSome taker (λ end. P) → P
right_of None P some right = absurd (false≢true some)
right_of (Some end) P some right = right

-- calls one right after another

pub runs_none : (limit : ℕ) (log : List Item) (now : Shown) → Runs limit [] log now log now
runs_none limit log now = (refl, refl)

pub runs_one : (limit : ℕ) (piece : Piece) (old : List Item) (before : Shown) (new : List Item) (after : Shown) → PieceDoes limit piece old before new after → Runs limit (piece ∷ []) old before new after
runs_one limit piece old before new after does = (new, after, does, (refl, refl))

pub runs_then : (limit : ℕ) (first next : List Piece) (old : List Item) (before : Shown) (mid : List Item) (there : Shown) (new : List Item) (after : Shown) → Runs limit first old before mid there → Runs limit next mid there new after → Runs limit (first ++ next) old before new after
runs_then limit [] next old before mid there new after (log, now) runs = subst (λ (l : List Item). Runs limit next l before new after) log (subst (λ (s : Shown). Runs limit next mid s new after) now runs)
runs_then limit (piece ∷ first) next old before mid there new after (log, now, does, rest) runs = (log, now, does, runs_then limit first next log now mid there new after rest runs)

pub processed_then : (first next : List Piece) → processed_in (first ++ next) ≡ processed_in first + processed_in next
processed_then [] next = omega arith
processed_then (piece ∷ first) next = let e = processed_then first next in omega (arith, e)

-- entries of fetched blocks

fetched_first : (n : ℕ) (now : Shown) (log : List Item) → with_fetched n now (with_entry log Fetched now) ≡ with_entry (with_fetched n now log) Fetched now
fetched_first zero now log = refl
fetched_first (suc n) now log = ap (λ (l : List Item). with_entry l Fetched now) (fetched_first n now log)

pub tied_many : (limit : Bounds) (n : ℕ) (log : List Item) (now : Shown) → IsTied limit now log → now.stopped ≡ false → IsTied limit now (with_fetched n now log)
tied_many limit zero log now tied runs = tied
tied_many limit (suc n) log now tied runs = tied_fetched limit (with_fetched n now log) now (tied_many limit n log now tied runs) runs

module _ {K D : Type 0} {g : keeper.Ghosts K D} {h : counted.Ghosts K} {i : counted.Ghosts D} where
  pub fetched_one : (entry : Entry K D g h i) (replica : Replica K D g h i) (count count' : ℕ) (entries : List (Entry K D g h i)) → entry.note ≡ Fetched → entry.replica.value ≡ replica → count' ≡ count + 1 → AreFetched replica count entries → AreFetched replica count' (entries ++ entry ∷ [])
  fetched_one entry replica count count' entries noted about more are = record {
    many = length-append entries (entry ∷ []) ∙ (let m = are.many in omega (arith, m, more));
    kinds = all_push entries are.kinds;
  }
    where
      Is : Entry K D g h i → Type 0
      Is e = (e.note ≡ Fetched) × (e.replica.value ≡ replica)

      all_push : (entries : List (Entry K D g h i)) → All Is entries → All Is (entries ++ entry ∷ [])
      all_push entries all = All-push Is entries entry all (noted, about)

  pub adds_none : (replica : Replica K D g h i) (log : List (Entry K D g h i)) → AddsAll 0 replica log log
  adds_none replica log = ([], sym (append-nil log), record { many = refl; kinds = λ k entry less. absurd (omega (arith, less)) })

  pub adds_one : (count : ℕ) (replica : Replica K D g h i) (old mid new : List (Entry K D g h i)) (entry : Entry K D g h i) → AddsAll count replica old mid → new ≡ mid ++ entry ∷ [] → entry.note ≡ Fetched → entry.replica.value ≡ replica → AddsAll (count + 1) replica old new
  adds_one count replica old mid new entry (entries, is, are) more noted about =
      (entries ++ entry ∷ [], more ∙ ap (λ (l : List (Entry K D g h i)). l ++ entry ∷ []) is ∙ append_assoc old entries (entry ∷ []), fetched_one entry replica count (count + 1) entries noted about refl are)

  pub kinds_of : (replica : Replica K D g h i) (entries : List (Entry K D g h i)) → All (λ (entry : Entry K D g h i). (entry.note ≡ Fetched) × (entry.replica.value ≡ replica)) entries → list_all is_of_fetched entries ≡ true
  kinds_of replica [] all = refl
  kinds_of replica (entry ∷ entries) all = ap (λ n. is_fetched n && list_all is_of_fetched entries) (all 0 entry (omega arith)).0 ∙ kinds_of replica entries (All-tail (λ (entry : Entry K D g h i). (entry.note ≡ Fetched) × (entry.replica.value ≡ replica)) entry entries all)

  -- what is added for some blocks
  pub adds_fetched : (count : ℕ) (replica : Replica K D g h i) (old mid new : List (Entry K D g h i)) → mid ≡ old → AddsAll count replica mid new → AddsFetched is_of_fetched old new count
  adds_fetched count replica old mid new same (entries, is, are) = record {
    entries = entries;
    whole = is ∙ ap (λ (l : List (Entry K D g h i)). l ++ entries) same;
    many = are.many;
    kinds = kinds_of replica entries are.kinds;
  }

  pub adds_nothing : (old new : List (Entry K D g h i)) → new ≡ old → AddsFetched is_of_fetched old new 0
  adds_nothing old new same = record { entries = []; whole = same ∙ sym (append-nil old); many = refl; kinds = refl }

  pub adds_more : (old mid new : List (Entry K D g h i)) (m n count : ℕ) → count ≡ m + n → AddsFetched is_of_fetched old mid m → AddsFetched is_of_fetched mid new n → AddsFetched is_of_fetched old new count
  adds_more old mid new m n count sum first next = record {
    entries = first.entries ++ next.entries;
    whole = next.whole ∙ ap (λ (l : List (Entry K D g h i)). l ++ next.entries) first.whole ∙ append_assoc old first.entries next.entries;
    many = length-append first.entries next.entries ∙ (let a = first.many in let b = next.many in omega (arith, a, b, sum));
    kinds = all_both first.entries first.kinds;
  }
    where
      all_both : (xs : List (Entry K D g h i)) → list_all is_of_fetched xs ≡ true → list_all is_of_fetched (xs ++ next.entries) ≡ true
      all_both [] all = next.kinds
      all_both (x ∷ xs) all = let both = and_parts (is_fetched x.note) (list_all is_of_fetched xs) all in ap (λ b. b && list_all is_of_fetched (xs ++ next.entries)) both.0 ∙ all_both xs both.1

  pub adds_after : (result : Result ℕ ShopError) (first : ℕ) (old mid new : List (Entry K D g h i)) → AddsFetched is_of_fetched old mid first → IfOk result (λ count. (added : ℕ) × (count ≡ first + added) × AddsFetched is_of_fetched mid new added) → IfOk result (AddsFetched is_of_fetched old new)
  adds_after (Ok count) first old mid new adds (added, sum, next) = adds_more old mid new first added count sum adds next
  adds_after (Err error) first old mid new adds next = tt

  pub adds_on : (count : ℕ) (old new : List (Entry K D g h i)) → AddsFetched is_of_fetched old new count → Begins old new
  adds_on count old new adds = (adds.entries, sym adds.whole)

  module _ (told : K → Option Kept) (fuse : K → Option Fuse) (own faults : K → ℕ) (quiet : K → Bool) (schedule : K → Option Schedule) where
    -- the same of a log's items
    many_items : (replica : Replica K D g h i) (entries log : List (Entry K D g h i)) → All (λ (entry : Entry K D g h i). (entry.note ≡ Fetched) × (entry.replica.value ≡ replica)) entries
        → items_at told fuse own faults quiet schedule (log ++ entries) ≡ with_fetched (length entries) (shown_at told fuse own faults quiet schedule replica) (items_at told fuse own faults quiet schedule log)
    many_items replica [] log all = ap (items_at told fuse own faults quiet schedule) (append-nil log)
    many_items replica (entry ∷ entries) log all =
        let one = all 0 entry (omega arith) in
        let here : items_at told fuse own faults quiet schedule (log ++ entry ∷ []) ≡ with_entry (items_at told fuse own faults quiet schedule log) Fetched (shown_at told fuse own faults quiet schedule replica)
        = map-append (λ (entry : Entry K D g h i). record { note = entry.note; shown = shown_at told fuse own faults quiet schedule entry.replica.value }) log (entry ∷ [])
        ∙ (λ j. items_at told fuse own faults quiet schedule log ++ record { note = one.0 j; shown = shown_at told fuse own faults quiet schedule (one.1 j) } ∷ []) in
        ap (items_at told fuse own faults quiet schedule) (sym (append_assoc log (entry ∷ []) entries))
        ∙ many_items replica entries (log ++ entry ∷ []) (All-tail (λ (entry : Entry K D g h i). (entry.note ≡ Fetched) × (entry.replica.value ≡ replica)) entry entries all)
        ∙ ap (with_fetched (length entries) (shown_at told fuse own faults quiet schedule replica)) here
        ∙ fetched_first (length entries) (shown_at told fuse own faults quiet schedule replica) (items_at told fuse own faults quiet schedule log)

    pub all_items : (count : ℕ) (replica : Replica K D g h i) (old mid new : List (Entry K D g h i)) → mid ≡ old → AddsAll count replica mid new
        → items_at told fuse own faults quiet schedule new ≡ with_fetched count (shown_at told fuse own faults quiet schedule replica) (items_at told fuse own faults quiet schedule old)
    all_items count replica old mid new same (entries, is, are) =
        ap (items_at told fuse own faults quiet schedule) (is ∙ ap (λ (l : List (Entry K D g h i)). l ++ entries) same)
        ∙ many_items replica entries old are.kinds
        ∙ ap (λ n. with_fetched n (shown_at told fuse own faults quiet schedule replica) (items_at told fuse own faults quiet schedule old)) are.many
