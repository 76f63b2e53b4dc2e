-- The blocks that were acknowledged are processed, and stay so.
use Rattle.std.proofs.Common.{◌≡◌, ◌≢◌, ℕ, zero, suc, Bool, true, false, true≢false, cond, List, [], ◌∷◌, ◌++◌, length, Option, Some, None, Result, Ok, Err, refl, sym, ◌∙◌, ap, subst, inl, inr, nat_lt, ◌<◌, arith}
use Rattle.std.specs.Prelude.{IfSome, is_some, slice_get, unwrap_or}
use Rattle.std.proofs.lemmas.Bool.{ltb-true}
use Rattle.std.proofs.lemmas.List.{append-nil, append_assoc}
use Rattle.mc_base.specs.Told.{Told}
use Rattle.mc_base.specs.declared.cid.Cid.{Cid}
use Rattle.mc_base.proofs.Telling.{told_weaker}
use Rattle.mc_keep.specs.declared.changes.Changes.{Changes}
use Rattle.mc_keep.specs.declared.fuse.Fuse.{Fuse}
use Rattle.mc_model.specs.declared.delta.Delta.{Delta}
use Rattle.mc_model.specs.Batch.{is_empty_batch}
use Rattle.mc_model.specs.Events.{Event, GoesOn, Process, Batch}
use Rattle.mc_model.specs.Kept.{Kept, is_stored}
use Rattle.mc_model.specs.Made.{made_bytes, made_cid}
use Rattle.mc_model.specs.State.{Durable, OpenBatch, Running, durable_of, kept_of}
use Rattle.mc_core.specs.Batches.{BatchBecomes, OfBatch, OfRun, delta_of_batch}
use Rattle.mc_core.specs.Deletes.{IsDeltas, chain_events, with_made}
use Rattle.mc_core.specs.Events.{ReplicaState, Goes, MayHappen, all_happen, goes_on, state_of}
use Rattle.mc_core.specs.Exact.{stop_front}
use Rattle.mc_core.specs.Uptakes.{with_store}
use Rattle.mc_core.specs.Puts.{made_events, next_links, delta_of_put}
use Rattle.mc_core.specs.Refusals.{no_batch_refusal}
use Rattle.mc_core.specs.declared.CoreError.{CoreError}
use Rattle.mc_core.specs.declared.CoreError.TheVariants as core
use Rattle.mc_core.specs.declared.Written.{Written}
use Rattle.mc_core.proofs.EventFacts.{all_happen-append}
use Rattle.mc_core.proofs.GrowthFacts.{GrowLaw, goes_grows}
use Rattle.mc_script.specs.Line.{line_of}
use Rattle.mc_script.specs.declared.command.Command.{Command}
use Rattle.mc_script.specs.declared.command.Command.TheVariants.{Put, Del, Commit}
use Rattle.mc_script.specs.declared.reply.Reply.{Reply}
use Rattle.mc_script.specs.declared.reply.Reply.TheVariants.{Priority, Deleted}
use Rattle.mc_seats.specs.declared.error.ActError.{ActError}
use Rattle.mc_seats.specs.declared.entry.LineEntry.{LineEntry}
use Rattle.mc_seats.specs.Asks.{is_named}
use Rattle.mc_seats.specs.Effects.{IsReply, EventsOf, RefusedAt, batch_in, batch_priority}
use Rattle.mc_runs.specs.Promises.{ContentGrows, GrowsAt, HasCommitted, HasDeleted, HasDeletedSince, HasProcessed, IsLineAt, OnlyGrows, SinceLine, StillDeleted, batch_at, batch_cid, chain_cids}
use Rattle.mc_runs.specs.Runs.{Answer, LineStep, Runs}
use Rattle.mc_seats.specs.Step.{Row, Step}
use Rattle.mc_seats.specs.Worlds.{AtPlace, Moved, Place, WorldState, is_down, state_at}
use Rattle.mc_runs.proofs.PromiseFacts.{runs_grow}
use Rattle.mc_seats.proofs.SeatFacts.{get_of_set}

abbrev pub WrittenLaw : Type 0
WrittenLaw = (kept : Kept) (links : List Cid) (delta : Delta) (s new : ReplicaState) → kept ≡ kept_of s.state.durable → Goes (made_events kept links delta) s new
    → slice_get new.state.durable.order (length kept.order) ≡ Some (made_cid links delta)

-- the numbers of `ok P` and `deleted N`
number_in : Reply → Option ℕ
number_in (Priority priority) = Some priority
number_in reply = None

count_in : Reply → Option ℕ
count_in (Deleted blocks) = Some blocks
count_in reply = None

abbrev pub said_in : (Reply → Option ℕ) → Result Reply ActError → Option ℕ
said_in number (Ok reply) = number reply
said_in number (Err error) = None

-- no refusal is answered so
no_number : (error : CoreError) (priority : ℕ) → IsReply error (Priority priority) → ⊥
unfolding number_in
no_number core.KeeperFault priority e = e
no_number core.Memory priority e = e
no_number error priority e = true≢false (sym (ap (λ (said : Result Reply ActError). is_some (said_in number_in said)) e))

no_count : (error : CoreError) (count : ℕ) → IsReply error (Deleted count) → ⊥
unfolding count_in
no_count core.KeeperFault count e = e
no_count core.Memory count e = e
no_count error count e = true≢false (sym (ap (λ (said : Result Reply ActError). is_some (said_in count_in said)) e))

-- what holds of a replica that is there
pub stands_within : {A : Type 0} (xs : List A) (r : ℕ) → r < length xs → (x : A) × (slice_get xs r ≡ Some x)
stands_within [] r within = absurd (omega (arith, within))
stands_within (x ∷ xs) zero within = (x, refl)
stands_within (x ∷ xs) (suc r) within = stands_within xs r (omega (arith, within))

pub of_place : (w : WorldState) (r : ℕ) (P : Place → Type 0) (p : Place) → slice_get w.places r ≡ Some p → AtPlace w r P → P p
of_place w r P p stands holds = subst (λ (o : Option Place). IfSome o P) stands holds

pub at_there : (w : WorldState) (r : ℕ) (P : Place → Type 0) → nat_lt r (length w.places) ≡ true → AtPlace w r P → (p : Place) × (slice_get w.places r ≡ Some p) × P p
at_there w r P there holds =
    let found = stands_within w.places r (ltb-true r (length w.places) there) in
    (found.0, found.1, of_place w r P found.0 found.1 holds)

pub moved_stands : {A : Type 0} (r : ℕ) (olds news : List A) (P : A → A → Type 0) (m : Moved r olds news P) → slice_get news r ≡ Some m.new
moved_stands r olds news P m = ap (λ l. slice_get l r) m.after ∙ get_of_set olds r m.old m.new m.stands

-- what a command has done with its events
abbrev pub Done : WorldState → Command → Reply → ReplicaState → ReplicaState → Type 0
Done w command reply s t = (events : List Event) × EventsOf w s command events reply × Goes events s t

abbrev Adds : (Kept → Cid) → ReplicaState → ReplicaState → Type 0
Adds cid s t = slice_get t.state.durable.order (length s.state.durable.order) ≡ Some (cid (kept_of s.state.durable))

pub put_is_processed : (law : WrittenLaw) (w : WorldState) (r : ℕ) (key bytes : List ℕ) (entry : LineEntry) (priority : ℕ) (w2 : WorldState) → Step w (Put r key bytes) entry (Priority priority) w2
    → HasProcessed w r (λ kept. made_cid (next_links kept) (delta_of_put kept key bytes)) w2
unfolding number_in
put_is_processed law w r key bytes entry priority w2 step = over step.row
  where
    over : Row w (Put r key bytes) (λ r. is_named entry.keepers r ≡ true) (λ r. is_named entry.own r ≡ true) (λ r. is_named entry.desks r ≡ true) (Priority priority) w2 → HasProcessed w r (λ kept. made_cid (next_links kept) (delta_of_put kept key bytes)) w2
    over (inl (inl (inl refused))) =
        let found = at_there w r (λ p. RefusedAt w p (Put r key bytes) (Some (Priority priority))) step.there refused.cause in
        absurd (no_number found.2.0 priority found.2.3)
    over (inl (inr fault)) = absurd (true≢false (ap (λ r. is_some (number_in r)) fault.says))
    over (inr peer) = absurd (true≢false (ap (λ r. is_some (number_in r)) peer.says))
    over (inl (inl (inr done))) = record {
      old = done.moved.old;
      new = done.moved.new;
      stood = done.moved.stands;
      stands = moved_stands r w.places w2.places _ done.moved;
      processed =
          told_weaker (Done w (Put r key bytes) (Priority priority)) (Adds (λ kept. made_cid (next_links kept) (delta_of_put kept key bytes)))
          (λ s t h. law (kept_of s.state.durable) (next_links (kept_of s.state.durable)) (delta_of_put (kept_of s.state.durable) key bytes) s t refl (subst (λ events. Goes events s t) h.1.1.0 h.2))
          (state_at done.moved.old) (state_at done.moved.new) done.moved.holds.1;
    }

-- the first of two lists of events, and what comes after it

may_first : (first second : List Event) (s : ReplicaState) → MayHappen s (first ++ second) → MayHappen s first
may_first [] second s may = tt
may_first (event ∷ first) second s may = (may.0, may.1, may_first first second (goes_on s event) may.2)

may_second : (first second : List Event) (s : ReplicaState) → MayHappen s (first ++ second) → MayHappen (all_happen s first) second
may_second [] second s may = may
may_second (event ∷ first) second s may = may_second first second (goes_on s event) may.2

first_goes : (first second : List Event) (s new : ReplicaState) → Goes (first ++ second) s new → Goes first s (all_happen s first)
first_goes first second s new g = record { may = may_first first second s g.may; ends = refl }

second_goes : (first second : List Event) (s new : ReplicaState) → Goes (first ++ second) s new → Goes second (all_happen s first) new
second_goes first second s new g = record { may = may_second first second s g.may; ends = g.ends ∙ all_happen-append first second s }

still_stands : (xs ys : List Cid) (i : ℕ) (c : Cid) → slice_get xs i ≡ Some c → slice_get (xs ++ ys) i ≡ Some c
still_stands [] ys i c e = absurd (true≢false (sym (ap is_some e)))
still_stands (x ∷ xs) ys zero c e = e
still_stands (x ∷ xs) ys (suc i) c e = still_stands xs ys i c e

-- the batch that is open

open_one : (run : Option Running) → stop_front (is_down run) (no_batch_refusal (batch_in run) (λ held. None)) ≡ None → (batch : OpenBatch) × (batch_in run ≡ Some batch)
open_one None front = absurd (true≢false (ap is_some front))
open_one (Some run) front = held run.batch front
  where
    held : (batch : Option OpenBatch) → no_batch_refusal batch (λ held. None) ≡ None → (open_now : OpenBatch) × (batch ≡ Some open_now)
    held None front = absurd (true≢false (ap is_some front))
    held (Some batch) front = (batch, refl)

of_open : (run : Option Running) (batch : OpenBatch) (P : OpenBatch → Type 0) → batch_in run ≡ Some batch → OfRun run P → P batch
of_open None batch P is h = absurd h
of_open (Some run) batch P is h = subst (λ held. OfBatch held P) is h

becomes : (grow : GrowLaw) (law : WrittenLaw) (s t : ReplicaState) (batch : OpenBatch) (events : List Event) (written : Written) (empty : Bool) → BatchBecomes (kept_of s.state.durable) batch empty events (Some written) → Goes events s t → Adds (batch_cid batch) s t
becomes grow law s t batch events written true plan goes = absurd (true≢false (ap is_some plan.1))
becomes grow law s t batch events written false plan goes =
    let made : List Event = made_events (kept_of s.state.durable) (next_links (kept_of s.state.durable)) (delta_of_batch (kept_of s.state.durable) batch) in
    let whole : Goes (made ++ Batch None ∷ []) s t = subst (λ events. Goes events s t) plan.0 goes in
    let grown = goes_grows grow (Batch None ∷ []) (all_happen s made) t (second_goes made (Batch None ∷ []) s t whole) in
    ap (λ (order : List Cid). slice_get order (length s.state.durable.order)) grown.order
    ∙ still_stands (all_happen s made).state.durable.order grown.processed (length s.state.durable.order) (batch_cid batch (kept_of s.state.durable))
    (law (kept_of s.state.durable) (next_links (kept_of s.state.durable)) (delta_of_batch (kept_of s.state.durable) batch) s (all_happen s made) refl (first_goes made (Batch None ∷ []) s t whole))

-- a commit that was answered by a number that isn't 0 is that of a batch with a block
commits : (grow : GrowLaw) (law : WrittenLaw) (s t : ReplicaState) (batch : OpenBatch) (events : List Event) (priority : ℕ) (answer : Option Written) → priority ≢ 0 → Priority priority ≡ Priority (batch_priority answer)
    → BatchBecomes (kept_of s.state.durable) batch (is_empty_batch batch) events answer → Goes events s t → Adds (batch_cid batch) s t
unfolding number_in
commits grow law s t batch events priority None some says plan goes = absurd (some (ap (λ r. unwrap_or (number_in r) 0) says))
commits grow law s t batch events priority (Some written) some says plan goes = becomes grow law s t batch events written (is_empty_batch batch) plan goes

told_commits : (grow : GrowLaw) (law : WrittenLaw) (w : WorldState) (r : ℕ) (batch : OpenBatch) (priority : ℕ) → priority ≢ 0 → (old new : Option Kept) (fuse fuse2 : Option Fuse) (run run2 : Option Running) → batch_in run ≡ Some batch
    → Told (state_of old fuse run) (state_of new fuse2 run2) (Done w (Commit r) (Priority priority)) → Told (state_of old fuse run) (state_of new fuse2 run2) (Adds (batch_cid batch))
told_commits grow law w r batch priority some None new fuse fuse2 run run2 is told = tt
told_commits grow law w r batch priority some (Some old) None fuse fuse2 run run2 is told = absurd told
told_commits grow law w r batch priority some (Some old) (Some new) fuse fuse2 run run2 is told =
    let s : ReplicaState = record { state = record { durable = durable_of old; run = run }; fuse = fuse } in
    let t : ReplicaState = record { state = record { durable = durable_of new; run = run2 }; fuse = fuse2 } in
    commits grow law s t batch told.0 priority told.1.0 some told.1.2
    (of_open run batch (λ held. BatchBecomes (kept_of (durable_of old)) held (is_empty_batch held) told.0 told.1.0) is told.1.1) told.2

pub commit_is_processed : (grow : GrowLaw) (law : WrittenLaw) (w : WorldState) (r : ℕ) (entry : LineEntry) (priority : ℕ) (w2 : WorldState) → Step w (Commit r) entry (Priority priority) w2 → priority ≢ 0 → HasCommitted w r w2
unfolding number_in
commit_is_processed grow law w r entry priority w2 step some = over step.row
  where
    over : Row w (Commit r) (λ r. is_named entry.keepers r ≡ true) (λ r. is_named entry.own r ≡ true) (λ r. is_named entry.desks r ≡ true) (Priority priority) w2 → HasCommitted w r w2
    over (inl (inl (inl refused))) =
        let found = at_there w r (λ p. RefusedAt w p (Commit r) (Some (Priority priority))) step.there refused.cause in
        absurd (no_number found.2.0 priority found.2.3)
    over (inl (inr fault)) = absurd (true≢false (ap (λ r. is_some (number_in r)) fault.says))
    over (inr peer) = absurd (true≢false (ap (λ r. is_some (number_in r)) peer.says))
    over (inl (inl (inr done))) =
        let allowed = of_place w r (λ p. RefusedAt w p (Commit r) None) done.moved.old done.moved.stands done.allowed in
        let held = open_one done.moved.old.run allowed.0 in
        record {
          batch = held.0;
          was_open = ap batch_at done.moved.stands ∙ held.1;
          processed = record {
            old = done.moved.old;
            new = done.moved.new;
            stood = done.moved.stands;
            stands = moved_stands r w.places w2.places _ done.moved;
            processed =
                told_commits grow law w r held.0 priority some done.moved.old.content done.moved.new.content done.moved.old.fuse done.moved.new.fuse done.moved.old.run done.moved.new.run held.1 done.moved.holds.1;
          };
        }

-- the blocks of a delete, one after another

pub made_order : (stored : Bool) (changes : Changes) (cid : Cid) (durable : Durable) (run : Option Running) (fuse : Option Fuse)
    → MayHappen (record { state = record { durable = durable; run = run }; fuse = fuse }) (with_store (cond stored None (Some changes)) (Process (cid ∷ []) ∷ []))
    → (all_happen (record { state = record { durable = durable; run = run }; fuse = fuse }) (with_store (cond stored None (Some changes)) (Process (cid ∷ []) ∷ []))).state.durable.order ≡ durable.order ++ cid ∷ []
made_order true changes cid durable (Some run) fuse may = refl
made_order true changes cid durable None fuse may = absurd may.0
made_order false changes cid durable (Some run) fuse may = refl
made_order false changes cid durable None fuse may = absurd may.0

chain_order : (deltas : List Delta) (kept : Kept) (links : List Cid) (s new : ReplicaState) → Goes (chain_events kept links deltas) s new → new.state.durable.order ≡ s.state.durable.order ++ chain_cids links deltas
chain_order [] kept links s new g = ap (λ (x : ReplicaState). x.state.durable.order) g.ends ∙ sym (append-nil s.state.durable.order)
chain_order (delta ∷ deltas) kept links s new g =
    let made : List Event = made_events kept links delta in
    let rest : List Event = chain_events (with_made kept (made_cid links delta) (made_bytes links delta)) (made_cid links delta ∷ []) deltas in
    chain_order deltas (with_made kept (made_cid links delta) (made_bytes links delta)) (made_cid links delta ∷ []) (all_happen s made) new (second_goes made rest s new g)
    ∙ ap (λ (order : List Cid). order ++ chain_cids (made_cid links delta ∷ []) deltas)
    (made_order (is_stored kept.graph (made_cid links delta)) _ (made_cid links delta) s.state.durable s.state.run s.fuse (may_first made rest s g.may))
    ∙ append_assoc s.state.durable.order (made_cid links delta ∷ []) (chain_cids (made_cid links delta ∷ []) deltas)

abbrev AddsChain : List ℕ → ℕ → ReplicaState → ReplicaState → Type 0
AddsChain key count s t = (deltas : List Delta) × IsDeltas (kept_of s.state.durable) key deltas × (count ≡ length deltas)
    × (t.state.durable.order ≡ s.state.durable.order ++ chain_cids (next_links (kept_of s.state.durable)) deltas)

deletes : (w : WorldState) (r : ℕ) (key : List ℕ) (count : ℕ) (s t : ReplicaState) → Done w (Del r key) (Deleted count) s t → AddsChain key count s t
unfolding count_in
deletes w r key count s t h = (
  h.1.1.0,
  h.1.1.1,
  ap (λ r. unwrap_or (count_in r) 0) h.1.2 ∙ h.1.1.3,
  chain_order h.1.1.0 (kept_of s.state.durable) (next_links (kept_of s.state.durable)) s t (subst (λ events. Goes events s t) h.1.1.2 h.2),
)

pub delete_is_processed : (w : WorldState) (r : ℕ) (key : List ℕ) (entry : LineEntry) (count : ℕ) (w2 : WorldState) → Step w (Del r key) entry (Deleted count) w2 → HasDeleted w r key count w2
unfolding count_in
delete_is_processed w r key entry count w2 step = over step.row
  where
    over : Row w (Del r key) (λ r. is_named entry.keepers r ≡ true) (λ r. is_named entry.own r ≡ true) (λ r. is_named entry.desks r ≡ true) (Deleted count) w2 → HasDeleted w r key count w2
    over (inl (inl (inl refused))) =
        let found = at_there w r (λ p. RefusedAt w p (Del r key) (Some (Deleted count))) step.there refused.cause in
        absurd (no_count found.2.0 count found.2.3)
    over (inl (inr fault)) = absurd (true≢false (ap (λ r. is_some (count_in r)) fault.says))
    over (inr peer) = absurd (true≢false (ap (λ r. is_some (count_in r)) peer.says))
    over (inl (inl (inr done))) = record {
      old = done.moved.old;
      new = done.moved.new;
      stood = done.moved.stands;
      stands = moved_stands r w.places w2.places _ done.moved;
      processed = told_weaker (Done w (Del r key) (Deleted count)) (AddsChain key count) (deletes w r key count) (state_at done.moved.old) (state_at done.moved.new) done.moved.holds.1;
    }

-- what was processed stays so

told_later : (cid : Kept → Cid) (old : Option ReplicaState) (mid last : Option Kept) (fuse fuse2 : Option Fuse) (run run2 : Option Running) → Told old (state_of mid fuse run) (Adds cid) → ContentGrows mid last → Told old (state_of last fuse2 run2) (Adds cid)
told_later cid None mid last fuse fuse2 run run2 told grows = tt
told_later cid (Some s) None last fuse fuse2 run run2 told grows = absurd told
told_later cid (Some s) (Some mid) None fuse fuse2 run run2 told grows = absurd grows
told_later cid (Some s) (Some mid) (Some last) fuse fuse2 run run2 told grows =
    ap (λ (order : List Cid). slice_get order (length s.state.durable.order)) grows.order
    ∙ still_stands mid.order grows.processed (length s.state.durable.order) (cid (kept_of s.state.durable)) told

pub processed_later : (r : ℕ) (cid : Kept → Cid) (w w2 w3 : WorldState) → HasProcessed w r cid w2 → OnlyGrows w2 w3 → HasProcessed w r cid w3
processed_later r cid w w2 w3 is grows = later (slice_get w3.places r) refl (subst (λ (o : Option Place). GrowsAt o (slice_get w3.places r)) is.stands (grows.each r))
  where
    later : (o : Option Place) → slice_get w3.places r ≡ o → GrowsAt (Some is.new) o → HasProcessed w r cid w3
    later None stands g = absurd g
    later (Some q) stands g = record {
      old = is.old;
      new = q;
      stood = is.stood;
      stands = stands;
      processed = told_later cid (state_at is.old) is.new.content q.content is.new.fuse q.fuse is.new.run q.run is.processed g;
    }

committed_later : (r : ℕ) (w w2 w3 : WorldState) → HasCommitted w r w2 → OnlyGrows w2 w3 → HasCommitted w r w3
committed_later r w w2 w3 is grows = record { batch = is.batch; was_open = is.was_open; processed = processed_later r (batch_cid is.batch) w w2 w3 is.processed grows }

-- what a line has done stands in the last world, where P is kept by what comes later
module _ (law : GrowLaw) (P : WorldState → WorldState → Type 0) (later : (w w2 w3 : WorldState) → P w w2 → OnlyGrows w2 w3 → P w w3) (command : Command) (reply : Reply) (done : (w : WorldState) (entry : LineEntry) (w2 : WorldState) → Step w command entry reply w2 → P w w2) where
  line_stands : (line : List ℕ) (answer : Option Answer) (asked : List ℕ) (given : Answer) (first mid last : WorldState) → LineStep first (line_of line) mid answer → line ≡ asked → line_of asked ≡ Some (Some command) → answer ≡ Some given → given.reply ≡ reply → OnlyGrows mid last → P first last
  line_stands line answer asked given first mid last step is asks answered says grows =
      let own : Step first command given.entry given.reply mid = subst (λ (a : Option Answer). LineStep first (Some (Some command)) mid a) answered (subst (λ (read : Option (Option Command)). LineStep first read mid answer) (ap line_of is ∙ asks) step) in
      later first mid last (done first given.entry mid (subst (λ (x : Reply). Step first command given.entry x mid) says own)) grows

  pub stands_since : (lines : List (List ℕ)) (answers : List (Option Answer)) (first last : WorldState) (k : ℕ) → Runs first lines answers last → IsLineAt lines answers k command reply → SinceLine first lines answers k last P
  stands_since [] [] first last k runs is = absurd (nothing_at k is.stands)
    where
      nothing_at : (k : ℕ) → slice_get [] k ≡ Some is.line → ⊥
      nothing_at k e = true≢false (sym (ap is_some e))
  stands_since [] (answer ∷ answers) first last k runs is = absurd runs
  stands_since (line ∷ lines) [] first last k runs is = absurd runs
  stands_since (line ∷ lines) (answer ∷ answers) first last zero (mid, step, rest) is =
      (first, refl, line_stands line answer is.line is.answer first mid last step (same_of is.stands) is.asks (same_of is.answered) is.says (runs_grow law lines answers mid last rest))
    where
      same_of : {A : Type 0} {x y : A} → Some x ≡ Some y → x ≡ y
      same_of e = cc
  stands_since (line ∷ lines) (answer ∷ answers) first last (suc k) (mid, step, rest) is =
      let more = stands_since lines answers mid last k rest (record { line = is.line; answer = is.answer; stands = is.stands; asks = is.asks; answered = is.answered; says = is.says }) in
      (more.0, (mid, step, more.1), more.2)

abbrev pub PutLaw : Type 0
PutLaw = (w : WorldState) (r : ℕ) (key bytes : List ℕ) (entry : LineEntry) (priority : ℕ) (w2 : WorldState) → Step w (Put r key bytes) entry (Priority priority) w2
    → HasProcessed w r (λ kept. made_cid (next_links kept) (delta_of_put kept key bytes)) w2

pub put_stands : (law : GrowLaw) (processed : PutLaw) (lines : List (List ℕ)) (answers : List (Option Answer)) (first last : WorldState) (k r : ℕ) (key bytes : List ℕ) (priority : ℕ) → Runs first lines answers last → IsLineAt lines answers k (Put r key bytes) (Priority priority)
    → SinceLine first lines answers k last (λ w w2. HasProcessed w r (λ kept. made_cid (next_links kept) (delta_of_put kept key bytes)) w2)
put_stands law processed lines answers first last k r key bytes priority runs is =
    stands_since law (λ w w2. HasProcessed w r (λ kept. made_cid (next_links kept) (delta_of_put kept key bytes)) w2) (processed_later r (λ kept. made_cid (next_links kept) (delta_of_put kept key bytes)))
    (Put r key bytes) (Priority priority) (λ w entry w2 step. processed w r key bytes entry priority w2 step) lines answers first last k runs is

abbrev pub CommitLaw : Type 0
CommitLaw = (w : WorldState) (r : ℕ) (entry : LineEntry) (priority : ℕ) (w2 : WorldState) → Step w (Commit r) entry (Priority priority) w2 → priority ≢ 0 → HasCommitted w r w2

pub commit_stands : (law : GrowLaw) (processed : CommitLaw) (lines : List (List ℕ)) (answers : List (Option Answer)) (first last : WorldState) (k r priority : ℕ) → Runs first lines answers last → IsLineAt lines answers k (Commit r) (Priority priority) → priority ≢ 0
    → SinceLine first lines answers k last (λ w w2. HasCommitted w r w2)
commit_stands law processed lines answers first last k r priority runs is some =
    stands_since law (λ w w2. HasCommitted w r w2) (committed_later r) (Commit r) (Priority priority) (λ w entry w2 step. processed w r entry priority w2 step some) lines answers first last k runs is

-- so do the blocks of a delete

deletes_last : (key : List ℕ) (count : ℕ) (s : ReplicaState) (mid last : Durable) (run run2 : Option Running) (fuse fuse2 : Option Fuse) → GoesOn mid last → StillDeleted key count s (record { state = record { durable = mid; run = run }; fuse = fuse })
    → StillDeleted key count s (record { state = record { durable = last; run = run2 }; fuse = fuse2 })
deletes_last key count s mid last run run2 fuse fuse2 grows (deltas, behind, are, many, order) = (
  deltas,
  behind ++ grows.processed,
  are,
  many,
  grows.order ∙ ap (λ (l : List Cid). l ++ grows.processed) order ∙ append_assoc (s.state.durable.order ++ chain_cids (next_links (kept_of s.state.durable)) deltas) behind grows.processed,
)

told_deletes : (key : List ℕ) (count : ℕ) (old : Option ReplicaState) (mid last : Option Kept) (fuse fuse2 : Option Fuse) (run run2 : Option Running) → Told old (state_of mid fuse run) (StillDeleted key count) → ContentGrows mid last → Told old (state_of last fuse2 run2) (StillDeleted key count)
told_deletes key count None mid last fuse fuse2 run run2 told grows = tt
told_deletes key count (Some s) None last fuse fuse2 run run2 told grows = absurd told
told_deletes key count (Some s) (Some mid) None fuse fuse2 run run2 told grows = absurd grows
told_deletes key count (Some s) (Some mid) (Some last) fuse fuse2 run run2 told grows = deletes_last key count s (durable_of mid) (durable_of last) run run2 fuse fuse2 grows told

deleted_later : (r : ℕ) (key : List ℕ) (count : ℕ) (w w2 w3 : WorldState) → HasDeletedSince w r key count w2 → OnlyGrows w2 w3 → HasDeletedSince w r key count w3
deleted_later r key count w w2 w3 is grows = later (slice_get w3.places r) refl (subst (λ (o : Option Place). GrowsAt o (slice_get w3.places r)) is.stands (grows.each r))
  where
    later : (o : Option Place) → slice_get w3.places r ≡ o → GrowsAt (Some is.new) o → HasDeletedSince w r key count w3
    later None stands g = absurd g
    later (Some q) stands g = record {
      old = is.old;
      new = q;
      stood = is.stood;
      stands = stands;
      processed = told_deletes key count (state_at is.old) is.new.content q.content is.new.fuse q.fuse is.new.run q.run is.processed g;
    }

deleted_now : (r : ℕ) (key : List ℕ) (count : ℕ) (w w2 : WorldState) → HasDeleted w r key count w2 → HasDeletedSince w r key count w2
deleted_now r key count w w2 is = record {
  old = is.old;
  new = is.new;
  stood = is.stood;
  stands = is.stands;
  processed = told_weaker (AddsChain key count) (StillDeleted key count) (λ s t h. (h.0, [], h.1, h.2, h.3 ∙ sym (append-nil (s.state.durable.order ++ chain_cids (next_links (kept_of s.state.durable)) h.0)))) (state_at is.old) (state_at is.new) is.processed;
}

abbrev pub DeleteLaw : Type 0
DeleteLaw = (w : WorldState) (r : ℕ) (key : List ℕ) (entry : LineEntry) (count : ℕ) (w2 : WorldState) → Step w (Del r key) entry (Deleted count) w2 → HasDeleted w r key count w2

pub delete_stands : (law : GrowLaw) (processed : DeleteLaw) (lines : List (List ℕ)) (answers : List (Option Answer)) (first last : WorldState) (k r : ℕ) (key : List ℕ) (count : ℕ) → Runs first lines answers last → IsLineAt lines answers k (Del r key) (Deleted count)
    → SinceLine first lines answers k last (λ w w2. HasDeletedSince w r key count w2)
delete_stands law processed lines answers first last k r key count runs is =
    stands_since law (λ w w2. HasDeletedSince w r key count w2) (deleted_later r key count) (Del r key) (Deleted count) (λ w entry w2 step. deleted_now r key count w w2 (processed w r key entry count w2 step)) lines answers first last k runs is
