-- What a put and a get of a node are for a storm: a call at its place in the log.
use Rattle.std.proofs.Common.{◌≡◌, ℕ, Bool, true, false, ◌||◌, ◌⊎◌, inl, inr, List, [], Option, Some, None, Result, Ok, Err, refl, sym, ap, ◌∙◌, subst}
use Rattle.std.specs.Prelude.{is_some}
use Rattle.std.proofs.lemmas.Bool.{false≢true}
use Rattle.mc_base.specs.Causes.{Rose}
use Rattle.mc_base.specs.Told.{Told}
use Rattle.mc_model.specs.Events.{Event}
use Rattle.mc_model.specs.Kept.{Kept, processed}
use Rattle.mc_model.specs.Live.{value}
use Rattle.mc_keep.specs.Causes.{Kind, Refusal, Fault, Shortage}
use Rattle.mc_core.specs.declared.CoreError.{CoreError}
use Rattle.mc_core.specs.declared.CoreError.TheVariants.{BadKey, ValueTooLong, BlockTooLarge, PriorityFull, Clash, KeeperFault, Stopped, BadCast, NoBatch, BatchOpen, Memory}
use Rattle.mc_core.specs.declared.Written.{Written}
use Rattle.mc_core.specs.Calls.{Call, Faults, Stays}
use Rattle.mc_core.specs.Counted.{run_of}
use Rattle.mc_core.specs.Events.{ReplicaState, Breaks, state_of}
use Rattle.mc_core.specs.Exact.{seen_of, stop_front}
use Rattle.mc_core.specs.Puts.{AddsPut, PutEvents, put_refusal}
use Rattle.mc_core.specs.Reads.{OnlyReads, read_refusal}
use Rattle.mc_core.specs.Refusals.{ByKind, Is, kind_of}
use Rattle.mc_node.specs.declared.node.Seen.{Seen}
use Rattle.mc_node.specs.declared.note.Note.{Note}
use Rattle.mc_node.specs.declared.note.Note.TheVariants.{Halted, Made}
use Rattle.mc_storm.specs.Interleavings.{Write}
use Rattle.mc_node.specs.Items.{Item, Shown, has_halted, has_note, is_halt, is_sealed, last, last_state, root, state_in}
use Rattle.mc_node.specs.Moves.{Adds, PutDoes, ReadDoes, SeenOver, with_entry}
use Rattle.mc_storm.specs.Storms.{Gets, PutMakes, PutRefused, is_block_refusal, is_bytes, storm_key, storm_value}
use Rattle.mc_node.specs.Ties.{Goes, IsMoment}
use Rattle.mc_writers.specs.Writers.{BadOver, GoodOver}
use Rattle.mc_node.proofs.FrameFacts.{go_more}
use Rattle.mc_node.proofs.ItemFacts.{has_on, last_on}

told_both : {A B : Type 0} (P Q R : A → B → Type 0) → ((x : A) (y : B) → P x y → Q x y → R x y) → (a : Option A) (b : Option B) → Told a b P → Told a b Q → Told a b R
told_both P Q R join None b p q = tt
told_both P Q R join (Some x) None p q = absurd p
told_both P Q R join (Some x) (Some y) p q = join x y p q

told_more : {A B : Type 0} (P R : A → B → Type 0) → ((x : A) (y : B) → P x y → R x y) → (a : Option A) (b : Option B) → Told a b P → Told a b R
told_more P R more None b p = tt
told_more P R more (Some x) None p = absurd p
told_more P R more (Some x) (Some y) p = more x y p

-- where nothing changes
told_still : {A : Type 0} (P R : A → A → Type 0) → ((x y : A) → P x y → R x x) → (a b : Option A) → Told a b P → Told a a R
told_still P R more None b p = tt
told_still P R more (Some x) None p = absurd p
told_still P R more (Some x) (Some y) p = more x y p

some_not : {A : Type 0} (x : A) → Some x ≡ None → ⊥
some_not x e = false≢true (sym (ap is_some e))

-- an answer that isn't Stopped comes where the log has no halt
running : (halted : Bool) (seen due : Option CoreError) → seen ≡ stop_front halted due → seen ≡ None → halted ≡ false
running true seen due e none = absurd (some_not Stopped (sym e ∙ none))
running false seen due e none = refl

-- what a moment of a log shows is what the log's last entry shows
pub moment_state : (log : List Item) (now : Shown) → IsMoment log now → is_sealed log ≡ false → state_in now ≡ last_state log
moment_state log now m a = λ i. state_of (m.told a i) (m.fuse a i) (run_of (m.stopped i) (m.run a i))

or_false : (b : Bool) → (b || false) ≡ b
or_false true = refl
or_false false = refl

item_of : Note → Shown → Item
item_of note now = record { note = note; shown = now }

noted_state : (old new : List Item) (note : Note) (now : Shown) → new ≡ with_entry old note now → last new ≡ now
noted_state old new note now e = ap last e ∙ last_on old (record { note = note; shown = now })

noted_has : (test : Note → Bool) (old new : List Item) (note : Note) (now : Shown) → new ≡ with_entry old note now → has_note test new ≡ (has_note test old || test note)
noted_has test old new note now e = ap (has_note test) e ∙ has_on test old (record { note = note; shown = now })

pub put_made : (writer number : ℕ) (same : Bool) (written : Written) (old new : List Item) → PutDoes (storm_key writer) (storm_value number) (Ok written) old new
    → GoodOver (record { writer = writer; gets = false; write = record { number = number; made = true; same = same } }) old new
put_made writer number same written old new d =
    let open_old : has_halted old ≡ false = running (has_halted old) None _ d.fronts refl in record {
      open_before = open_old;
      open_after = noted_has is_halt old new Made d.after d.notes ∙ or_false (has_halted old) ∙ open_old;
      acts = λ a.
          subst (λ (o : Option ReplicaState). Told (last_state old) o (PutMakes (storm_key writer) (storm_value number))) (ap state_in (sym (noted_state old new Made d.after d.notes)))
          (subst (λ (o : Option ReplicaState). Told o (state_in d.after) (PutMakes (storm_key writer) (storm_value number))) (moment_state old d.before d.was a)
          (told_both (λ s now. Call (Is (put_refusal s (storm_key writer) (storm_value number))) (PutEvents s (storm_key writer) (storm_value number)) (Stays s) (Rose d.before.own d.after.own) (Ok written) s now)
          (AddsPut (storm_key writer) (storm_value number)) (PutMakes (storm_key writer) (storm_value number)) (λ s now done adds. record { written = written; done = done; adds = adds })
          (state_in d.before) (state_in d.after) d.acts.call d.acts.more));
    }

-- a refusal for the block is a refusal that the replica doesn't decide alone
block_kind : (error : CoreError) → is_block_refusal error ≡ true → (kind_of error ≡ Refusal) × (seen_of error ≡ None)
block_kind (BlockTooLarge len) e = (refl, refl)
block_kind PriorityFull e = (refl, refl)
block_kind (Clash cid) e = (refl, refl)
block_kind (BadKey fault) e = absurd (false≢true e)
block_kind ValueTooLong e = absurd (false≢true e)
block_kind KeeperFault e = absurd (false≢true e)
block_kind Stopped e = absurd (false≢true e)
block_kind (BadCast fault) e = absurd (false≢true e)
block_kind NoBatch e = absurd (false≢true e)
block_kind BatchOpen e = absurd (false≢true e)
block_kind Memory e = absurd (false≢true e)

-- what is said by kind, of a refusal
of_refusal : (A B C : Type 0) (kind : Kind) → kind ≡ Refusal → ByKind A B C kind → A
of_refusal A B C kind e x = subst (ByKind A B C) e x

pub put_unmade : (writer number : ℕ) (same : Bool) (error : CoreError) (old new : List Item) → is_block_refusal error ≡ true → PutDoes (storm_key writer) (storm_value number) (Err error) old new
    → (new ≡ old) × GoodOver (record { writer = writer; gets = false; write = record { number = number; made = false; same = same } }) old old
put_unmade writer number same error old new is d =
    let kind = block_kind error is in
    let open_old : has_halted old ≡ false = running (has_halted old) (seen_of error) _ d.fronts kind.1 in (
      of_refusal _ _ _ (kind_of error) kind.0 d.notes,
      record {
        open_before = open_old;
        open_after = open_old;
        acts = λ a.
            subst (λ (o : Option ReplicaState). Told o o (PutRefused (storm_key writer) (storm_value number))) (moment_state old d.before d.was a)
            (told_still (λ s now. Call (Is (put_refusal s (storm_key writer) (storm_value number))) (PutEvents s (storm_key writer) (storm_value number)) (Stays s) (Rose d.before.own d.after.own) (Err error) s now)
            (PutRefused (storm_key writer) (storm_value number))
            (λ s now call. record { cause = error; due = sym (of_refusal _ _ _ (kind_of error) kind.0 call).0; of_block = is; same = refl })
            (state_in d.before) (state_in d.after) d.acts.call);
      },
    )

pub put_failed : (writer number : ℕ) (write : Write) (old new : List Item) → write.number ≡ number → PutDoes (storm_key writer) (storm_value number) (Err KeeperFault) old new
    → ((now : Shown) × (new ≡ with_entry old Halted now)) × BadOver (record { writer = writer; gets = false; write = write }) (root old) old new
put_failed writer number write old new is d =
    let open_old : has_halted old ≡ false = running (has_halted old) None _ d.fronts refl in
    let own : d.before.own ≡ (root old).own = (d.since open_old).keeper.own_still refl in (
      (d.after, d.notes),
      record {
        frame = subst (λ (x : Shown). Goes true (root old) x) (sym (noted_state old new Halted d.after d.notes)) (go_more true (root old) d.before d.after (d.since open_old) d.acts.goes);
        open_before = open_old;
        halts = noted_has is_halt old new Halted d.after d.notes ∙ ap (λ b. b || true) open_old;
        fails = λ a.
            subst (λ (n : ℕ). Told (last_state old) (last_state new) (λ s now. Faults (PutEvents s (storm_key writer) (storm_value n)) (Rose (root old).own (last new).own) s now)) (sym is)
            (subst (λ (x : Shown). Told (last_state old) (state_in x) (λ s now. Faults (PutEvents s (storm_key writer) (storm_value number)) (Rose (root old).own x.own) s now)) (sym (noted_state old new Halted d.after d.notes))
            (subst (λ (n : ℕ). Told (last_state old) (state_in d.after) (λ s now. Faults (PutEvents s (storm_key writer) (storm_value number)) (Rose n d.after.own) s now)) own
            (subst (λ (o : Option ReplicaState). Told o (state_in d.after) (λ s now. Faults (PutEvents s (storm_key writer) (storm_value number)) (Rose d.before.own d.after.own) s now)) (moment_state old d.before d.was a) d.acts.call)));
      },
    )

-- the get of a writer's key
abbrev pub GetDoes : ℕ → Result (Seen (Option (List ℕ))) CoreError → List Item → List Item → Type 0
GetDoes writer = ReadDoes (λ kept found. found ≡ value (processed kept) (storm_key writer))

pub get_given : (writer number : ℕ) (made : Bool) (seen : Seen (Option (List ℕ))) (old new : List Item) → GetDoes writer (Ok seen) old new
    → (new ≡ old) × GoodOver (record { writer = writer; gets = true; write = record { number = number; made = made; same = is_bytes (storm_value number) seen.answer } }) old old
get_given writer number made seen old new d =
    let open_old : has_halted old ≡ false = running (has_halted old) None _ d.fronts refl in (
      d.notes,
      record {
        open_before = open_old;
        open_after = open_old;
        acts = λ a.
            subst (λ (o : Option ReplicaState). Told o o (Gets (storm_key writer) (storm_value number) (is_bytes (storm_value number) seen.answer))) (moment_state old d.before d.was a)
            (told_still (λ s now. Call (Is (read_refusal s)) (OnlyReads (SeenOver (λ kept found. found ≡ value (processed kept) (storm_key writer))) s) (Stays s) (Rose d.before.own d.after.own) (Ok seen) s now)
            (Gets (storm_key writer) (storm_value number) (is_bytes (storm_value number) seen.answer))
            (λ s now done. record { answer = ap (is_bytes (storm_value number)) done.makes.1.0; unchanged = refl })
            (state_in d.before) (state_in d.after) d.acts.call);
      },
    )

-- the events of a read that failed are none
no_events : {T : Type 0} (P : Kept → T → Type 0) (rose : Type 0) (s new : ReplicaState) → Faults (OnlyReads P s) rose s new → Breaks [] rose s new
no_events {T} P rose s new f = subst (λ (l : List Event). Breaks l rose s new) (none f.begins) f.breaks
  where
    none : (f.events ≡ []) ⊎ ((value : T) × OnlyReads P s f.events value) → f.events ≡ []
    none (inl e) = e
    none (inr (value, plan)) = plan.0

pub get_failed : (writer : ℕ) (write : Write) (old new : List Item) → GetDoes writer (Err KeeperFault) old new
    → ((now : Shown) × (new ≡ with_entry old Halted now)) × BadOver (record { writer = writer; gets = true; write = write }) (root old) old new
get_failed writer write old new d =
    let open_old : has_halted old ≡ false = running (has_halted old) None _ d.fronts refl in
    let own : d.before.own ≡ (root old).own = (d.since open_old).keeper.own_still refl in (
      (d.after, d.notes),
      record {
        frame = subst (λ (x : Shown). Goes true (root old) x) (sym (noted_state old new Halted d.after d.notes)) (go_more true (root old) d.before d.after (d.since open_old) d.acts.goes);
        open_before = open_old;
        halts = noted_has is_halt old new Halted d.after d.notes ∙ ap (λ b. b || true) open_old;
        fails = λ a.
            subst (λ (x : Shown). Told (last_state old) (state_in x) (λ s now. Breaks [] (Rose (root old).own x.own) s now)) (sym (noted_state old new Halted d.after d.notes))
            (subst (λ (n : ℕ). Told (last_state old) (state_in d.after) (λ s now. Breaks [] (Rose n d.after.own) s now)) own
            (subst (λ (o : Option ReplicaState). Told o (state_in d.after) (λ s now. Breaks [] (Rose d.before.own d.after.own) s now)) (moment_state old d.before d.was a)
            (told_more (λ s now. Faults (OnlyReads (SeenOver (λ kept found. found ≡ value (processed kept) (storm_key writer))) s) (Rose d.before.own d.after.own) s now) (λ s now. Breaks [] (Rose d.before.own d.after.own) s now)
            (λ s now f. no_events (SeenOver (λ kept found. found ≡ value (processed kept) (storm_key writer))) (Rose d.before.own d.after.own) s now f) (state_in d.before) (state_in d.after) d.acts.call)));
      },
    )

-- an answer that isn't Ok, no refusal for the block and no fault leaves the log
same_by : (A : Type 0) (old new : List Item) (kind : Kind) → (kind ≡ Fault → ⊥) → ByKind (new ≡ old) A ((new ≡ old) ⊎ (new ≡ old)) kind → new ≡ old
same_by A old new Refusal isnt n = n
same_by A old new Fault isnt n = absurd (isnt refl)
same_by A old new Shortage isnt (inl n) = n
same_by A old new Shortage isnt (inr n) = n

pub put_nothing : (key bytes : List ℕ) (error : CoreError) (old new : List Item) → (kind_of error ≡ Fault → ⊥) → PutDoes key bytes (Err error) old new → new ≡ old
put_nothing key bytes error old new isnt d = same_by (Adds (Some Halted) d.after old new) old new (kind_of error) isnt d.notes

pub get_nothing : (writer : ℕ) (error : CoreError) (old new : List Item) → (kind_of error ≡ Fault → ⊥) → GetDoes writer (Err error) old new → new ≡ old
get_nothing writer error old new isnt d = same_by (Adds (Some Halted) d.after old new) old new (kind_of error) isnt d.notes
