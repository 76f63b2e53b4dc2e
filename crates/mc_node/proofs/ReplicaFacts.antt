-- What the calls of a replica promise, as the calls of a node's value.
use Rattle.std.proofs.Common.{◌≡◌, ℕ, Bool, true, false, inl, inr, List, [], ◌∷◌, ◌++◌, length, Option, Some, None, Result, Ok, Err, refl, sym, ap, ◌∙◌, subst}
use Rattle.std.specs.Prelude.{⊤, IfSome, IfOk, IfErr}
use Rattle.std.proofs.lemmas.Bool.{false≢true}
use Rattle.std.proofs.lemmas.List.{append-nil}
use Rattle.mc_base.specs.Causes.{Rose}
use Rattle.mc_base.specs.Told.{Told}
use Rattle.mc_base.proofs.Telling.{told_weaker}
use Rattle.mc_base.specs.declared.counted.Counted as counted
use Rattle.mc_model.specs.Events.{Event, GoesOn}
use Rattle.mc_model.specs.Kept.{Kept, IsKept, processed}
use Rattle.mc_model.specs.Live.{value}
use Rattle.mc_model.specs.State.{Running, blocks_of, kept_of}
use Rattle.mc_keep.specs.declared.fuse.Fuse.{Fuse}
use Rattle.mc_keep.specs.declared.keeper.Keeper as keeper
use Rattle.mc_keep.specs.Causes.{Kind, Refusal, Fault, Shortage}
use Rattle.mc_keep.specs.Plan.{Schedule}
use Rattle.mc_turn.specs.Lists.{Begins}
use Rattle.mc_core.specs.declared.Deleted.{Deleted}
use Rattle.mc_core.specs.declared.CoreError.{CoreError}
use Rattle.mc_core.specs.declared.Heard.{Heard as HeardBlocks}
use Rattle.mc_core.specs.declared.Written.{Written}
use Rattle.mc_queue.specs.Views.{shown as shown_queue}
use Rattle.mc_core.specs.declared.replica.Replica.{Replica}
use Rattle.mc_core.specs.Calls.{Call, Stays}
use Rattle.mc_core.specs.Deletes.{AddsDeleted, AddsSome, DeleteShort, ShortKeeps}
use Rattle.mc_core.specs.Counted.{capped}
use Rattle.mc_core.specs.Events.{ReplicaState}
use Rattle.mc_core.specs.Reads.{OnlyReads}
use Rattle.mc_core.specs.Exact.{RestSame, StillTellsAt, TellsSameAt, front_of, stop_front}
use Rattle.mc_core.specs.Hears.{HearWants, unless_short}
use Rattle.mc_core.specs.Puts.{Adds as AddsBlocks, AddsPut}
use Rattle.mc_core.specs.Refusals.{ByKind, is_fault, kind_of}
use Rattle.mc_core.specs.Replica.{replica_state}
use Rattle.mc_core.specs.Words.{ContinuesAt}
use Rattle.mc_core.proofs.GrowthFacts.{same_goes}
use Rattle.mc_node.specs.declared.entry.Entry.{Entry}
use Rattle.mc_node.specs.declared.note.Note.{Note}
use Rattle.mc_node.specs.declared.note.Note.TheVariants.{Root, Made, Heard, Fetched, Walked, Cleared, Halted}
use Rattle.mc_node.specs.Entries.{AddsEntry, is_open, items_at, shown_at}
use Rattle.mc_node.specs.Items.{is_sealed, is_sealing, is_unsealed, last}
use Rattle.mc_node.specs.Moves.{DeleteAdds, Does, NoMore, PutAdds, SeenOver, note_of, seen_by}
use Rattle.mc_node.specs.declared.node.Seen.{Seen}
use Rattle.mc_node.specs.Ties.{IsTied}
use Rattle.mc_node.specs.Works.{Bounds}
use Rattle.mc_node.proofs.SeatFacts.{begins_on}
use Rattle.mc_node.proofs.WorkFacts.{Step, read_step}
use Rattle.mc_node.proofs.CallFacts.{BackLaw, BreakLaw, GoLaw, LeavesAlone, MayNote, acts_of, adds_items, does_end, leaves_alone, leaves_same, seen_acts, seen_front, seen_note, some_none, stays_goes}

module _ {K D : Type 0} {g : keeper.Ghosts K D} {h : counted.Ghosts K} {i : counted.Ghosts D} where
  -- an entry more, or none, leaves the log's beginning
  pub adds_begins : (note : Option Note) (replica : Replica K D g h i) (old mid new : List (Entry K D g h i)) → mid ≡ old → AddsEntry note replica mid new → Begins old new
  adds_begins None replica old mid new m e = ([], append-nil old ∙ sym m ∙ sym e)
  adds_begins (Some note) replica old mid new m (about, is, e) =
      (record { note = note; replica = about } ∷ [], ap (λ (l : List (Entry K D g h i)). l ++ record { note = note; replica = about } ∷ []) (sym m) ∙ sym e)

  module _ (told : K → Option Kept) (fuse : K → Option Fuse) (own faults : K → ℕ) (quiet : K → Bool) (schedule : K → Option Schedule) where
    -- a log that begins with a root that isn't sealed
    pub open_unsealed : (log mid : List (Entry K D g h i)) → mid ≡ log → is_open log ≡ true → is_sealed (items_at told fuse own faults quiet schedule mid) ≡ false
    open_unsealed log mid m o = subst (λ (l : List (Entry K D g h i)). is_sealed (items_at told fuse own faults quiet schedule l) ≡ false) (sym m) (of_log log o)
      where
        of_note : (note : Note) → is_unsealed note ≡ true → is_sealing note ≡ false
        of_note (Root true) o = absurd (false≢true o)
        of_note (Root false) o = refl
        of_note Made o = refl
        of_note Heard o = refl
        of_note Fetched o = refl
        of_note Walked o = refl
        of_note Cleared o = refl
        of_note Halted o = refl

        of_log : (log : List (Entry K D g h i)) → is_open log ≡ true → is_sealed (items_at told fuse own faults quiet schedule log) ≡ false
        of_log [] o = refl
        of_log (entry ∷ log) o = of_note entry.note o

    -- a call that has begun, to its end
    pub replica_ends : {T : Type 0} (go : GoLaw) (break : BreakLaw) (back : BackLaw) (ok short : Option Note) (Refused : ReplicaState → Option CoreError → Type 0) (Plan : ReplicaState → List Event → T → Type 0) (Short : ReplicaState → ReplicaState → Type 0)
        (short_goes : (s new : ReplicaState) → Short s new → GoesOn s.state.durable new.state.durable) (More : ReplicaState → ReplicaState → Type 0) (front : Option CoreError) (limit : Bounds) (old new : Replica K D g h i) (first log log' : List (Entry K D g h i)) (entry : Option Note) (result : Result T CoreError)
        → IsTied limit (shown_at told fuse own faults quiet schedule old) (items_at told fuse own faults quiet schedule log) → log ≡ first → old.stopped ≡ false → IfSome (told old.keeper) IsKept
        → Told (replica_state told fuse old) (replica_state told fuse new) (λ s after. Call (Refused s) (Plan s) (Short s) (Rose (own old.keeper) (own new.keeper)) result s after)
        → Told (replica_state told fuse old) (replica_state told fuse new) More → ContinuesAt told fuse own faults quiet schedule (is_fault result) old new → RestSame old new
        → front_of result ≡ stop_front old.stopped (unless_short result front) → is_sealed (items_at told fuse own faults quiet schedule log) ≡ false → MayNote ok (items_at told fuse own faults quiet schedule log) → MayNote short (items_at told fuse own faults quiet schedule log)
        → entry ≡ note_of ok short result → AddsEntry entry new log log'
        → (note_of ok short result ≡ None → LeavesAlone (shown_at told fuse own faults quiet schedule old) (shown_at told fuse own faults quiet schedule new))
        → IsTied limit (shown_at told fuse own faults quiet schedule new) (items_at told fuse own faults quiet schedule log')
        × Does ok short Refused Plan Short More front result (items_at told fuse own faults quiet schedule first) (items_at told fuse own faults quiet schedule log')
    replica_ends go break back ok short Refused Plan Short short_goes More front limit old new first log log' entry result tied is runs sound call more continues rest fronts unsealed may_ok may_short noted adds alone =
        let both = does_end go break back ok short Refused Plan Short short_goes More front limit (shown_at told fuse own faults quiet schedule old) (shown_at told fuse own faults quiet schedule new)
        (items_at told fuse own faults quiet schedule log) (items_at told fuse own faults quiet schedule log') result tied runs sound
        (acts_of told fuse own faults quiet schedule Refused Plan Short More result old new call more continues rest) (λ sealed. absurd (false≢true (sym unsealed ∙ sealed))) fronts may_ok may_short
        (adds_items told fuse own faults quiet schedule (note_of ok short result) new log log log' refl (subst (λ (n : Option Note). AddsEntry n new log log') noted adds)) alone in
        (both.0, subst (λ (l : List (Entry K D g h i)). Does ok short Refused Plan Short More front result (items_at told fuse own faults quiet schedule l) (items_at told fuse own faults quiet schedule log')) is both.1)

-- nothing more is said
pub no_more : (P : ReplicaState → ReplicaState → Type 0) (old new : Option ReplicaState) → Told old new P → Told old new NoMore
no_more P old new t = told_weaker P NoMore (λ s after p. tt) old new t

-- what a put has added
pub put_more : (P : ReplicaState → ReplicaState → Type 0) (key value : List ℕ) (result : Result Written CoreError) (old new : Option ReplicaState) → Told old new P → IfOk result (λ written. Told old new (AddsPut key value)) → Told old new (PutAdds key value result)
put_more P key value (Ok written) old new t made = made
put_more P key value (Err error) old new t made = no_more P old new t

-- what a delete has added
pub delete_more : (key : List ℕ) (result : Result Deleted CoreError) (old new : Option ReplicaState) → Told old new (AddsDeleted key result) → Told old new (ShortKeeps key result) → Told old new (DeleteAdds key result)
delete_more key result None new made short = tt
delete_more key result (Some s) None made short = absurd made
delete_more key result (Some s) (Some after) made short = (made, short)

pub delete_stays : (key : List ℕ) (error : CoreError) (s : ReplicaState) → DeleteAdds key (Err error) s s
delete_stays key error s = (adds (kind_of error), keeps (kind_of error))
  where
    none : AddsBlocks [] s s
    none = sym (append-nil (blocks_of s.state.durable))

    adds : (kind : Kind) → ByKind (AddsBlocks [] s s) (AddsSome key s s) (AddsSome key s s) kind
    adds Refusal = none
    adds Fault = inl none
    adds Shortage = inl none

    keeps : (kind : Kind) → ByKind ⊤ ⊤ (value (processed (kept_of s.state.durable)) key ≡ value (processed (kept_of s.state.durable)) key) kind
    keeps Refusal = tt
    keeps Fault = tt
    keeps Shortage = refl

-- what a want of memory in a delete leaves goes on
pub delete_goes : (go : GoLaw) (key : List ℕ) (s new : ReplicaState) → DeleteShort s key new → GoesOn s.state.durable new.state.durable
delete_goes go key s new (inl e) = subst (λ (x : ReplicaState). GoesOn s.state.durable x.state.durable) (sym e) (same_goes s.state.durable)
delete_goes go key s new (inr p) = go _ s new p.4

-- an answer with how many processed blocks it is over
pub seen_err : {A : Type 0} (n : ℕ) (result : Result A CoreError) (P : CoreError → Type 0) → IfErr result P → IfErr (seen_by n result) P
seen_err n (Ok value) P is = tt
seen_err n (Err error) P is = is

pub seen_ok : {A : Type 0} (n : ℕ) (result : Result A CoreError) (P : A → Type 0) → IfOk result P → IfOk (seen_by n result) (λ seen. P seen.answer)
seen_ok n (Ok value) P is = is
seen_ok n (Err error) P is = tt

module _ {K D : Type 0} {g : keeper.Ghosts K D} {h : counted.Ghosts K} {i : counted.Ghosts D} (told : K → Option Kept) (fuse : K → Option Fuse) (own faults : K → ℕ) (quiet : K → Bool) (schedule : K → Option Schedule) where
  -- a message that was not heard leaves what is wanted
  pub hear_leaves : (text : List ℕ) (old new : Replica K D g h i) (result : Result HeardBlocks CoreError) → note_of (Some Heard) None result ≡ None → StillTellsAt told fuse old new → HearWants text result (shown_queue old.queue) (shown_queue new.queue) → RestSame old new
      → LeavesAlone (shown_at told fuse own faults quiet schedule old) (shown_at told fuse own faults quiet schedule new)
  hear_leaves text old new (Ok heard) none tells wants rest = absurd (some_none Heard none)
  hear_leaves text old new (Err error) none tells wants rest = leaves_alone told fuse own faults quiet schedule old new tells wants rest

  -- what is heard is heard between what the logs show last
  pub hear_takes : (text : List ℕ) (limit limit2 : Bounds) (old new : Replica K D g h i) (first log log' : List (Entry K D g h i)) (result : Result HeardBlocks CoreError)
      → IsTied limit (shown_at told fuse own faults quiet schedule old) (items_at told fuse own faults quiet schedule log) → IsTied limit2 (shown_at told fuse own faults quiet schedule new) (items_at told fuse own faults quiet schedule log')
      → log ≡ first → is_open first ≡ true → Begins first log' → HearWants text result (shown_queue old.queue) (shown_queue new.queue)
      → HearWants text result (last (items_at told fuse own faults quiet schedule first)).run.queue (last (items_at told fuse own faults quiet schedule log')).run.queue
  hear_takes text limit limit2 old new first log log' result tied after is unsealed begins wants =
      let begun = tied.moment.run (open_unsealed told fuse own faults quiet schedule first log is unsealed) in
      let ended = after.moment.run (open_unsealed told fuse own faults quiet schedule log' log' refl (begins_on is_unsealed first log' unsealed begins)) in
      subst (λ (l : List (Entry K D g h i)). HearWants text result (last (items_at told fuse own faults quiet schedule l)).run.queue (last (items_at told fuse own faults quiet schedule log')).run.queue) is
      (subst (λ (run : Running). HearWants text result run.queue (last (items_at told fuse own faults quiet schedule log')).run.queue) begun
      (subst (λ (run : Running). HearWants text result (shown_queue old.queue) run.queue) ended wants))

  -- a read that has begun, to its end
  pub read_ends : {A : Type 0} (go : GoLaw) (break : BreakLaw) (back : BackLaw) (Refused : ReplicaState → Option CoreError → Type 0) (P : Kept → A → Type 0) (n : ℕ) (limit : Bounds) (old new : Replica K D g h i) (first log log' : List (Entry K D g h i)) (entry : Option Note)
      (result : Result A CoreError) (seen : Result (Seen A) CoreError) → seen ≡ seen_by n result
      → IsTied limit (shown_at told fuse own faults quiet schedule old) (items_at told fuse own faults quiet schedule log) → log ≡ first → old.stopped ≡ false → IfSome (told old.keeper) IsKept → IfSome (told old.keeper) (λ kept. n ≡ capped (length kept.order))
      → Told (replica_state told fuse old) (replica_state told fuse new) (λ s after. Call (Refused s) (OnlyReads P s) (Stays s) (Rose (own old.keeper) (own new.keeper)) result s after)
      → ContinuesAt told fuse own faults quiet schedule (is_fault result) old new → RestSame old new → front_of result ≡ stop_front old.stopped None → entry ≡ note_of None None result → AddsEntry entry new log log' → TellsSameAt told fuse old new
      → IsTied limit (shown_at told fuse own faults quiet schedule new) (items_at told fuse own faults quiet schedule log')
      × Does None None Refused (OnlyReads (SeenOver P)) Stays NoMore None seen (items_at told fuse own faults quiet schedule first) (items_at told fuse own faults quiet schedule log')
  read_ends go break back Refused P n limit old new first log log' entry result seen is_seen tied is runs sound count call continues rest fronts noted adds same =
      let acts = seen_acts Refused P n result (shown_at told fuse own faults quiet schedule old) (shown_at told fuse own faults quiet schedule new) count
      (acts_of told fuse own faults quiet schedule Refused (OnlyReads P) Stays NoMore result old new call (no_more _ _ _ call) continues rest) in
      let both = does_end go break back None None Refused (OnlyReads (SeenOver P)) Stays stays_goes NoMore None limit (shown_at told fuse own faults quiet schedule old) (shown_at told fuse own faults quiet schedule new)
      (items_at told fuse own faults quiet schedule log) (items_at told fuse own faults quiet schedule log') (seen_by n result) tied runs sound acts
      (λ sealed failed. told_weaker (λ s after. Call (Refused s) (OnlyReads (SeenOver P) s) (Stays s) (Rose (own old.keeper) (own new.keeper)) (seen_by n result) s after) (Step limit true)
      (λ s after call. read_step Refused (SeenOver P) limit (Rose (own old.keeper) (own new.keeper)) (seen_by n result) s after failed call) (replica_state told fuse old) (replica_state told fuse new) acts.call)
      (seen_front Refused P n result old.stopped fronts) tt tt
      (adds_items told fuse own faults quiet schedule (note_of None None (seen_by n result)) new log log log' refl (subst (λ (m : Option Note). AddsEntry m new log log') (noted ∙ seen_note Refused P n result None None) adds))
      (λ none. leaves_same told fuse own faults quiet schedule old new same rest) in (
        both.0,
        subst (λ (r : Result (Seen _) CoreError). Does None None Refused (OnlyReads (SeenOver P)) Stays NoMore None r (items_at told fuse own faults quiet schedule first) (items_at told fuse own faults quiet schedule log')) (sym is_seen)
            (subst (λ (l : List (Entry K D g h i)). Does None None Refused (OnlyReads (SeenOver P)) Stays NoMore None (seen_by n result) (items_at told fuse own faults quiet schedule l) (items_at told fuse own faults quiet schedule log')) is both.1),
      )
