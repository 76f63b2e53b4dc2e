-- What a call of a node does to its log.
use Rattle.std.specs.Prelude.{◌≡◌, ⊤, ◌⊎◌, Bool, true, false, ℕ, List, [], ◌∷◌, ◌++◌, length, Option, Some, None}
use Rattle.std.specs.Prelude.{Result, Ok, Err}
use Rattle.mc_base.specs.Causes.{Rose}
use Rattle.mc_base.specs.Told.{Told}
use Rattle.mc_model.specs.Events.{Event}
use Rattle.mc_model.specs.Kept.{Kept}
use Rattle.mc_keep.specs.Causes.{Kind, Refusal, Fault, Shortage}
use Rattle.mc_core.specs.declared.CoreError.{CoreError}
use Rattle.mc_core.specs.declared.CoreError.TheVariants.{Stopped, Memory}
use Rattle.mc_core.specs.declared.Deleted.{Deleted}
use Rattle.mc_core.specs.declared.Heard.{Heard}
use Rattle.mc_core.specs.declared.Written.{Written}
use Rattle.mc_core.specs.Calls.{Call, Stays}
use Rattle.mc_core.specs.Deletes.{AddsDeleted, DeleteEvents, DeleteRefusal, DeleteShort, ShortKeeps}
use Rattle.mc_core.specs.Puts.{AddsPut, PutEvents, put_refusal}
use Rattle.mc_core.specs.Reads.{OnlyReads, read_refusal}
use Rattle.mc_core.specs.Counted.{capped}
use Rattle.mc_core.specs.Events.{ReplicaState}
use Rattle.mc_core.specs.Exact.{front_of, put_front, stop_front}
use Rattle.mc_core.specs.Hears.{HearEvents, HearWants, cast_refusal, hear_refusal, unless_short}
use Rattle.mc_core.specs.Refusals.{ByKind, Is, is_fault, key_refusal, kind_of}
use Rattle.mc_node.specs.declared.node.Seen.{Seen}
use Rattle.mc_node.specs.declared.note.Note.{Note}
use Rattle.mc_node.specs.declared.note.Note.TheVariants.{Halted, Made}
use Rattle.mc_node.specs.declared.note.Note.TheVariants as note
use Rattle.mc_node.specs.Items.{Item, Shown, has_halted, last, root, state_in}
use Rattle.mc_node.specs.Ties.{Goes, IsGrowing, IsMoment}

-- the log after an entry of this kind about what is shown now
abbrev pub with_entry : List Item → Note → Shown → List Item
with_entry log note now = log ++ record { note = note; shown = now } ∷ []

-- the log has that entry more, or it is the same
abbrev pub Adds : Option Note → Shown → List Item → List Item → Type 0
Adds None now old new = new ≡ old
Adds (Some note) now old new = new ≡ with_entry old note now

-- What an answer leaves in the log: an Ok this entry, a fault of the keeper that of a halt, and a refusal none. A
-- want of memory leaves none, or this one.
abbrev pub Notes : {T : Type 0} → Option Note → Option Note → Result T CoreError → Shown → List Item → List Item
    → Type 0
Notes ok short (Ok value) now old new = Adds ok now old new
Notes ok short (Err error) now old new =
    ByKind (Adds None now old new) (Adds (Some Halted) now old new)
    (Adds None now old new ⊎ Adds short now old new) (kind_of error)

-- the entry that is noted for an answer
abbrev pub note_by : Kind → Option Note → Option Note
note_by Refusal short = None
note_by Fault short = Some Halted
note_by Shortage short = short

abbrev pub note_of : {T : Type 0} → Option Note → Option Note → Result T CoreError → Option Note
note_of ok short (Ok value) = ok
note_of ok short (Err error) = note_by (kind_of error) short

-- what was processed and what is lost at a stop, apart from what is wanted, over a call
pub record KeepsRun (before after : Shown) : Type 0 where
  pub batch : after.run.batch ≡ before.run.batch
  pub walk : after.run.walk ≡ before.run.walk
  pub whole : after.run.whole ≡ before.run.whole

-- nothing more is said
abbrev pub NoMore : ReplicaState → ReplicaState → Type 0
NoMore s new = ⊤

-- A call of the replica between two moments: what it does, as the replica says it; the frame; and what is left.
pub record Acts {T : Type 0} (Refused : ReplicaState → Option CoreError → Type 0) (Plan : ReplicaState
    → List Event → T → Type 0)
    (Short More : ReplicaState → ReplicaState → Type 0) (result : Result T CoreError)
    (before after : Shown) : Type 0 where
  pub call : Told (state_in before) (state_in after) (λ s new. Call (Refused s) (Plan s) (Short s)
      (Rose before.own after.own) result s new)
  pub more : Told (state_in before) (state_in after) More
  pub goes : Goes (is_fault result) before after
  pub keeps : KeepsRun before after

-- A call of a node, with the log that it took and the one that it gave back: it is a call of the replica between a
-- moment of the one and a moment of the other, no call of the keeper has failed from the root to the first moment,
-- unless the replica has stopped, and the log has got what the answer says.
pub record Does {T : Type 0} (ok short : Option Note) (Refused : ReplicaState → Option CoreError → Type 0)
    (Plan : ReplicaState → List Event → T → Type 0) (Short More : ReplicaState → ReplicaState
    → Type 0) (front : Option CoreError)
    (result : Result T CoreError) (old new : List Item) : Type 0 where
  pub before : Shown
  pub after : Shown
  pub was : IsMoment old before
  pub is : IsMoment new after
  pub since : has_halted old ≡ false → Goes false (root old) before
  pub acts : Acts Refused Plan Short More result before after
  pub notes : Notes ok short result after old new
  -- the refusals that the replica decides alone, over every keeper; that of a stopped one exactly where the log says so
  pub fronts : front_of result ≡ stop_front (has_halted old) (unless_short result front)
  -- what was processed earlier comes first
  pub grows : IsGrowing old

-- the answer of a read, with how many processed blocks it is over
abbrev pub seen_by : {A : Type 0} → ℕ → Result A CoreError → Result (Seen A) CoreError
seen_by length (Ok answer) = Ok (record { answer = answer; length = length })
seen_by length (Err error) = Err error

-- what a read answers: this over what is kept, and over how many processed blocks that is, at most `u64::MAX`
abbrev pub SeenOver : {A : Type 0} → (Kept → A → Type 0) → Kept → Seen A → Type 0
SeenOver P kept seen = P kept seen.answer × (seen.length ≡ capped (length kept.order))

-- a put that made a block has added it
abbrev pub PutAdds : List ℕ → List ℕ → Result Written CoreError → ReplicaState → ReplicaState → Type 0
PutAdds key value (Ok written) s new = AddsPut key value s new
PutAdds key value (Err error) s new = ⊤

abbrev pub PutDoes : List ℕ → List ℕ → Result Written CoreError → List Item → List Item → Type 0
PutDoes key value result =
    Does (Some Made) None (λ s. Is (put_refusal s key value)) (λ s. PutEvents s key value) Stays
    (PutAdds key value result) (put_front key value) result

-- a delete has added its blocks, or some of them; a want of memory leaves the value of the key
abbrev pub DeleteAdds : List ℕ → Result Deleted CoreError → ReplicaState → ReplicaState → Type 0
DeleteAdds key result s new = AddsDeleted key result s new × ShortKeeps key result s new

abbrev pub DeleteDoes : List ℕ → Result Deleted CoreError → List Item → List Item → Type 0
DeleteDoes key result =
    Does (Some Made) (Some Made) (λ s. DeleteRefusal s key) (λ s. DeleteEvents s key) (λ s. DeleteShort s key)
    (DeleteAdds key result) (key_refusal key) result

-- a hearing, and over every keeper it takes some of the blocks that the message names
pub record HearDoes (message : List ℕ) (result : Result Heard CoreError) (old new : List Item) : Type 0 where
  pub does : Does (Some note.Heard) None (λ s. Is (hear_refusal s message)) (λ s. HearEvents s message) Stays NoMore
      (cast_refusal message) result old new
  pub wants : HearWants message result (last old).run.queue (last new).run.queue

-- a read over what is kept
abbrev pub ReadDoes : {A : Type 0} → (Kept → A → Type 0) → Result (Seen A) CoreError → List Item → List Item → Type 0
ReadDoes P result = Does None None (λ s. Is (read_refusal s)) (OnlyReads (SeenOver P)) Stays NoMore None result

-- why a call does not begin: the replica has stopped, or it runs and there is no memory for an entry
abbrev pub BeginsNot : Bool → CoreError → Type 0
BeginsNot true error = error ≡ Stopped
BeginsNot false error = error ≡ Memory
