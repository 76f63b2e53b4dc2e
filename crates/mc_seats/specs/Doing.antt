-- What each command is to a world: one row for each.
use Rattle.std.specs.Prelude.{◌≡◌, ⊤, ℕ, Bool, true, false, List, map, Option, Some, None, is_some}
use Rattle.mc_key.specs.Prefix.{is_under}
use Rattle.mc_model.specs.Answers as answers
use Rattle.mc_model.specs.Answers.{has_value}
use Rattle.mc_model.specs.Batch.{empty_batch}
use Rattle.mc_model.specs.Front.{heads}
use Rattle.mc_model.specs.Live.{value}
use Rattle.mc_core.specs.Batches.{begin_refusal, BeginEvents, batch_put_refusal, BatchPutEvents}
use Rattle.mc_core.specs.Batches.{batch_delete_refusal, BatchDeleteEvents, commit_refusal, CommitEvents}
use Rattle.mc_core.specs.Calls.{Stays}
use Rattle.mc_core.specs.Deletes.{DeleteRefusal, DeleteEvents, DeleteShort}
use Rattle.mc_core.specs.Exact.{put_front}
use Rattle.mc_core.specs.Puts.{put_refusal, PutEvents}
use Rattle.mc_core.specs.Refusals.{Is, key_refusal, no_batch_refusal, open_batch_refusal}
use Rattle.mc_feed.specs.declared.event.Event.{Event}
use Rattle.mc_past.specs.Past.{IsFoundBelow, changes_between}
use Rattle.mc_script.specs.declared.command.Command.{Command}
use Rattle.mc_script.specs.declared.reply.Reply.{Reply}
use Rattle.mc_script.specs.declared.command.Command.TheVariants.{Put, Del, Begin, BatchPut, BatchDel, Commit}
use Rattle.mc_script.specs.declared.command.Command.TheVariants.{Get, Has as HasKey, Query, Heads as HeadsOf}
use Rattle.mc_script.specs.declared.command.Command.TheVariants.{Cast, Wire, Hear, Plant, Link, Step, Work, Repair}
use Rattle.mc_script.specs.declared.command.Command.TheVariants.{Storm, State, Same, Stop, Open, StopAt, StopAfter}
use Rattle.mc_script.specs.declared.command.Command.TheVariants.{Export, CarIn, Import, Feed, GetAt}
use Rattle.mc_script.specs.declared.reply.Reply.TheVariants.{Done, Priority, Deleted, Value, Has, Rows, Heads}
use Rattle.mc_script.specs.declared.reply.Reply.TheVariants.{Events, RefusedView}
use Rattle.mc_seats.specs.Calling.{AddsPut, Answers, AreRows, Calling, SameBatch, batch_priority, batches, looks}
use Rattle.mc_seats.specs.Calling.{reads, writes}
use Rattle.mc_seats.specs.Tending.{Tending, counts, fuses, opens, plants, stops}

-- what is done at one replica: a call of it, what the world does at its place, a message that is made or heard, a file
-- that is made or taken in, a job, a work over some workers and a budget, a repair, or a storm of some writers
pub data Act : Type 1 where
  Calls : Calling → Act
  Tends : Tending → Act
  Casts : Act
  Hears : ℕ → Act
  Exports : Act
  Imports : ℕ → Act
  Steps : Act
  Works : Option ℕ → Act
  Repairs : Act
  Storms : ℕ → ℕ → Act

-- what is done in a world: at one replica, a message sent, a file given, a link set, or two replicas compared
pub data Doing : Type 1 where
  At : ℕ → Act → Doing
  Sends : List ℕ → Doing
  Loads : List ℕ → Doing
  Links : ℕ → ℕ → Bool → Doing
  Compares : ℕ → ℕ → Doing

-- a change of a value as it is answered
abbrev pub change_of : Event → ℕ × List ℕ × Option (List ℕ)
change_of event = (event.position, event.key, event.value)

-- what is answered for a value below a block, and where the block isn't processed
abbrev pub below_reply : Option (Option (List ℕ)) → Reply
below_reply None = RefusedView
below_reply (Some value) = Value value

abbrev pub doing : Command → Doing
doing (Put r key bytes) = At r (Calls (writes (λ batch. put_front key bytes) (λ s. Is (put_refusal s key bytes))
    (λ s. Answers (PutEvents s key bytes) (λ written reply. reply ≡ Priority written.priority))
    Stays SameBatch (λ n. Priority n)))
doing (Del r key) = At r (Calls (writes (λ batch. key_refusal key) (λ s. DeleteRefusal s key)
    (λ s. Answers (DeleteEvents s key) (λ deleted reply. reply ≡ Deleted deleted.blocks))
    (λ s. DeleteShort s key) SameBatch (λ n. Deleted n)))
doing (Begin r) = At r (Calls (batches open_batch_refusal begin_refusal
    (λ s. Answers (BeginEvents {T = ⊤}) (λ done reply. reply ≡ Done))
    (λ old new. new ≡ Some empty_batch) false))
doing (BatchPut r key bytes) = At r (Calls (batches (λ batch. no_batch_refusal batch (λ held. put_front key bytes))
    (λ s. batch_put_refusal s key bytes)
    (λ s. Answers (BatchPutEvents {T = ⊤} s key bytes) (λ done reply. reply ≡ Done))
    (AddsPut key bytes) false))
doing (BatchDel r key) = At r (Calls (batches (λ batch. no_batch_refusal batch (λ held. key_refusal key))
    (λ s. batch_delete_refusal s key)
    (λ s. Answers (BatchDeleteEvents {T = ⊤} s key) (λ done reply. reply ≡ Done))
    (λ old new. is_some new ≡ is_some old) true))
doing (Commit r) = At r (Calls (writes (λ batch. no_batch_refusal batch (λ held. None)) (λ s. Is (commit_refusal s))
    (λ s. Answers (CommitEvents s) (λ written reply. reply ≡ Priority (batch_priority written)))
    Stays (λ old new. new ≡ None) (λ n. Priority n)))
doing (Get r key) = At r (Calls (reads (λ blocks. value blocks key) (λ found. ⊤) (λ found. Value found)))
doing (HasKey r key) = At r (Calls (reads (λ blocks. has_value blocks key) (λ yes. ⊤) (λ yes. Has yes)))
doing (Query r prefix skip take) =
    At r (Calls (reads (λ blocks. answers.query blocks (is_under prefix) skip take) (AreRows prefix take)
    (λ rows. Rows rows)))
doing (HeadsOf r) = At r (Calls (reads heads (λ rows. ⊤) (λ rows. Heads rows)))
doing (Cast r) = At r Casts
doing (Wire bytes) = Sends bytes
doing (Hear r message) = At r (Hears message)
doing (Export r) = At r Exports
doing (CarIn bytes) = Loads bytes
doing (Import r car) = At r (Imports car)
doing (Feed r from count) = At r (Calls (looks (λ blocks found. found ≡ changes_between from count blocks)
    (λ found. Events (map change_of found))))
doing (GetAt r cid key) = At r (Calls (looks (IsFoundBelow cid key) below_reply))
doing (Plant r cid bytes) = At r (Tends (plants cid bytes))
doing (Link r other up) = Links r other up
doing (Step r) = At r Steps
doing (Work r workers budget) = At r (Works budget)
doing (Repair r workers) = At r Repairs
doing (Storm r writers writes) = At r (Storms writers writes)
doing (State r) = At r (Tends counts)
doing (Same r other) = Compares r other
doing (Stop r) = At r (Tends stops)
doing (Open r) = At r (Tends opens)
doing (StopAt r commit) = At r (Tends (fuses commit false))
doing (StopAfter r commit) = At r (Tends (fuses commit true))
