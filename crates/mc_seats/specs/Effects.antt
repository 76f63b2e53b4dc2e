-- What a command does at one replica: when it is refused, which events it makes, and what is exact over every keeper.
use Rattle.std.specs.Prelude.{◌≡◌, ◌≢◌, ◌⊎◌, ℕ, true, List, [], Option, Some, None, Result, Ok, Err, IfErr, IfSome}
use Rattle.mc_base.specs.Told.{Told}
use Rattle.mc_base.specs.declared.cid.Cid.{Cid}
use Rattle.mc_key.specs.KeyRule.{fault_number}
use Rattle.mc_model.specs.Draining.{queue_in}
use Rattle.mc_model.specs.Events.{Event}
use Rattle.mc_model.specs.State.{OpenBatch, Running}
use Rattle.mc_model.specs.Wanted.{Queue, hear_all}
use Rattle.mc_core.specs.declared.CoreError.{CoreError}
use Rattle.mc_core.specs.declared.CoreError.TheVariants as core
use Rattle.mc_core.specs.Calls.{Stays}
use Rattle.mc_core.specs.Events.{ReplicaState, Goes}
use Rattle.mc_core.specs.Exact.{DecidesAlone, seen_of, stop_front}
use Rattle.mc_core.specs.Hears.{HearEvents, IsQueued, NamesSome, cast_refusal, hear_refusal}
use Rattle.mc_core.specs.Jobs.{NextShort}
use Rattle.mc_core.specs.Reads.{read_refusal}
use Rattle.mc_files.specs.Files.{ImportEvents, ImportSays, ImportShort}
use Rattle.mc_files.specs.declared.taking.Imported.{Imported}
use Rattle.mc_core.specs.Refusals.{ByKind, Is, kind_of}
use Rattle.mc_storm.specs.Storms.{StormLeads, StormPauses}
use Rattle.mc_storm.specs.declared.outcome.Stormed.{Stormed}
use Rattle.mc_script.specs.declared.command.Command.{Command}
use Rattle.mc_script.specs.declared.reply.Reply.{Reply}
use Rattle.mc_script.specs.declared.reply.Reply.TheVariants.{Imported as ImportedOf, Queued, RefusedCar}
use Rattle.mc_script.specs.declared.reply.Reply.TheVariants.{Idle, Processed, Missing, Bad, Stopped, FaultKeeper}
use Rattle.mc_script.specs.declared.reply.Reply.TheVariants.{RefusedKey, RefusedValue, RefusedSize, RefusedPriority}
use Rattle.mc_script.specs.declared.reply.Reply.TheVariants.{RefusedClash, RefusedBatch, RefusedCast}
use Rattle.mc_seats.specs.declared.error.ActError.{ActError}
use Rattle.mc_seats.specs.declared.error.ActError.TheVariants.{Memory}
use Rattle.mc_seats.specs.Asks.{car_at, message_at}
use Rattle.mc_seats.specs.Calling.{Batches, Blocks, Calling, Nothing, Reach, outcome_of}
use Rattle.mc_seats.specs.Calls.{runs_by}
use Rattle.mc_seats.specs.Doing.{At, Calls, Casts, Doing, Exports, Hears, Imports, Repairs, Steps, Storms, Tends}
use Rattle.mc_seats.specs.Doing.{Works, doing}
use Rattle.mc_seats.specs.Fetching.{StepEvents}
use Rattle.mc_seats.specs.Storming.{stormed_reply}
use Rattle.mc_seats.specs.Tending.{rule_reply}
use Rattle.mc_seats.specs.Works.{RepairDone, WorkDone, budget_of}
use Rattle.mc_seats.specs.Worlds.{Place, WorldState, is_down, peers_of, state_at}
pub use Rattle.mc_seats.specs.Calling.{AddsPut, Answers, IsForm, SameBatch, batch_priority}
pub use Rattle.mc_seats.specs.Tending.{HasNumbers, IsState, Opens, OpensAs, TellsSame, armed, open_reply, stop_reply}

-- what is answered where a call of a replica did nothing, or not all
abbrev pub answer_of : CoreError → Result Reply ActError
answer_of (core.BadKey fault) = Ok (RefusedKey (fault_number fault))
answer_of core.ValueTooLong = Ok RefusedValue
answer_of (core.BlockTooLarge len) = Ok (RefusedSize len)
answer_of core.PriorityFull = Ok RefusedPriority
answer_of (core.Clash cid) = Ok (RefusedClash cid)
answer_of core.KeeperFault = Ok FaultKeeper
answer_of core.Stopped = Ok Stopped
answer_of (core.BadCast fault) = Ok RefusedCast
answer_of core.NoBatch = Ok RefusedBatch
answer_of core.BatchOpen = Ok RefusedBatch
answer_of core.Memory = Err Memory

-- whether a call answers this where it is refused: a fault of the keeper, and want of memory, are no refusals
abbrev pub IsReply : CoreError → Reply → Type 0
IsReply error reply = ByKind (answer_of error ≡ Ok reply) ⊥ ⊥ (kind_of error)

-- the refusal of a command that a replica with this batch decides without a look at its keeper
abbrev pub front_by : WorldState → Option OpenBatch → Doing → Option CoreError
front_by w batch (At r (Calls call)) = call.front batch
front_by w batch (At r (Hears message)) = cast_refusal (message_at w.around.bag message)
front_by w batch d = None

abbrev pub call_front : WorldState → Option OpenBatch → Command → Option CoreError
call_front w batch command = front_by w batch (doing command)

-- which refusal of the replica is due: the other commands are refused only where it doesn't run
abbrev pub due_by : WorldState → ReplicaState → Doing → Option CoreError → Type 0
due_by w s (At r (Calls call)) = call.Due s
due_by w s (At r (Hears message)) = Is (hear_refusal s (message_at w.around.bag message))
due_by w s d = Is (read_refusal s)

abbrev pub CallRefusal : WorldState → ReplicaState → Command → Option CoreError → Type 0
CallRefusal w s command = due_by w s (doing command)

-- what a want of memory leaves: the replica as it was; of a delete, some first blocks may be made; the block of a step
-- may have come to the back of those that wait; of an import, the blocks of a file may be stored, and no root heard;
-- and of a storm, some first calls of each writer may be made
abbrev pub leaves_by : Doing → ReplicaState → ReplicaState → Type 0
leaves_by (At r (Calls call)) s left = call.Short s left
leaves_by (At r Steps) s left = Stays s left ⊎ NextShort s left
leaves_by (At r (Imports car)) s left = (text : List ℕ) × ImportShort s text left
leaves_by (At r (Storms writers writes)) s left = Stays s left ⊎ StormPauses writers writes s left
leaves_by d s left = Stays s left

abbrev pub Leaves : Command → ReplicaState → ReplicaState → Type 0
Leaves command s left = leaves_by (doing command) s left

-- what is answered for an import
abbrev pub import_reply : Result Imported ℕ → Reply
import_reply (Ok imported) = ImportedOf imported.stored imported.queued
import_reply (Err number) = RefusedCar number

-- the events of a command that is not refused, and its reply
abbrev pub events_by : WorldState → ReplicaState → Doing → List Event → Reply → Type 0
events_by w s (At r (Calls call)) = outcome_of call.outcome s
events_by w s (At r (Hears message)) =
    Answers (HearEvents s (message_at w.around.bag message)) (λ heard reply. reply ≡ Queued heard.queued)
events_by w s (At r (Imports car)) =
    Answers (ImportEvents s (car_at w.around.bag car)) (λ said reply. reply ≡ import_reply said)
events_by w s (At r Steps) = StepEvents (peers_of w r) s
events_by w s d = λ events reply. events ≡ []

abbrev pub EventsOf : WorldState → ReplicaState → Command → List Event → Reply → Type 0
EventsOf w s command = events_by w s (doing command)

-- the batch of a replica that runs
abbrev pub batch_in : Option Running → Option OpenBatch
batch_in None = None
batch_in (Some run) = run.batch

-- a replica runs on, with the same walk and the same whole, and B ties its batches
abbrev pub RunOn : (Option OpenBatch → Option OpenBatch → Type 0) → Option Running → Option Running → Type 0
RunOn B (Some old) (Some new) = (new.walk ≡ old.walk) × (new.whole ≡ old.whole) × B old.batch new.batch
RunOn B old new = ⊥

-- What every command leaves of a replica that runs on, over every keeper: where the keeper told nothing it tells
-- nothing, and what is planted is the same.
pub record RunsOn (B : Option OpenBatch → Option OpenBatch → Type 0) (p q : Place) : Type 0 where
  pub run_on : RunOn B p.run q.run
  pub silent : p.content ≡ None → q.content ≡ None
  pub planted_same : q.planted ≡ p.planted

-- A storm has made all its writes, and this is answered for it: over every keeper the replica runs on, with the same
-- batch, and where the content is told the calls are an interleaving of those of all writers.
pub record StormDone (writers writes : ℕ) (p q : Place) (reply : Reply) : Type 0 where
  pub value : Stormed
  pub says : reply ≡ stormed_reply value
  pub runs : RunsOn SameBatch p q
  pub told : Told (state_at p) (state_at q) (StormLeads writers writes (Ok value) ⊥)

-- some of the blocks that a message names are heard, and those that came to waiting are counted
pub record HearsNamed (text : List ℕ) (old new : Queue) (reply : Reply) : Type 0 where
  pub count : ℕ
  pub cids : List Cid
  pub some : NamesSome text cids
  pub says : reply ≡ Queued count
  pub wants : new ≡ hear_all [] old cids
  pub queued : IsQueued old new count

abbrev pub HearsSome : List ℕ → Option Running → Option Running → Reply → Type 0
HearsSome text (Some old) (Some new) reply = HearsNamed text old.queue new.queue reply
HearsSome text old new reply = ⊥

-- What an import leaves of a replica that runs on: a file that is refused changes nothing, and of another some of its
-- roots are heard, and those that came to waiting are counted.
abbrev pub ImportsRun : List ℕ → Result Imported ℕ → Option Running → Option Running → Type 0
ImportsRun text said (Some old) (Some new) = ImportSays text (Ok said) old.queue new.queue
ImportsRun text said old new = ⊥

pub record ImportsSome (text : List ℕ) (p q : Place) (reply : Reply) : Type 0 where
  pub said : Result Imported ℕ
  pub says : reply ≡ import_reply said
  pub runs : ImportsRun text said p.run q.run
  pub refused : IfErr said (λ number. q ≡ p)

-- a step answers `idle` exactly where no block waits, and else `processed`, `missing` or `bad`
abbrev pub IsIdle : Option Running → Reply → Type 0
IsIdle run Idle = (queue_in run).waiting ≡ []
IsIdle run Processed = (queue_in run).waiting ≢ []
IsIdle run Missing = (queue_in run).waiting ≢ []
IsIdle run (Bad damage) = (queue_in run).waiting ≢ []
IsIdle run reply = ⊥

-- what a call that did all leaves of its place, by what may have changed
abbrev pub CallsAt : Reach → Calling → Place → Place → Reply → Type 0
CallsAt Nothing call p q reply = (q ≡ p) × IsForm call.Fits call.says reply
CallsAt (Batches B) call p q reply = RunsOn B p q × TellsSame p q × IsForm call.Fits call.says reply
CallsAt (Blocks B) call p q reply = RunsOn B p q × IsForm call.Fits call.says reply

-- what is exact over every keeper of a command that has its events at a replica
abbrev pub exact_by : WorldState → Doing → Place → Place → Reply → Type 0
exact_by w (At r (Calls call)) p q reply = CallsAt call.reach call p q reply
exact_by w (At r (Hears message)) p q reply =
    RunsOn SameBatch p q × TellsSame p q × HearsSome (message_at w.around.bag message) p.run q.run reply
exact_by w (At r (Imports car)) p q reply =
    RunsOn SameBatch p q × ImportsSome (car_at w.around.bag car) p q reply
exact_by w (At r Steps) p q reply = RunsOn SameBatch p q × IsIdle p.run reply
exact_by w d p q reply = ⊥

abbrev pub Exact : WorldState → Command → Place → Place → Reply → Type 0
Exact w command p q reply = exact_by w (doing command) p q reply

-- its events have happened, where the content is told
abbrev pub happens_by : WorldState → Doing → Place → Place → Reply → Type 0
happens_by w d p q reply =
    Told (state_at p) (state_at q) (λ s new. (events : List Event) × events_by w s d events reply × Goes events s new)

abbrev pub Happens : WorldState → Command → Place → Place → Reply → Type 0
Happens w command p q reply = happens_by w (doing command) p q reply

-- What a command that is not refused makes of the replica that it works on, and what it answers by that. The others
-- change no replica.
abbrev pub done_by : WorldState → Doing → Place → Place → Reply → Type 0
done_by w (At r (Tends tending)) p q reply = tending.Does p q reply
done_by w (At r Casts) p q reply = q ≡ p
done_by w (At r Exports) p q reply = q ≡ p
done_by w (At r (Works budget)) p q reply = WorkDone (peers_of w r) (budget_of budget) p q reply
done_by w (At r Repairs) p q reply = RepairDone (peers_of w r) p q reply
done_by w (At r (Storms writers writes)) p q reply = StormDone writers writes p q reply
done_by w d p q reply = exact_by w d p q reply × happens_by w d p q reply

abbrev pub DoneAt : WorldState → Command → Place → Place → Reply → Type 0
DoneAt w command p q reply = done_by w (doing command) p q reply

-- the refusal that a replica decides without a look at its keeper
abbrev pub seen_by : WorldState → Place → Doing → Option CoreError
seen_by w p d = stop_front (is_down p.run) (front_by w (batch_in p.run) d)

abbrev pub front_at : WorldState → Place → Command → Option CoreError
front_at w p command = seen_by w p (doing command)

-- over every keeper only a command that makes blocks is refused for one of them
abbrev pub MayRefuse : Doing → CoreError → Type 0
MayRefuse d error = runs_by d ≡ true → DecidesAlone error

-- the refusal of a call, by its reply: one that needs no look at the keeper is exact over every keeper, this one or
-- none, and any is where the content is told
abbrev pub call_refused : WorldState → Place → Doing → Option Reply → Type 0
call_refused w p d None = (seen_by w p d ≡ None) × IfSome (state_at p) (λ s. due_by w s d None)
call_refused w p d (Some reply) = (error : CoreError) × (seen_of error ≡ seen_by w p d)
    × IfSome (state_at p) (λ s. due_by w s d (Some error)) × IsReply error reply × MayRefuse d error

abbrev pub CallRefused : WorldState → Place → Command → Option Reply → Type 0
CallRefused w p command due = call_refused w p (doing command) due

-- which refusal of a command is due at the replica that it works on: this one, or none
abbrev pub refused_by : WorldState → Place → Doing → Option Reply → Type 0
refused_by w p (At r (Tends tending)) due = due ≡ rule_reply tending.rule p.run
refused_by w p d due = call_refused w p d due

abbrev pub RefusedAt : WorldState → Place → Command → Option Reply → Type 0
RefusedAt w p command due = refused_by w p (doing command) due

-- the keeper of the replica is asked: none of the refusals is due that need no look at it
abbrev pub asks_by : WorldState → Doing → Place → Type 0
asks_by w (At r (Tends tending)) p = rule_reply tending.rule p.run ≡ None
asks_by w d p = seen_by w p d ≡ None

abbrev pub AsksAt : WorldState → Command → Place → Type 0
AsksAt w command p = asks_by w (doing command) p
