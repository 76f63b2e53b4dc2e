-- What a command may do to a world, and what is answered: one relation for all commands.
use Rattle.std.specs.Prelude.{◌≡◌, ◌≢◌, ◌<◌, ◌⊎◌, ◌↔◌, ⊤, ℕ, ◌+◌, Bool, true, false, List, [], ◌∷◌, ◌++◌, filter, not}
use Rattle.std.specs.Prelude.{if◌then◌else◌, length, Option, Some, None, Result, Ok, Err, IfSome, slice_get}
use Rattle.std.specs.List.{list_any}
use Rattle.std.specs.Option.{option_and_then, option_or}
use Rattle.mc_base.specs.Told.{Told}
use Rattle.mc_base.specs.declared.cid.Cid.{Cid}
use Rattle.mc_keep.specs.Causes.{has_fired}
use Rattle.mc_model.specs.Graph.{has}
use Rattle.mc_model.specs.Kept.{bytes_at}
use Rattle.mc_model.specs.State.{Running, kept_of}
use Rattle.mc_core.specs.Calls.{Faults}
use Rattle.mc_core.specs.Events.{ReplicaState}
use Rattle.mc_core.specs.Hears.{written_cast}
use Rattle.mc_core.specs.Jobs.{first_waiting, tried_first}
use Rattle.mc_drain.specs.Repairs.{RepairLeads}
use Rattle.mc_drain.specs.Works.{WorkLeads}
use Rattle.mc_drain.specs.declared.working.WorkError.TheVariants as broke
use Rattle.mc_files.specs.Files.{IsExport}
use Rattle.mc_storm.specs.Storms.{StormLeads}
use Rattle.mc_storm.specs.declared.outcome.StormError.TheVariants as storm
use Rattle.mc_script.specs.declared.command.Command.{Command}
use Rattle.mc_script.specs.declared.reply.Reply.{Reply}
use Rattle.mc_script.specs.declared.reply.Reply.TheVariants.{Car, Done, Message, Same, RefusedRoots}
use Rattle.mc_script.specs.declared.reply.Reply.TheVariants.{FaultKeeper, FaultPeer}
use Rattle.mc_seats.specs.declared.entry.LineEntry.{LineEntry}
use Rattle.mc_seats.specs.declared.links.Link.{Link}
use Rattle.mc_seats.specs.Asks.{focus, is_named, is_there, may_fail}
use Rattle.mc_seats.specs.Doing.{At, Casts, Compares, Doing, Exports, Links, Loads, Repairs, Sends, Steps}
use Rattle.mc_seats.specs.Doing.{Storms, Works, doing}
use Rattle.mc_seats.specs.Effects.{DoneAt, RunOn, SameBatch, asks_by, events_by, leaves_by, refused_by, stop_reply}
use Rattle.mc_seats.specs.Works.{RepairsTo, WorksTo, budget_of, finds_of, repair_budget}
use Rattle.mc_seats.specs.Worlds.{Around, AtPlace, IfRuns, Moved, MovedAt, Place, WorldState, is_marked, joins}
use Rattle.mc_seats.specs.Worlds.{peer_row, peers_of, state_at}

-- `fault keeper` or `fault peer`
abbrev pub is_fault : Reply → Bool
is_fault FaultKeeper = true
is_fault FaultPeer = true
is_fault reply = false

-- whether this is the answer
abbrev pub answers_fault : {E : Type 0} → Result Reply E → Bool
answers_fault (Ok reply) = is_fault reply
answers_fault (Err error) = false

-- the refusal of a command at two replicas: one that doesn't run
abbrev pub either_reply : Option Place → Option Place → Option Reply
either_reply None other = None
either_reply (Some p) None = None
either_reply (Some p) (Some q) = option_or (stop_reply p.run) (stop_reply q.run)

-- which refusal of a command is due in a world: this one, or none
abbrev pub refuses_by : WorldState → Doing → Option Reply → Type 0
refuses_by w (At r act) due = AtPlace w r (λ p. refused_by w p (At r act) due)
refuses_by w (Compares r other) due = due ≡ either_reply (slice_get w.places r) (slice_get w.places other)
refuses_by w d due = due ≡ None

abbrev pub Refuses : WorldState → Command → Option Reply → Type 0
Refuses w command due = refuses_by w (doing command) due

-- the keepers that may fail in a command are asked
abbrev pub asked_by : WorldState → Doing → Type 0
asked_by w (At r act) = AtPlace w r (asks_by w (At r act))
asked_by w (Compares r other) = either_reply (slice_get w.places r) (slice_get w.places other) ≡ None
asked_by w d = ⊥

abbrev pub Asks : WorldState → Command → Type 0
Asks w command = asked_by w (doing command)

-- the links that are down, once that of two replicas is set
abbrev pub with_link : List Link → ℕ → ℕ → Bool → List Link
with_link down r other true = filter (λ link. not (joins r other link)) down
with_link down r other false =
    if list_any (joins r other) down then down else down ++ record { first = r; second = other } ∷ []

-- one message more, and its number
pub record IsSent (P : List ℕ → Type 0) (old : Around) (reply : Reply) (new : Around) : Type 0 where
  pub text : List ℕ
  pub is_text : P text
  pub numbered : reply ≡ Message (length old.bag.messages + 1)
  pub sent : new ≡ record old { bag = record old.bag { messages = old.bag.messages ++ text ∷ [] } }

-- one file more, its number and its length
pub record IsFiled (P : List ℕ → Type 0) (old : Around) (reply : Reply) (new : Around) : Type 0 where
  pub text : List ℕ
  pub is_text : P text
  pub numbered : reply ≡ Car (length old.bag.cars + 1) (length text)
  pub filed : new ≡ record old { bag = record old.bag { cars = old.bag.cars ++ text ∷ [] } }

-- or none, since the heads are more than a file may have as its roots
pub record HasManyRoots (P : ℕ → Type 0) (old : Around) (reply : Reply) (new : Around) : Type 0 where
  pub number : ℕ
  pub is_number : P number
  pub many : 255 < number
  pub says : reply ≡ RefusedRoots number
  pub same : new ≡ old

-- what a replica exports, where its content is told
abbrev pub ExportsAt : WorldState → ℕ → Result (List ℕ) ℕ → Type 0
ExportsAt w r said = AtPlace w r (λ p. IfSome (state_at p) (λ s. IsExport (kept_of s.state.durable) said))

-- what is around after a command that was not refused, and what it answers by that
abbrev pub sets_by : WorldState → Doing → Reply → Around → Type 0
sets_by w (At r Casts) reply around =
    IsSent (λ text. AtPlace w r (λ p. IfSome (state_at p) (λ s. text ≡ written_cast (kept_of s.state.durable)))) w.around
    reply around
sets_by w (At r Exports) reply around =
    IsFiled (λ text. ExportsAt w r (Ok text)) w.around reply around
    ⊎ HasManyRoots (λ number. ExportsAt w r (Err number)) w.around reply around
sets_by w (Loads bytes) reply around = IsFiled (λ text. text ≡ bytes) w.around reply around
sets_by w (Sends bytes) reply around = IsSent (λ text. text ≡ bytes) w.around reply around
sets_by w (Links r other up) reply around =
    (reply ≡ Done) × (around ≡ record w.around { down = with_link w.around.down r other up })
sets_by w d reply around = around ≡ w.around

abbrev pub Sets : WorldState → Command → Reply → Around → Type 0
Sets w command reply around = sets_by w (doing command) reply around

-- two replicas have processed the same blocks
abbrev pub SameProcessed : ReplicaState → ReplicaState → Type 0
SameProcessed s t = (c : Cid) → has c s.state.durable.order ≡ has c t.state.durable.order

-- `same` says whether they have, where both contents are told
abbrev pub SaysSame : WorldState → ℕ → ℕ → Reply → Type 0
SaysSame w r other reply = (yes : Bool) × (reply ≡ Same yes) × AtPlace w r (λ p. AtPlace w other (λ q.
    IfSome (state_at p) (λ s. IfSome (state_at q) (λ t. (yes ≡ true) ↔ SameProcessed s t))))

-- what a command answers that changes no replica
abbrev pub says_by : WorldState → Doing → Reply → Type 0
says_by w (Compares r other) reply = SaysSame w r other reply
says_by w d reply = ⊤

abbrev pub Says : WorldState → Command → Reply → Type 0
Says w command reply = says_by w (doing command) reply

-- what a fault of the keeper leaves, where the content is told: a work, a repair or a storm has led to this before it,
-- and of every other command the events are cut short
abbrev pub faults_by : WorldState → Doing → Type 0 → ReplicaState → ReplicaState → Type 0
faults_by w (At r (Works budget)) own =
    WorkLeads (budget_of budget) (finds_of (peers_of w r)) (Err broke.KeeperFault)
faults_by w (At r Repairs) own = RepairLeads repair_budget (finds_of (peers_of w r)) (Err broke.KeeperFault)
faults_by w (At r (Storms writers writes)) own = StormLeads writers writes (Err storm.KeeperFault) own
faults_by w d own = λ s new. Faults (λ events reply. events_by w s d events reply) own s new

abbrev pub FaultsOf : WorldState → Command → Type 0 → ReplicaState → ReplicaState → Type 0
FaultsOf w command own = faults_by w (doing command) own

-- a command was cut short at a replica by a fault of its keeper, and the replica has stopped: its fuse fired, or the
-- keeper failed by itself
pub record CutShort (w : WorldState) (command : Command) (own : Type 0) (p q : Place) : Type 0 where
  pub down : q.run ≡ None
  pub silent : p.content ≡ None → q.content ≡ None
  pub planted_same : q.planted ≡ p.planted
  pub why : (has_fired p.fuse q.fuse ≡ true) ⊎ own
  pub told : Told (state_at p) (state_at q) (FaultsOf w command own)

-- the first block that waits came to the back of those that wait
abbrev pub GivesBack : Place → Place → Type 0
GivesBack p q = IfRuns p.run (λ run. (run.queue.waiting ≢ [])
    × (q ≡ record p { run = Some (record run { queue = tried_first run.queue run.queue.waiting }) }))

-- what a fault of a peer's desk leaves of the replica that fetched: the job of a step is given back, and of a work or a
-- repair what was processed so far stays, and nothing is in flight
abbrev pub breaks_by : WorldState → Doing → Place → Place → Type 0
breaks_by w (At r (Works budget)) = WorksTo (peers_of w r) (budget_of budget) (Err broke.PeerFault)
breaks_by w (At r Repairs) = RepairsTo (peers_of w r) (Err broke.PeerFault)
breaks_by w d = GivesBack

abbrev pub PeerBreaks : WorldState → Command → Place → Place → Type 0
PeerBreaks w command = breaks_by w (doing command)

-- the command is refused with this reply, and nothing has changed
pub record IsRefused (w : WorldState) (command : Command) (reply : Reply) (w2 : WorldState) : Type 0 where
  pub cause : Refuses w command (Some reply)
  pub same : w2 ≡ w

-- nothing refuses the command, and all of it has happened
pub record IsDone (w : WorldState) (command : Command) (reply : Reply) (w2 : WorldState) : Type 0 where
  pub allowed : Refuses w command None
  pub moved : MovedAt (focus command) w.places w2.places (λ p q. DoneAt w command p q reply)
  pub says : Says w command reply
  pub around : Sets w command reply w2.around

-- A keeper failed: its replica has stopped, and all else is as it was. `named` says which keepers failed, and `own`
-- which by themselves.
pub record IsFaulted (w : WorldState) (command : Command) (named own : ℕ → Type 0) (reply : Reply) (w2 : WorldState)
    : Type 0 where
  pub at : ℕ
  pub among : is_named (may_fail command) at ≡ true
  pub asked : Asks w command
  pub cause : named at
  pub says : reply ≡ FaultKeeper
  pub moved : Moved at w.places w2.places (CutShort w command (own at))
  pub around : w2.around ≡ w.around

-- whether a command fetches from this replica
abbrev pub peer_by : WorldState → Doing → ℕ → Bool
peer_by w (At r Steps) peer = is_marked (peer_row w.around.down r 0 w.places) peer
peer_by w (At r (Works budget)) peer = is_marked (peer_row w.around.down r 0 w.places) peer
peer_by w (At r Repairs) peer = is_marked (peer_row w.around.down r 0 w.places) peer
peer_by w d peer = false

abbrev pub asks_peer : WorldState → Command → ℕ → Bool
asks_peer w command peer = peer_by w (doing command) peer

-- the bytes that a replica has stored itself for the block that waits first, or none
abbrev pub first_stored : ReplicaState → Option (List ℕ)
first_stored s = option_and_then (bytes_at (kept_of s.state.durable).graph) (first_waiting s)

-- what a command that fetches lacks: a step asks no peer for a block that the replica has stored, where that is told
abbrev pub lacks_by : WorldState → Doing → Type 0
lacks_by w (At r Steps) = AtPlace w r (λ p. IfSome (state_at p) (λ s. first_stored s ≡ None))
lacks_by w d = ⊤

-- A desk of a peer failed, and all but the replica that fetched is as it was. `named` says of which replicas a desk
-- failed.
pub record IsPeerFault (w : WorldState) (command : Command) (named : ℕ → Type 0) (reply : Reply) (w2 : WorldState)
    : Type 0 where
  pub at : ℕ
  pub among : asks_peer w command at ≡ true
  pub lacks : lacks_by w (doing command)
  pub allowed : Refuses w command None
  pub cause : named at
  pub says : reply ≡ FaultPeer
  pub moved : MovedAt (focus command) w.places w2.places (PeerBreaks w command)
  pub around : w2.around ≡ w.around

-- a command does one of the four
abbrev pub Row : WorldState → Command → (ℕ → Type 0) → (ℕ → Type 0) → (ℕ → Type 0) → Reply → WorldState → Type 0
Row w command named own desk reply w2 =
    ((IsRefused w command reply w2 ⊎ IsDone w command reply w2) ⊎ IsFaulted w command named own reply w2)
    ⊎ IsPeerFault w command desk reply w2

-- a command leads from one world to another with this reply and this entry of the record
pub record Step (w : WorldState) (command : Command) (entry : LineEntry) (reply : Reply) (w2 : WorldState)
    : Type 0 where
  pub there : is_there w command ≡ true
  pub row : Row w command (λ r. is_named entry.keepers r ≡ true) (λ r. is_named entry.own r ≡ true)
      (λ r. is_named entry.desks r ≡ true) reply w2

-- what a want of memory leaves of the replica that a command works on: it runs on where it ran, and where the content
-- is told the call has left this
abbrev pub StillRuns : Option Running → Option Running → Type 0
StillRuns None new = new ≡ None
StillRuns (Some old) new = RunOn SameBatch (Some old) new

pub record ShortBy (d : Doing) (p q : Place) : Type 0 where
  pub runs : StillRuns p.run q.run
  pub silent : p.content ≡ None → q.content ≡ None
  pub planted_same : q.planted ≡ p.planted
  pub told : Told (state_at p) (state_at q) (leaves_by d)

abbrev pub ShortAt : Command → Place → Place → Type 0
ShortAt command p q = ShortBy (doing command) p q

-- the same by command: a work or a repair leaves the replica as it was, or what was processed so far stays
abbrev pub short_by : WorldState → Doing → Place → Place → Type 0
short_by w (At r (Works budget)) =
    λ p q. (q ≡ p) ⊎ WorksTo (peers_of w r) (budget_of budget) (Err broke.Memory) p q
short_by w (At r Repairs) = λ p q. (q ≡ p) ⊎ RepairsTo (peers_of w r) (Err broke.Memory) p q
short_by w d = ShortBy d

abbrev pub ShortIn : WorldState → Command → Place → Place → Type 0
ShortIn w command = short_by w (doing command)

-- what it leaves of a world
pub record LeavesStep (w : WorldState) (command : Command) (w2 : WorldState) : Type 0 where
  pub there : is_there w command ≡ true
  pub moved : MovedAt (focus command) w.places w2.places (ShortIn w command)
  pub around : w2.around ≡ w.around
