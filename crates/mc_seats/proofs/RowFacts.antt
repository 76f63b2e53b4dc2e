-- From what a call of a replica does to what its command does at the replica's seat.
use Rattle.std.proofs.Common.{◌≡◌, ℕ, Bool, true, false, cond, ◌||◌, List, [], Option, Some, None, Result, Ok, Err, refl, sym, ap, ◌∙◌, subst, inl, inr}
use Rattle.std.specs.Prelude.{◌⊎◌, ⊤, IfOk, IfSome}
use Rattle.mc_base.specs.Causes.{Rose}
use Rattle.mc_base.specs.Told.{Told}
use Rattle.mc_base.specs.declared.counted.Counted as counted
use Rattle.mc_base.proofs.Telling.{told_weaker}
use Rattle.mc_fetch.specs.declared.plants.Planted.{Planted}
use Rattle.mc_keep.specs.Calls.{Members}
use Rattle.mc_keep.specs.Causes.{Kind, Refusal, Fault, Shortage, has_fired, is_fault_kind}
use Rattle.mc_keep.specs.declared.fuse.Fuse.{Fuse}
use Rattle.mc_keep.specs.declared.keeper.Keeper as keeper
use Rattle.mc_model.specs.Events.{Event}
use Rattle.mc_model.specs.Kept.{Kept}
use Rattle.mc_model.specs.State.{Running, durable_of}
use Rattle.mc_core.specs.declared.CoreError.{CoreError}
use Rattle.mc_core.specs.declared.CoreError.TheVariants as core
use Rattle.mc_core.specs.declared.replica.Replica.{Replica}
use Rattle.mc_core.specs.Calls as calls
use Rattle.mc_core.specs.Calls.{Call, Does, Faults}
use Rattle.mc_core.specs.Counted.{run_of}
use Rattle.mc_core.specs.Events.{Goes, ReplicaState, state_of}
use Rattle.mc_core.specs.Exact.{seen_of, stop_front}
use Rattle.mc_core.specs.Refusals.{ByKind, kind_of}
use Rattle.mc_core.specs.Replica.{running_of}
use Rattle.mc_core.specs.Words.{Continues, TellsSame as ReplicaTells}
use Rattle.mc_script.specs.declared.command.Command.{Command}
use Rattle.mc_script.specs.declared.command.Command.TheVariants.{Del}
use Rattle.mc_script.specs.declared.reply.Reply.{Reply}
use Rattle.mc_script.specs.declared.reply.Reply.TheVariants.{Stopped}
use Rattle.mc_seats.specs.declared.error.ActError.{ActError}
use Rattle.mc_seats.specs.declared.error.ActError.TheVariants.{BadLine, Memory}
use Rattle.mc_seats.specs.declared.seat.Held.{Held}
use Rattle.mc_seats.specs.declared.seat.Held.TheVariants.{Up, Down}
use Rattle.mc_seats.specs.declared.seat.Idle.{Idle}
use Rattle.mc_seats.specs.declared.seat.Seat.{Seat}
use Rattle.mc_seats.specs.Asks.{arms, arms_by}
use Rattle.mc_seats.specs.Calling.{Batches, Blocks, Calling, IsForm, Nothing, Reach, batch_of, is_calm_reach}
use Rattle.mc_seats.specs.Calls.{BatchBy, CallLeaves, CallMakes, FormBy, batch_by, calls_by, form_by, is_call, only_runs, runs_by}
use Rattle.mc_seats.specs.Doing.{At, Calls, Casts, Doing, Exports, Hears, Imports, Repairs, Storms, Tends, Works, doing}
use Rattle.mc_seats.specs.Effects.{AsksAt, MayRefuse, CallRefusal, CallRefused, CallsAt, DoneAt, Exact, Happens, Leaves, EventsOf, RefusedAt, answer_of, asks_by, call_front, call_refused, done_by, exact_by, front_at, happens_by, refused_by, seen_by}
use Rattle.mc_seats.specs.Step.{FaultsOf, ShortAt, answers_fault, is_fault}
use Rattle.mc_seats.specs.Words.{EarlyRow, KeeperGoes, PlaceRow, SeatActsIn, can_fail, place}
use Rattle.mc_seats.specs.Worlds.{Place, WorldState, no_bag, state_at}
use Rattle.mc_seats.proofs.GoesFacts.{keeper_goes, keeper_still, no_fault}
use Rattle.mc_seats.proofs.WorkedFacts.{faults_from, is_long, long_by}

pub no_error : {P : Type 0} {T E : Type 0} {value : T} {error : E} → Ok value ≡ Err error → P
no_error {T = T} {E = E} {value = value} {error = error} e = absurd (let f : (let r : Result T E = Ok value in r) ≡ Err error = e in cc)

-- the commands that a replica refuses by itself, and answers by one call

abbrev pub acts_by : Doing → Bool
acts_by (At r (Calls call)) = true
acts_by (At r Casts) = true
acts_by (At r (Hears message)) = true
acts_by (At r Exports) = true
acts_by (At r (Imports car)) = true
acts_by d = false

abbrev pub is_acting : Command → Bool
is_acting command = acts_by (doing command)

acts_for : (d : Doing) → calls_by d ≡ true → acts_by d ≡ true
acts_for (At r (Calls call)) is = refl
acts_for d is = no_fault is

pub call_acts : (command : Command) → is_call command ≡ true → is_acting command ≡ true
call_acts command is = acts_for (doing command) is

refused_for : (w : WorldState) (p : Place) (d : Doing) (due : Option Reply) → acts_by d ≡ true → call_refused w p d due → refused_by w p d due
refused_for w p (At r (Tends tending)) due is x = no_fault is
refused_for w p d due is x = x

refused_from : (w : WorldState) (p : Place) (command : Command) (due : Option Reply) → is_acting command ≡ true → CallRefused w p command due → RefusedAt w p command due
refused_from w p command = refused_for w p (doing command)

asks_for : (w : WorldState) (p : Place) (d : Doing) → acts_by d ≡ true → seen_by w p d ≡ None → asks_by w d p
asks_for w p (At r (Tends tending)) is x = no_fault is
asks_for w p d is x = x

asks_from : (w : WorldState) (p : Place) (command : Command) → is_acting command ≡ true → front_at w p command ≡ None → AsksAt w command p
asks_from w p command = asks_for w p (doing command)

long_for : (d : Doing) → acts_by d ≡ true → long_by d ≡ false
long_for (At r (Works budget)) is = no_fault is
long_for (At r Repairs) is = no_fault is
long_for (At r (Storms writers writes)) is = no_fault is
long_for d is = refl

not_long : (command : Command) → is_acting command ≡ true → is_long command ≡ false
not_long command = long_for (doing command)

arms_for : (d : Doing) → acts_by d ≡ true → arms_by d ≡ 0
arms_for (At r (Tends tending)) is = no_fault is
arms_for d is = refl

no_arms : (command : Command) → is_acting command ≡ true → arms command ≡ 0
no_arms command = arms_for (doing command)

done_for : (w : WorldState) (d : Doing) (p q : Place) (reply : Reply) → calls_by d ≡ true → exact_by w d p q reply → happens_by w d p q reply → done_by w d p q reply
done_for w (At r (Calls call)) p q reply is exact happens = (exact, happens)
done_for w d p q reply is exact happens = no_fault is

done_from : (w : WorldState) (command : Command) (p q : Place) (reply : Reply) → is_call command ≡ true → Exact w command p q reply → Happens w command p q reply → DoneAt w command p q reply
done_from w command = done_for w (doing command)

-- the place of a replica

abbrev pub placed : Option Kept → Option Fuse → Bool → Running → List Planted → Place
placed told fuse stop run planted = record { content = told; fuse = fuse; run = run_of stop run; planted = planted }

pub same_run : (run run2 : Running) → run2.queue ≡ run.queue → run2.walk ≡ run.walk → run2.batch ≡ run.batch → run2.whole ≡ run.whole → run2 ≡ run
same_run run run2 q s b w = λ i. record { queue = q i; walk = s i; batch = b i; whole = w i }

pub same_place : (told told2 : Option Kept) (fuse fuse2 : Option Fuse) (stop stop2 : Bool) (run run2 : Running) (planted : List Planted) → told2 ≡ told → fuse2 ≡ fuse → stop2 ≡ stop → run2 ≡ run
    → placed told2 fuse2 stop2 run2 planted ≡ placed told fuse stop run planted
same_place told told2 fuse fuse2 stop stop2 run run2 planted t f s r = λ i. placed (t i) (f i) (s i) (r i) planted

-- the refusal that needs no look at the keeper
front_of_place : (w : WorldState) (command : Command) (told : Option Kept) (fuse : Option Fuse) (stop : Bool) (run : Running) (planted : List Planted)
    → front_at w (placed told fuse stop run planted) command ≡ stop_front stop (call_front w run.batch command)
front_of_place w command told fuse true run planted = refl
front_of_place w command told fuse false run planted = refl

-- what a call that did all leaves over every keeper
reach_for : (reach : Reach) (call : Calling) (told told2 : Option Kept) (fuse fuse2 : Option Fuse) (run run2 : Running) (planted : List Planted) (reply : Reply)
    → run2.walk ≡ run.walk → run2.whole ≡ run.whole → batch_of reach run.batch run2.batch → IsForm call.Fits call.says reply → (told ≡ None → told2 ≡ None)
    → (is_calm_reach reach ≡ true → (told2 ≡ told) × (fuse2 ≡ fuse) × (run2.queue ≡ run.queue))
    → CallsAt reach call (placed told fuse false run planted) (placed told2 fuse2 false run2 planted) reply
reach_for Nothing call told told2 fuse fuse2 run run2 planted reply walk whole batch form silent tells = let same = tells refl in (same_place told told2 fuse fuse2 false false run run2 planted same.0 same.1 refl (same_run run run2 same.2 walk batch whole), form)
reach_for (Batches B) call told told2 fuse fuse2 run run2 planted reply walk whole batch form silent tells = let same = tells refl in (record { run_on = (walk, whole, batch); silent = silent; planted_same = refl }, (same.0, same.1), form)
reach_for (Blocks B) call told told2 fuse fuse2 run run2 planted reply walk whole batch form silent tells = (record { run_on = (walk, whole, batch); silent = silent; planted_same = refl }, form)

exact_for : (w : WorldState) (d : Doing) (told told2 : Option Kept) (fuse fuse2 : Option Fuse) (run run2 : Running) (planted : List Planted) (reply : Reply) → calls_by d ≡ true
    → run2.walk ≡ run.walk → run2.whole ≡ run.whole → batch_by d run.batch run2.batch → form_by d reply → (told ≡ None → told2 ≡ None)
    → (runs_by d ≡ true → (told2 ≡ told) × (fuse2 ≡ fuse) × (run2.queue ≡ run.queue))
    → exact_by w d (placed told fuse false run planted) (placed told2 fuse2 false run2 planted) reply
exact_for w (At r (Calls call)) told told2 fuse fuse2 run run2 planted reply is walk whole batch form silent tells = reach_for call.reach call told told2 fuse fuse2 run run2 planted reply walk whole batch form silent tells
exact_for w d told told2 fuse fuse2 run run2 planted reply is walk whole batch form silent tells = no_fault is

exact_from : (w : WorldState) (command : Command) (told told2 : Option Kept) (fuse fuse2 : Option Fuse) (run run2 : Running) (planted : List Planted) (reply : Reply) → is_call command ≡ true
    → run2.walk ≡ run.walk → run2.whole ≡ run.whole → BatchBy command run.batch run2.batch → FormBy command reply → (told ≡ None → told2 ≡ None)
    → (only_runs command ≡ true → (told2 ≡ told) × (fuse2 ≡ fuse) × (run2.queue ≡ run.queue))
    → Exact w command (placed told fuse false run planted) (placed told2 fuse2 false run2 planted) reply
exact_from w command = exact_for w (doing command)

-- a call at one replica, in one world

told_refused : (R : ReplicaState → Type 0) (x y : Option ReplicaState) → Told x y (λ s new. R s × (new ≡ s)) → IfSome x R
told_refused R None y told = tt
told_refused R (Some s) None told = absurd told
told_refused R (Some s) (Some new) told = told.0

-- what a fault of its keeper leaves of a replica
pub record Fell (command : Command) (named own : Type 0) (p q : Place) : Type 0 where
  pub can : can_fail command ≡ true
  pub cause : named
  pub down : q.run ≡ None
  pub why : (has_fired p.fuse q.fuse ≡ true) ⊎ own

module _ (w : WorldState) (command : Command) (named own : Type 0) (p q : Place) where
  abbrev pub CallsHere : Result Reply CoreError → Type 0
  CallsHere result = Told (state_at p) (state_at q) (λ s new. Call (CallRefusal w s command) (EventsOf w s command) (Leaves command s) own result s new)

  pub not_done : (reply : Reply) → EarlyRow w command named own p q reply → PlaceRow w command named own p q reply
  not_done reply (inl refused) = inl (inl refused)
  not_done reply (inr fault) = inr fault

  -- a call that did nothing, or not all
  pub err_early : (error : CoreError) → is_acting command ≡ true → MayRefuse (doing command) error → ByKind (q ≡ p) ⊤ ⊤ (kind_of error) → ByKind (seen_of error ≡ front_at w p command) (seen_of error ≡ front_at w p command) ⊤ (kind_of error)
      → ByKind ⊤ (Fell command named own p q) ⊤ (kind_of error) → (p.content ≡ None → q.content ≡ None) → q.planted ≡ p.planted → CallsHere (Err error) → IfOk (answer_of error) (EarlyRow w command named own p q)
  err_early core.KeeperFault acts alone same seen fell silent planted call =
      inr (fell.can, fell.cause, asks_from w p command acts (sym seen), refl, record { down = fell.down; silent = silent; planted_same = planted; why = fell.why; told = told_weaker (λ s new. Faults (λ events reply. EventsOf w s command events reply) own s new) (FaultsOf w command own) (faults_from w command (not_long command acts) own) (state_at p) (state_at q) call })
  err_early core.Memory acts alone same seen fell silent planted call = tt
  err_early error acts alone same seen fell silent planted call =
      inl (refused_from w p command _ acts (error, seen, told_refused (λ s. CallRefusal w s command (Some error)) (state_at p) (state_at q) call, refl, alone), same)

  -- and one that did all

  allowed_by : (x y : Option ReplicaState) (reply : Reply) → Told x y (λ s new. Does (CallRefusal w s command) (EventsOf w s command) reply s new) → IfSome x (λ s. CallRefusal w s command None)
  allowed_by None y reply told = tt
  allowed_by (Some s) None reply told = absurd told
  allowed_by (Some s) (Some new) reply told = told.allowed

  happens_from : (x y : Option ReplicaState) (reply : Reply) → Told x y (λ s new. Does (CallRefusal w s command) (EventsOf w s command) reply s new) → Told x y (λ s new. (events : List Event) × EventsOf w s command events reply × Goes events s new)
  happens_from None y reply told = tt
  happens_from (Some s) None reply told = absurd told
  happens_from (Some s) (Some new) reply told = (told.events, told.makes, told.goes)

  pub ok_allowed : (reply : Reply) → is_acting command ≡ true → None ≡ front_at w p command → CallsHere (Ok reply) → RefusedAt w p command None
  ok_allowed reply acts seen call = refused_from w p command None acts (sym seen, allowed_by (state_at p) (state_at q) reply call)

  pub ok_happens : (reply : Reply) → CallsHere (Ok reply) → Happens w command p q reply
  ok_happens reply call = happens_from (state_at p) (state_at q) reply call

-- facts by the kind of an error

pub on_fault : {P : Type 0} (kind : Kind) → (is_fault_kind kind ≡ true → P) → ByKind ⊤ P ⊤ kind
on_fault Refusal p = tt
on_fault Fault p = p refl
on_fault Shortage p = tt

same_by : (kind : Kind) (told told2 : Option Kept) (fuse fuse2 : Option Fuse) (stop stop2 : Bool) (run run2 : Running) (planted : List Planted) → stop2 ≡ (is_fault_kind kind || stop)
    → run2.walk ≡ run.walk → run2.whole ≡ run.whole → run2.batch ≡ run.batch → ByKind ((told2 ≡ told) × (fuse2 ≡ fuse) × (run2.queue ≡ run.queue)) ⊤ ⊤ kind
    → ByKind (placed told2 fuse2 stop2 run2 planted ≡ placed told fuse stop run planted) ⊤ ⊤ kind
same_by Refusal told told2 fuse fuse2 stop stop2 run run2 planted stops walk whole batch same = same_place told told2 fuse fuse2 stop stop2 run run2 planted same.0 same.1 stops (same_run run run2 same.2 walk batch whole)
same_by Fault told told2 fuse fuse2 stop stop2 run run2 planted stops walk whole batch same = tt
same_by Shortage told told2 fuse fuse2 stop stop2 run run2 planted stops walk whole batch same = tt

short_by : (kind : Kind) (command : Command) (told told2 : Option Kept) (fuse fuse2 : Option Fuse) (stop stop2 : Bool) (run run2 : Running) (planted : List Planted) → stop2 ≡ (is_fault_kind kind || stop)
    → run2.walk ≡ run.walk → run2.whole ≡ run.whole → run2.batch ≡ run.batch → (told ≡ None → told2 ≡ None)
    → ByKind ⊤ ⊤ (Told (state_of told fuse (run_of stop run)) (state_of told2 fuse2 (run_of stop2 run2)) (Leaves command)) kind
    → ByKind ⊤ ⊤ (ShortAt command (placed told fuse stop run planted) (placed told2 fuse2 stop2 run2 planted)) kind
short_by Refusal command told told2 fuse fuse2 stop stop2 run run2 planted stops walk whole batch silent left = tt
short_by Fault command told told2 fuse fuse2 stop stop2 run run2 planted stops walk whole batch silent left = tt
short_by Shortage command told told2 fuse fuse2 true true run run2 planted stops walk whole batch silent left = record { runs = refl; silent = silent; planted_same = refl; told = left }
short_by Shortage command told told2 fuse fuse2 true false run run2 planted stops walk whole batch silent left = no_fault stops
short_by Shortage command told told2 fuse fuse2 false true run run2 planted stops walk whole batch silent left = no_fault (sym stops)
short_by Shortage command told told2 fuse fuse2 false false run run2 planted stops walk whole batch silent left = record { runs = (walk, whole, batch); silent = silent; planted_same = refl; told = left }

-- what a want of memory leaves, from what a call does
left_by : (kind : Kind) (x y : Option ReplicaState) (A B X : ReplicaState → ReplicaState → Type 0) → Told x y (λ s new. ByKind (A s new) (B s new) (X s new) kind) → ByKind ⊤ ⊤ (Told x y X) kind
left_by Refusal x y A B X told = tt
left_by Fault x y A B X told = tt
left_by Shortage x y A B X told = told

pub left_of : {T : Type 0} (Due : ReplicaState → Option CoreError → Type 0) (P : ReplicaState → List Event → T → Type 0) (Short : ReplicaState → ReplicaState → Type 0) (own : Type 0) (error : CoreError) (x y : Option ReplicaState)
    → Told x y (λ s new. Call (Due s) (P s) (Short s) own (Err error) s new) → ByKind ⊤ ⊤ (Told x y Short) (kind_of error)
left_of Due P Short own error x y told = left_by (kind_of error) x y (λ s new. calls.IsRefused (Due s) error s new) (λ s new. Faults (P s) own s new) Short told

-- the answer to an error

short_answer : {X : Type 0} (error : CoreError) → answer_of error ≡ Err Memory → ByKind ⊤ ⊤ X (kind_of error) → X
short_answer core.Memory is left = left
short_answer error is left = no_error is

never_bad : (error : CoreError) → answer_of error ≡ Err BadLine → ⊥
never_bad core.Memory is = absurd (let f : (let r : Result Reply ActError = Err Memory in r) ≡ Err BadLine = is in cc)
never_bad error is = no_error is

pub fault_answered : (error : CoreError) → answers_fault (answer_of error) ≡ is_fault_kind (kind_of error)
fault_answered core.KeeperFault = refl
fault_answered error = refl

-- a count is not armed by a call of a replica, and its faults are those that it answers

pub why_of : {own : Type 0} (b : Bool) → (b ≡ false → own) → (b ≡ true) ⊎ own
why_of true rose = inl refl
why_of false rose = inr (rose refl)

can_of : (b failed : Bool) → (b ≡ false → failed ≡ false) → failed ≡ true → b ≡ true
can_of true failed may is = refl
can_of false failed may is = no_fault (sym (may refl) ∙ is)

fell_stop : (failed stop stop2 : Bool) (run : Running) → failed ≡ true → stop2 ≡ (failed || stop) → run_of stop2 run ≡ None
fell_stop true stop stop2 run is stops = ap (λ b. run_of b run) stops
fell_stop false stop stop2 run is stops = no_fault is

front_by : {P Q : Type 0} (kind : Kind) → (P → Q) → ByKind P P ⊤ kind → ByKind Q Q ⊤ kind
front_by Refusal f is = f is
front_by Fault f is = f is
front_by Shortage f is = tt

pub front_any : {P : Type 0} (kind : Kind) → P → ByKind P P ⊤ kind
front_any Refusal is = is
front_any Fault is = is
front_any Shortage is = tt

pub same_any : {P : Type 0} (kind : Kind) → P → ByKind P ⊤ ⊤ kind
same_any Refusal is = is
same_any Fault is = tt
same_any Shortage is = tt

-- a replica in its seat, in all worlds

pub up_by : (stop : Bool) (due : Option CoreError) → None ≡ stop_front stop due → stop ≡ false
up_by true due seen = absurd (let f : (let o : Option CoreError = None in o) ≡ Some core.Stopped = seen in cc)
up_by false due seen = refl

no_world : WorldState
no_world = record { places = []; around = record { bag = no_bag; down = [] } }

abbrev pub up : {K D : Type 0} {g : keeper.Ghosts K D} {h : counted.Ghosts K} {i : counted.Ghosts D} → Replica K D g h i → List Planted → Seat K D g h i
up replica planted = record { held = Up replica; planted = planted }

abbrev pub down : {K D : Type 0} {g : keeper.Ghosts K D} {h : counted.Ghosts K} {i : counted.Ghosts D} → Idle K D g h i → List Planted → Seat K D g h i
down idle planted = record { held = Down idle; planted = planted }

-- the run of a replica, but for what is wanted
abbrev pub RestOf : {K D : Type 0} {g : keeper.Ghosts K D} {h : counted.Ghosts K} {i : counted.Ghosts D} → Replica K D g h i → Replica K D g h i → Type 0
RestOf old new = (new.walk ≡ old.walk) × (new.whole ≡ old.whole) × (new.batch ≡ old.batch)

pub queue_by : {K D : Type 0} {g : keeper.Ghosts K D} {h : counted.Ghosts K} {i : counted.Ghosts D} (old new : Replica K D g h i) → new.queue ≡ old.queue → (running_of new).queue ≡ (running_of old).queue
queue_by old new same = cc

module _ {K D : Type 0} {g : keeper.Ghosts K D} {h : counted.Ghosts K} {i : counted.Ghosts D} (k : Members K D) where
  -- what is the same but for the run
  abbrev pub StillSame : Replica K D g h i → Replica K D g h i → Type 0
  StillSame old new = (k.told new.keeper ≡ k.told old.keeper) × (k.fuse new.keeper ≡ k.fuse old.keeper) × ((running_of new).queue ≡ (running_of old).queue)

  abbrev pub CallsIn : WorldState → Command → Result Reply CoreError → Replica K D g h i → Replica K D g h i → Type 0
  CallsIn w command result old new = CallsHere w command (Rose (k.faults old.keeper) (k.faults new.keeper)) (Rose (k.own old.keeper) (k.own new.keeper)) (place k (up old [])) (place k (up new [])) result

  module _ (command : Command) (acts : is_acting command ≡ true) (error : CoreError) (old new : Replica K D g h i) (planted : List Planted) (keeps : Continues k (is_fault_kind (kind_of error)) old new) (rest : RestOf old new) where
    pub early_seat : MayRefuse (doing command) error → (can_fail command ≡ false → is_fault_kind (kind_of error) ≡ false) → ByKind (StillSame old new) ⊤ ⊤ (kind_of error) → (w : WorldState)
        → ByKind (seen_of error ≡ stop_front old.stopped (call_front w old.batch command)) (seen_of error ≡ stop_front old.stopped (call_front w old.batch command)) ⊤ (kind_of error)
        → CallsIn w command (Err error) old new
        → IfOk (answer_of error) (EarlyRow w command (Rose (k.faults old.keeper) (k.faults new.keeper)) (Rose (k.own old.keeper) (k.own new.keeper)) (place k (up old planted)) (place k (up new planted)))
    early_seat alone may same w front call =
        err_early w command (Rose (k.faults old.keeper) (k.faults new.keeper)) (Rose (k.own old.keeper) (k.own new.keeper)) (place k (up old planted)) (place k (up new planted)) error acts alone
        (same_by (kind_of error) (k.told old.keeper) (k.told new.keeper) (k.fuse old.keeper) (k.fuse new.keeper) old.stopped new.stopped (running_of old) (running_of new) planted keeps.stops rest.0 rest.1 rest.2 same)
        (front_by (kind_of error) (λ seen. seen ∙ sym (front_of_place w command (k.told old.keeper) (k.fuse old.keeper) old.stopped (running_of old) planted)) front)
        (on_fault (kind_of error) (λ failed. record {
          can = can_of (can_fail command) (is_fault_kind (kind_of error)) may failed;
          cause = keeps.keeper_goes.faults_go.rose failed;
          down = fell_stop (is_fault_kind (kind_of error)) old.stopped new.stopped (running_of new) failed keeps.stops;
          why = why_of (has_fired (k.fuse old.keeper) (k.fuse new.keeper)) (λ none. keeps.keeper_goes.own_rose none failed);
        })) keeps.keeper_goes.silent refl call

    pub short_seat : answer_of error ≡ Err Memory → ByKind ⊤ ⊤ (Told (state_at (place k (up old []))) (state_at (place k (up new []))) (Leaves command)) (kind_of error) → ShortAt command (place k (up old planted)) (place k (up new planted))
    short_seat is left = short_answer error is (short_by (kind_of error) command (k.told old.keeper) (k.told new.keeper) (k.fuse old.keeper) (k.fuse new.keeper) old.stopped new.stopped (running_of old) (running_of new) planted keeps.stops rest.0 rest.1 rest.2 keeps.keeper_goes.silent left)

    pub goes_seat : (n : ℕ) → 0 ≡ n → KeeperGoes k (cond (answers_fault (answer_of error)) 1 0) n old.keeper new.keeper
    goes_seat n is = subst (λ (n : ℕ). KeeperGoes k (cond (answers_fault (answer_of error)) 1 0) n old.keeper new.keeper) is (subst (λ b. KeeperGoes k (cond b 1 0) 0 old.keeper new.keeper) (sym (fault_answered error)) (keeper_goes keeps.keeper_goes))

    -- a command that is not done
    pub err_acts : (Where : WorldState → Type 0) (result : Result Reply ActError) → result ≡ answer_of error → MayRefuse (doing command) error → (can_fail command ≡ false → is_fault_kind (kind_of error) ≡ false) → ByKind (StillSame old new) ⊤ ⊤ (kind_of error)
        → ((w : WorldState) → Where w → ByKind (seen_of error ≡ stop_front old.stopped (call_front w old.batch command)) (seen_of error ≡ stop_front old.stopped (call_front w old.batch command)) ⊤ (kind_of error))
        → ((w : WorldState) → Where w → CallsIn w command (Err error) old new)
        → ByKind ⊤ ⊤ (Told (state_at (place k (up old []))) (state_at (place k (up new []))) (Leaves command)) (kind_of error)
        → SeatActsIn k Where command result (up old planted) (up new planted)
    err_acts Where result is alone may same front call left = subst (λ (r : Result Reply ActError). SeatActsIn k Where command r (up old planted) (up new planted)) (sym is) (record {
      row = λ w here. if_ok (answer_of error) (not_done w command (Rose (k.faults old.keeper) (k.faults new.keeper)) (Rose (k.own old.keeper) (k.own new.keeper)) (place k (up old planted)) (place k (up new planted))) (early_seat alone may same w (front w here) (call w here));
      short = λ e. short_seat e left;
      not_bad = never_bad error;
      goes = goes_seat (arms command) (sym (no_arms command acts));
    })
      where
        if_ok : {T E : Type 0} {P Q : T → Type 0} (result : Result T E) → ((value : T) → P value → Q value) → IfOk result P → IfOk result Q
        if_ok (Ok value) f is = f value is
        if_ok (Err error) f is = tt

  -- a command that is done
  pub ok_acts : (Where : WorldState → Type 0) (command : Command) → is_acting command ≡ true → (old new : Replica K D g h i) (planted : List Planted) (reply : Reply) → Continues k false old new → is_fault reply ≡ false
      → ((w : WorldState) → Where w → None ≡ stop_front old.stopped (call_front w old.batch command))
      → ((w : WorldState) → Where w → CallsIn w command (Ok reply) old new)
      → ((w : WorldState) → Where w → old.stopped ≡ false → new.stopped ≡ false → Happens w command (place k (up old planted)) (place k (up new planted)) reply → DoneAt w command (place k (up old planted)) (place k (up new planted)) reply)
      → SeatActsIn k Where command (Ok reply) (up old planted) (up new planted)
  ok_acts Where command acts old new planted reply keeps value front call done = record {
    row = λ w here.
        let stop = up_by old.stopped (call_front w old.batch command) (front w here) in
        inl (inr (
          ok_allowed w command (Rose (k.faults old.keeper) (k.faults new.keeper)) (Rose (k.own old.keeper) (k.own new.keeper)) (place k (up old planted)) (place k (up new planted)) reply acts (front w here ∙ sym (front_of_place w command (k.told old.keeper) (k.fuse old.keeper) old.stopped (running_of old) planted)) (call w here),
          done w here stop (keeps.stops ∙ stop) (ok_happens w command (Rose (k.faults old.keeper) (k.faults new.keeper)) (Rose (k.own old.keeper) (k.own new.keeper)) (place k (up old planted)) (place k (up new planted)) reply (call w here)),
        ));
    short = λ e. no_error e;
    not_bad = λ e. no_error e;
    goes = subst (λ (n : ℕ). KeeperGoes k (cond (is_fault reply) 1 0) n old.keeper new.keeper) (sym (no_arms command acts)) (subst (λ b. KeeperGoes k (cond b 1 0) 0 old.keeper new.keeper) (sym value) (keeper_goes keeps.keeper_goes));
  }

  -- one call of a replica

  call_err_up : (command : Command) → is_call command ≡ true → (error : CoreError) (old new : Replica K D g h i) (planted : List Planted) (result : Result Reply ActError) → result ≡ answer_of error → Continues k (is_fault_kind (kind_of error)) old new
      → (can_fail command ≡ false → is_fault_kind (kind_of error) ≡ false) → MayRefuse (doing command) error → CallLeaves k command (Err error) old new
      → ((w : WorldState) → seen_of error ≡ stop_front old.stopped (call_front w old.batch command)) → ((w : WorldState) → CallsIn w command (Err error) old new)
      → SeatActsIn k (λ w. ⊤) command result (up old planted) (up new planted)
  call_err_up command is error old new planted result answered keeps may alone leaves front call =
      err_acts command (call_acts command is) error old new planted keeps (leaves.walk_same, leaves.whole_same, leaves.batch_same) (λ w. ⊤) result answered alone may (refused_by (kind_of error) leaves.refused)
      (λ w here. front_any (kind_of error) (front w)) (λ w here. call w)
      (left_of (λ s. CallRefusal no_world s command) (λ s. EventsOf no_world s command) (Leaves command) (Rose (k.own old.keeper) (k.own new.keeper)) error (state_at (place k (up old []))) (state_at (place k (up new []))) (call no_world))
    where
      refused_by : (kind : Kind) → ByKind (ReplicaTells k old new) ⊤ ⊤ kind → ByKind (StillSame old new) ⊤ ⊤ kind
      refused_by Refusal same = (same.told_same, same.fuse_same, queue_by old new same.queue_same)
      refused_by Fault same = tt
      refused_by Shortage same = tt

  call_ok_up : (command : Command) → is_call command ≡ true → (reply : Reply) (old new : Replica K D g h i) (planted : List Planted) → Continues k false old new → is_fault reply ≡ false
      → CallLeaves k command (Ok reply) old new → CallMakes k command old new reply
      → ((w : WorldState) → None ≡ stop_front old.stopped (call_front w old.batch command)) → ((w : WorldState) → CallsIn w command (Ok reply) old new)
      → SeatActsIn k (λ w. ⊤) command (Ok reply) (up old planted) (up new planted)
  call_ok_up command is reply old new planted keeps value leaves makes front call =
      ok_acts (λ w. ⊤) command (call_acts command is) old new planted reply keeps value (λ w here. front w) (λ w here. call w) (λ w here stop stop2 happens. done_from w command (place k (up old planted)) (place k (up new planted)) reply is (exact w stop stop2) happens)
    where
      exact : (w : WorldState) → old.stopped ≡ false → new.stopped ≡ false → Exact w command (place k (up old planted)) (place k (up new planted)) reply
      exact w stop stop2 =
          subst (λ b. Exact w command (placed (k.told old.keeper) (k.fuse old.keeper) b (running_of old) planted) (place k (up new planted)) reply) (sym stop)
          (subst (λ b. Exact w command (placed (k.told old.keeper) (k.fuse old.keeper) false (running_of old) planted) (placed (k.told new.keeper) (k.fuse new.keeper) b (running_of new) planted) reply) (sym stop2)
          (exact_from w command (k.told old.keeper) (k.told new.keeper) (k.fuse old.keeper) (k.fuse new.keeper) (running_of old) (running_of new) planted reply is leaves.walk_same leaves.whole_same makes.batch makes.form keeps.keeper_goes.silent
          (λ only. let same = makes.tells only in (same.told_same, same.fuse_same, queue_by old new same.queue_same))))

  -- the same of a seat that holds the replica

  pub of_seat : (Where : WorldState → Type 0) (command : Command) (result : Result Reply ActError) (x : Seat K D g h i) (old new : Replica K D g h i) → x.held ≡ Up old
      → SeatActsIn k Where command result (up old x.planted) (up new x.planted) → SeatActsIn k Where command result x (up new x.planted)
  of_seat Where command result x old new is acts = subst (λ (held : Held K D g h i). SeatActsIn k Where command result (record { held = held; planted = x.planted }) (up new x.planted)) (sym is) acts

  pub call_err : (command : Command) → is_call command ≡ true → (error : CoreError) (x : Seat K D g h i) (old new : Replica K D g h i) (result : Result Reply ActError) → x.held ≡ Up old → result ≡ answer_of error
      → Continues k (is_fault_kind (kind_of error)) old new → (can_fail command ≡ false → is_fault_kind (kind_of error) ≡ false) → MayRefuse (doing command) error → CallLeaves k command (Err error) old new
      → ((w : WorldState) → seen_of error ≡ stop_front old.stopped (call_front w old.batch command)) → ((w : WorldState) → CallsIn w command (Err error) old new)
      → SeatActsIn k (λ w. ⊤) command result x (up new x.planted)
  call_err command is error x old new result held answered keeps may alone leaves front call = of_seat (λ w. ⊤) command result x old new held (call_err_up command is error old new x.planted result answered keeps may alone leaves front call)

  pub call_ok : (command : Command) → is_call command ≡ true → (reply : Reply) (x : Seat K D g h i) (old new : Replica K D g h i) → x.held ≡ Up old → Continues k false old new → is_fault reply ≡ false
      → CallLeaves k command (Ok reply) old new → CallMakes k command old new reply
      → ((w : WorldState) → None ≡ stop_front old.stopped (call_front w old.batch command)) → ((w : WorldState) → CallsIn w command (Ok reply) old new)
      → SeatActsIn k (λ w. ⊤) command (Ok reply) x (up new x.planted)
  call_ok command is reply x old new held keeps value leaves makes front call = of_seat (λ w. ⊤) command (Ok reply) x old new held (call_ok_up command is reply old new x.planted keeps value leaves makes front call)

-- one that doesn't run is refused

stopped_due : (w : WorldState) (command : Command) (kept : Kept) (fuse : Option Fuse) → CallRefusal w (record { state = record { durable = durable_of kept; run = None }; fuse = fuse }) command (Some core.Stopped)
stopped_due w (Del r key) kept fuse = refl
stopped_due w command kept fuse = refl

pub stopped_refused : (w : WorldState) (command : Command) (told : Option Kept) (fuse : Option Fuse) (planted : List Planted) → is_acting command ≡ true → RefusedAt w (record { content = told; fuse = fuse; run = None; planted = planted }) command (Some Stopped)
stopped_refused w command None fuse planted acts = refused_from w (record { content = None; fuse = fuse; run = None; planted = planted }) command (Some Stopped) acts (core.Stopped, refl, tt, refl, λ is. refl)
stopped_refused w command (Some kept) fuse planted acts = refused_from w (record { content = Some kept; fuse = fuse; run = None; planted = planted }) command (Some Stopped) acts (core.Stopped, refl, stopped_due w command kept fuse, refl, λ is. refl)

module _ {K D : Type 0} {g : keeper.Ghosts K D} {h : counted.Ghosts K} {i : counted.Ghosts D} (k : Members K D) where
  pub down_at : (Where : WorldState → Type 0) (command : Command) → is_acting command ≡ true → (idle : Idle K D g h i) (planted : List Planted) → SeatActsIn k Where command (Ok Stopped) (down idle planted) (down idle planted)
  down_at Where command acts idle planted = record {
    row = λ w here. inl (inl (stopped_refused w command (k.told idle.keeper) (k.fuse idle.keeper) planted acts, refl));
    short = λ e. no_error e;
    not_bad = λ e. no_error e;
    goes = subst (λ (n : ℕ). KeeperGoes k 0 n idle.keeper idle.keeper) (sym (no_arms command acts)) (keeper_still idle.keeper);
  }

  pub down_acts : (Where : WorldState → Type 0) (command : Command) → is_acting command ≡ true → (x : Seat K D g h i) (idle : Idle K D g h i) → x.held ≡ Down idle → SeatActsIn k Where command (Ok Stopped) x x
  down_acts Where command acts x idle is = subst (λ (held : Held K D g h i). SeatActsIn k Where command (Ok Stopped) (record { held = held; planted = x.planted }) (record { held = held; planted = x.planted })) (sym is) (down_at Where command acts idle x.planted)
