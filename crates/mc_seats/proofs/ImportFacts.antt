-- A file that a replica at its seat takes in.
use Rattle.std.proofs.Common.{◌≡◌, ℕ, true, false, List, [], Option, None, Result, Ok, Err, refl, sym, subst}
use Rattle.std.specs.Prelude.{⊤, IfErr}
use Rattle.mc_base.specs.Causes.{Rose}
use Rattle.mc_base.specs.Told.{Told}
use Rattle.mc_base.proofs.Telling.{told_weaker}
use Rattle.mc_base.specs.declared.counted.Counted as counted
use Rattle.mc_files.specs.Files.{ImportEvents, ImportSays, ImportShort}
use Rattle.mc_files.specs.declared.taking.Imported.{Imported}
use Rattle.mc_keep.specs.Calls.{Members}
use Rattle.mc_keep.specs.Causes.{Kind, Refusal, Fault, Shortage, is_fault_kind}
use Rattle.mc_keep.specs.declared.keeper.Keeper as keeper
use Rattle.mc_core.specs.declared.CoreError.{CoreError}
use Rattle.mc_core.specs.declared.replica.Replica.{Replica}
use Rattle.mc_core.specs.Calls.{Call, Does, Faults, IsRefused}
use Rattle.mc_core.specs.Counted.{run_of}
use Rattle.mc_core.specs.Events.{ReplicaState}
use Rattle.mc_model.specs.Events.{Event}
use Rattle.mc_core.specs.Exact.{DecidesAlone, RestSame, seen_of, stop_front}
use Rattle.mc_core.specs.Reads.{read_refusal}
use Rattle.mc_core.specs.Refusals.{ByKind, Is, kind_of}
use Rattle.mc_core.specs.Replica.{running_of}
use Rattle.mc_core.specs.Words.{Acts, Continues, TellsSame as ReplicaTells}
use Rattle.mc_script.specs.declared.command.Command.TheVariants.{Import}
use Rattle.mc_script.specs.declared.reply.Reply.TheVariants.{Stopped}
use Rattle.mc_seats.specs.declared.error.ActError.{ActError}
use Rattle.mc_script.specs.declared.reply.Reply.{Reply}
use Rattle.mc_seats.specs.declared.seat.Held.TheVariants.{Up, Down}
use Rattle.mc_seats.specs.declared.seat.Idle.{Idle}
use Rattle.mc_seats.specs.declared.seat.Seat.{Seat}
use Rattle.mc_seats.specs.Asks.{car_at}
use Rattle.mc_seats.specs.Effects.{CallRefusal, EventsOf, ImportsRun, Leaves, RunOn, SameBatch, answer_of, import_reply}
use Rattle.mc_seats.specs.Step.{is_fault}
use Rattle.mc_seats.specs.Words.{ImportActs, SeatActsIn, place}
use Rattle.mc_seats.specs.Worlds.{WorldState, state_at}
use Rattle.mc_seats.proofs.CallFacts.{err_call, ok_call}
use Rattle.mc_seats.proofs.RowFacts.{CallsIn, StillSame, down_acts, err_acts, front_any, left_of, of_seat, ok_acts, queue_by, same_place, same_run, up}

abbrev pub no_import : CoreError → Result (Result Imported ℕ) CoreError
no_import error = Err error

plain_reply : (said : Result Imported ℕ) → is_fault (import_reply said) ≡ false
plain_reply (Ok imported) = refl
plain_reply (Err number) = refl

left_by : (kind : Kind) (X Y : Type 0) → (X → Y) → ByKind ⊤ ⊤ X kind → ByKind ⊤ ⊤ Y kind
left_by Refusal X Y f left = tt
left_by Fault X Y f left = tt
left_by Shortage X Y f left = f left

same_by : (kind : Kind) (X Y : Type 0) → (X → Y) → ByKind X ⊤ ⊤ kind → ByKind Y ⊤ ⊤ kind
same_by Refusal X Y f same = f same
same_by Fault X Y f same = tt
same_by Shortage X Y f same = tt

-- a call that leaves this at a want of memory leaves what is weaker
err_weaker : {T : Type 0} (Due : Option CoreError → Type 0) (P : List Event → T → Type 0) (A B : ReplicaState → Type 0) (own : Type 0) (error : CoreError) (s x : ReplicaState) → (A x → B x) → Call Due P A own (Err error) s x → Call Due P B own (Err error) s x
err_weaker Due P A B own error s x f call = by_kind (kind_of error) call
  where
    by_kind : (kind : Kind) → ByKind (IsRefused Due error s x) (Faults P own s x) (A x) kind → ByKind (IsRefused Due error s x) (Faults P own s x) (B x) kind
    by_kind Refusal is = is
    by_kind Fault is = is
    by_kind Shortage is = f is

module _ {K D : Type 0} {g : keeper.Ghosts K D} {h : counted.Ghosts K} {i : counted.Ghosts D} (k : Members K D) (text : List ℕ) (r car : ℕ) (x : Seat K D g h i) (old new : Replica K D g h i) (held : x.held ≡ Up old) where
  abbrev Where : WorldState → Type 0
  Where w = car_at w.around.bag car ≡ text

  abbrev Own : Type 0
  Own = Rose (k.own old.keeper) (k.own new.keeper)

  abbrev Imports : List ℕ → Result (Result Imported ℕ) CoreError → Type 0
  Imports text result = Acts k (λ s. Is (read_refusal s)) (λ s. ImportEvents s text) (λ s. ImportShort s text) result old new

  import_call_err : (error : CoreError) → Imports text (no_import error) → (w : WorldState) → Where w → CallsIn k w (Import r car) (Err error) old new
  import_call_err error call w here =
      err_call (λ s. CallRefusal w s (Import r car)) (λ s. ImportEvents s (car_at w.around.bag car)) (λ s. EventsOf w s (Import r car)) (Leaves (Import r car)) (λ s events said plan. (import_reply said, (said, plan, refl)))
      (state_at (place k (up old []))) (state_at (place k (up new []))) Own error (Err error) refl
      (told_weaker (λ s n. Call (Is (read_refusal s)) (ImportEvents s (car_at w.around.bag car)) (ImportShort s (car_at w.around.bag car)) Own (no_import error) s n)
      (λ s n. Call (Is (read_refusal s)) (ImportEvents s (car_at w.around.bag car)) (Leaves (Import r car) s) Own (no_import error) s n)
      (λ s n. err_weaker (Is (read_refusal s)) (ImportEvents s (car_at w.around.bag car)) (ImportShort s (car_at w.around.bag car)) (Leaves (Import r car) s) Own error s n (λ short. (car_at w.around.bag car, short)))
      (state_at (place k (up old []))) (state_at (place k (up new [])))
      (subst (λ (text : List ℕ). Imports text (no_import error)) (sym here) call))

  short_left : (error : CoreError) → Imports text (no_import error) → ByKind ⊤ ⊤ (Told (state_at (place k (up old []))) (state_at (place k (up new []))) (Leaves (Import r car))) (kind_of error)
  short_left error call = left_by (kind_of error) _ _
      (told_weaker (λ s n. ImportShort s text n) (Leaves (Import r car)) (λ s n short. (text, short)) (state_at (place k (up old []))) (state_at (place k (up new []))))
      (left_of (λ s. Is (read_refusal s)) (λ s. ImportEvents s text) (λ s. ImportShort s text) Own error (state_at (place k (up old []))) (state_at (place k (up new []))) call)

  pub import_err : (error : CoreError) (result : Result Reply ActError) → result ≡ answer_of error → Continues k (is_fault_kind (kind_of error)) old new → DecidesAlone error → RestSame old new
      → ByKind (ReplicaTells k old new) ⊤ ⊤ (kind_of error) → seen_of error ≡ stop_front old.stopped None → Imports text (no_import error)
      → SeatActsIn k Where (Import r car) result x (up new x.planted)
  import_err error result answered keeps alone rest stays front call = of_seat k Where (Import r car) result x old new held
      (err_acts k (Import r car) refl error old new x.planted keeps (rest.walk_same, rest.whole_same, rest.batch_same) Where result answered (λ is. alone) (λ e. absurd (let f : true ≡ false = e in cc))
      (same_by (kind_of error) _ (StillSame k old new) (λ same. (same.told_same, same.fuse_same, queue_by old new same.queue_same)) stays)
      (λ w here. front_any (kind_of error) front)
      (import_call_err error call)
      (short_left error call))

  import_call_ok : (said : Result Imported ℕ) → Imports text (Ok said) → (w : WorldState) → Where w → CallsIn k w (Import r car) (Ok (import_reply said)) old new
  import_call_ok said call w here =
      ok_call (λ s. CallRefusal w s (Import r car)) (λ s. ImportEvents s (car_at w.around.bag car)) (λ s. EventsOf w s (Import r car)) (Leaves (Import r car)) said (import_reply said) (λ s events plan. (said, plan, refl))
      (state_at (place k (up old []))) (state_at (place k (up new []))) Own
      (subst (λ (text : List ℕ). Told (state_at (place k (up old []))) (state_at (place k (up new []))) (λ s n. Does (Is (read_refusal s)) (ImportEvents s text) said s n)) (sym here) call)

  at_same : (said : Result Imported ℕ) → new.stopped ≡ old.stopped → RestSame old new → IfErr said (λ number. ReplicaTells k old new) → IfErr said (λ number. place k (up new x.planted) ≡ place k (up old x.planted))
  at_same (Ok imported) stops rest same = tt
  at_same (Err number) stops rest same =
      same_place (k.told old.keeper) (k.told new.keeper) (k.fuse old.keeper) (k.fuse new.keeper) old.stopped new.stopped (running_of old) (running_of new) x.planted same.told_same same.fuse_same stops
      (same_run (running_of old) (running_of new) (queue_by old new same.queue_same) rest.walk_same rest.batch_same rest.whole_same)

  runs_so : (text2 : List ℕ) → text2 ≡ text → (said : Result Imported ℕ) → old.stopped ≡ false → new.stopped ≡ false → ImportSays text (Ok said) (running_of old).queue (running_of new).queue
      → ImportsRun text2 said (run_of old.stopped (running_of old)) (run_of new.stopped (running_of new))
  runs_so text2 here said stop stop2 says =
      subst (λ b. ImportsRun text2 said (run_of b (running_of old)) (run_of new.stopped (running_of new))) (sym stop)
      (subst (λ b. ImportsRun text2 said (run_of false (running_of old)) (run_of b (running_of new))) (sym stop2)
      (subst (λ (t : List ℕ). ImportSays t (Ok said) (running_of old).queue (running_of new).queue) (sym here) says))

  runs_on : old.stopped ≡ false → new.stopped ≡ false → RestSame old new → RunOn SameBatch (run_of old.stopped (running_of old)) (run_of new.stopped (running_of new))
  runs_on stop stop2 rest =
      subst (λ b. RunOn SameBatch (run_of b (running_of old)) (run_of new.stopped (running_of new))) (sym stop)
      (subst (λ b. RunOn SameBatch (run_of false (running_of old)) (run_of b (running_of new))) (sym stop2) (rest.walk_same, rest.whole_same, rest.batch_same))

  pub import_ok : (said : Result Imported ℕ) (reply : Reply) → reply ≡ import_reply said → Continues k false old new → RestSame old new → IfErr said (λ number. ReplicaTells k old new) → ImportSays text (Ok said) (running_of old).queue (running_of new).queue
      → None ≡ stop_front old.stopped None → Imports text (Ok said)
      → SeatActsIn k Where (Import r car) (Ok reply) x (up new x.planted)
  import_ok said reply is keeps rest refused says front call = subst (λ (reply : Reply). SeatActsIn k Where (Import r car) (Ok reply) x (up new x.planted)) (sym is) (of_seat k Where (Import r car) (Ok (import_reply said)) x old new held
      (ok_acts k Where (Import r car) refl old new x.planted (import_reply said) keeps (plain_reply said)
      (λ w here. front)
      (import_call_ok said call)
      (λ w here stop stop2 happens. (
        (
          record { run_on = runs_on stop stop2 rest; silent = keeps.keeper_goes.silent; planted_same = refl },
          record { said = said; says = refl; runs = runs_so (car_at w.around.bag car) here said stop stop2 says; refused = at_same said keeps.stops rest refused },
        ),
        happens,
      ))))

pub import_down : {K D : Type 0} {g : keeper.Ghosts K D} {h : counted.Ghosts K} {i : counted.Ghosts D} (k : Members K D) (text : List ℕ) (x : Seat K D g h i) (idle : Idle K D g h i) → x.held ≡ Down idle → ImportActs k text (Ok Stopped) x x
import_down k text x idle is = λ r car. down_acts k (λ w. car_at w.around.bag car ≡ text) (Import r car) refl x idle is
