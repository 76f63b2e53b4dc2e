-- What a replica at its seat hears.
use Rattle.std.proofs.Common.{◌≡◌, ℕ, Bool, true, false, List, [], Option, None, Result, Ok, Err, refl, sym, ◌∙◌, subst}
use Rattle.std.specs.Prelude.{⊤}
use Rattle.mc_base.specs.Causes.{Rose}
use Rattle.mc_base.specs.declared.counted.Counted as counted
use Rattle.mc_keep.specs.Calls.{Members}
use Rattle.mc_keep.specs.Causes.{is_fault_kind}
use Rattle.mc_keep.specs.declared.keeper.Keeper as keeper
use Rattle.mc_core.specs.declared.CoreError.{CoreError}
use Rattle.mc_core.specs.declared.CoreError.TheVariants as core
use Rattle.mc_core.specs.declared.Heard.{Heard}
use Rattle.mc_core.specs.declared.replica.Replica.{Replica}
use Rattle.mc_core.specs.Calls.{Stays}
use Rattle.mc_core.specs.Events.{ReplicaState}
use Rattle.mc_core.specs.Exact.{DecidesAlone, RestSame, seen_of, stop_front}
use Rattle.mc_core.specs.Hears.{HearEvents, HearWants, IsQueued, NamesSome, cast_refusal, hear_refusal, unless_short}
use Rattle.mc_core.specs.Refusals.{ByKind, Is, kind_of}
use Rattle.mc_core.specs.Replica.{running_of}
use Rattle.mc_core.specs.Words.{Acts, Continues, StillTells}
use Rattle.mc_script.specs.declared.command.Command.TheVariants.{Hear}
use Rattle.mc_script.specs.declared.reply.Reply.{Reply}
use Rattle.mc_script.specs.declared.reply.Reply.TheVariants.{Queued, Stopped}
use Rattle.mc_seats.specs.declared.error.ActError.{ActError}
use Rattle.mc_seats.specs.declared.seat.Held.TheVariants.{Up, Down}
use Rattle.mc_seats.specs.declared.seat.Idle.{Idle}
use Rattle.mc_seats.specs.declared.seat.Seat.{Seat}
use Rattle.mc_seats.specs.Asks.{message_at}
use Rattle.mc_seats.specs.Effects.{CallRefusal, Exact, EventsOf, answer_of}
use Rattle.mc_seats.specs.Words.{HearActs, SeatActsIn, place}
use Rattle.mc_seats.specs.Worlds.{WorldState, state_at}
use Rattle.mc_seats.proofs.CallFacts.{err_call, ok_call}
use Rattle.mc_seats.proofs.RowFacts.{CallsIn, down_acts, err_acts, left_of, of_seat, ok_acts, placed, same_any, up}

-- hearing

abbrev pub no_heard : CoreError → Result Heard CoreError
no_heard error = Err error

front_short : (stop : Bool) (due : Option CoreError) (error : CoreError) → seen_of error ≡ stop_front stop (unless_short {T = Heard} (Err error) due) → ByKind (seen_of error ≡ stop_front stop due) (seen_of error ≡ stop_front stop due) ⊤ (kind_of error)
front_short stop due core.Memory front = tt
front_short stop due error front = front

module _ {K D : Type 0} {g : keeper.Ghosts K D} {h : counted.Ghosts K} {i : counted.Ghosts D} (k : Members K D) (text : List ℕ) (r message : ℕ) (x : Seat K D g h i) (old new : Replica K D g h i) (held : x.held ≡ Up old) where
  abbrev Where : WorldState → Type 0
  Where w = message_at w.around.bag message ≡ text

  abbrev HearDue : List ℕ → ReplicaState → Option CoreError → Type 0
  HearDue text s = Is (hear_refusal s text)

  hear_call_err : (error : CoreError) → Acts k (HearDue text) (λ s. HearEvents s text) Stays (no_heard error) old new → (w : WorldState) → Where w → CallsIn k w (Hear r message) (Err error) old new
  hear_call_err error call w here =
      err_call (λ s. CallRefusal w s (Hear r message)) (λ s. HearEvents s (message_at w.around.bag message)) (λ s. EventsOf w s (Hear r message)) Stays (λ s events said plan. (Queued said.queued, (said, plan, refl)))
      (state_at (place k (up old []))) (state_at (place k (up new []))) (Rose (k.own old.keeper) (k.own new.keeper)) error (Err error) refl
      (subst (λ (text : List ℕ). Acts k (HearDue text) (λ s. HearEvents s text) Stays (no_heard error) old new) (sym here) call)

  pub hear_err : (error : CoreError) (result : Result Reply ActError) → result ≡ answer_of error → Continues k (is_fault_kind (kind_of error)) old new → DecidesAlone error → RestSame old new → StillTells k old new
      → HearWants {T = Heard} text (Err error) (running_of old).queue (running_of new).queue → seen_of error ≡ stop_front old.stopped (unless_short {T = Heard} (Err error) (cast_refusal text))
      → Acts k (HearDue text) (λ s. HearEvents s text) Stays (no_heard error) old new
      → SeatActsIn k Where (Hear r message) result x (up new x.planted)
  hear_err error result answered keeps alone rest tells wants front call = of_seat k Where (Hear r message) result x old new held
      (err_acts k (Hear r message) refl error old new x.planted keeps (rest.walk_same, rest.whole_same, rest.batch_same) Where result answered (λ is. alone) (λ e. absurd (let f : true ≡ false = e in cc))
      (same_any (kind_of error) (tells.told_same, tells.fuse_same, wants))
      (λ w here. subst (λ (text : List ℕ). ByKind (seen_of error ≡ stop_front old.stopped (cast_refusal text)) (seen_of error ≡ stop_front old.stopped (cast_refusal text)) ⊤ (kind_of error)) (sym here) (front_short old.stopped (cast_refusal text) error front))
      (hear_call_err error call)
      (left_of (HearDue text) (λ s. HearEvents s text) Stays (Rose (k.own old.keeper) (k.own new.keeper)) error (state_at (place k (up old []))) (state_at (place k (up new []))) call))

  hear_call_ok : (heard : Heard) → Acts k (HearDue text) (λ s. HearEvents s text) Stays (Ok heard) old new → (w : WorldState) → Where w → CallsIn k w (Hear r message) (Ok (Queued heard.queued)) old new
  hear_call_ok heard call w here =
      ok_call (λ s. CallRefusal w s (Hear r message)) (λ s. HearEvents s (message_at w.around.bag message)) (λ s. EventsOf w s (Hear r message)) Stays heard (Queued heard.queued) (λ s events plan. (heard, plan, refl))
      (state_at (place k (up old []))) (state_at (place k (up new []))) (Rose (k.own old.keeper) (k.own new.keeper))
      (subst (λ (text : List ℕ). Acts k (HearDue text) (λ s. HearEvents s text) Stays (Ok heard) old new) (sym here) call)

  hear_exact : (w : WorldState) → Where w → (heard : Heard) → RestSame old new → StillTells k old new → HearWants text (Ok heard) (running_of old).queue (running_of new).queue → IsQueued (running_of old).queue (running_of new).queue heard.queued
      → Exact w (Hear r message) (placed (k.told old.keeper) (k.fuse old.keeper) false (running_of old) x.planted) (placed (k.told new.keeper) (k.fuse new.keeper) false (running_of new) x.planted) (Queued heard.queued)
  hear_exact w here heard rest tells wants queued = (
    record { run_on = (rest.walk_same, rest.whole_same, rest.batch_same); silent = λ e. tells.told_same ∙ e; planted_same = refl },
    (tells.told_same, tells.fuse_same),
    record { count = heard.queued; cids = wants.0; some = subst (λ (t : List ℕ). NamesSome t wants.0) (sym here) wants.1; says = refl; wants = wants.2; queued = queued },
  )

  pub hear_ok : (heard : Heard) → Continues k false old new → RestSame old new → StillTells k old new → HearWants text (Ok heard) (running_of old).queue (running_of new).queue
      → IsQueued (running_of old).queue (running_of new).queue heard.queued → None ≡ stop_front old.stopped (cast_refusal text)
      → Acts k (HearDue text) (λ s. HearEvents s text) Stays (Ok heard) old new
      → SeatActsIn k Where (Hear r message) (Ok (Queued heard.queued)) x (up new x.planted)
  hear_ok heard keeps rest tells wants queued front call = of_seat k Where (Hear r message) (Ok (Queued heard.queued)) x old new held
      (ok_acts k Where (Hear r message) refl old new x.planted (Queued heard.queued) keeps refl
      (λ w here. subst (λ (text : List ℕ). None ≡ stop_front old.stopped (cast_refusal text)) (sym here) front)
      (hear_call_ok heard call)
      (λ w here stop stop2 happens. (at_stops w stop stop2 (hear_exact w here heard rest tells wants queued), happens)))
    where
      at_stops : (w : WorldState) → old.stopped ≡ false → new.stopped ≡ false
          → Exact w (Hear r message) (placed (k.told old.keeper) (k.fuse old.keeper) false (running_of old) x.planted) (placed (k.told new.keeper) (k.fuse new.keeper) false (running_of new) x.planted) (Queued heard.queued)
          → Exact w (Hear r message) (place k (up old x.planted)) (place k (up new x.planted)) (Queued heard.queued)
      at_stops w stop stop2 exact =
          subst (λ b. Exact w (Hear r message) (placed (k.told old.keeper) (k.fuse old.keeper) b (running_of old) x.planted) (place k (up new x.planted)) (Queued heard.queued)) (sym stop)
          (subst (λ b. Exact w (Hear r message) (placed (k.told old.keeper) (k.fuse old.keeper) false (running_of old) x.planted) (placed (k.told new.keeper) (k.fuse new.keeper) b (running_of new) x.planted) (Queued heard.queued)) (sym stop2) exact)

pub hear_down : {K D : Type 0} {g : keeper.Ghosts K D} {h : counted.Ghosts K} {i : counted.Ghosts D} (k : Members K D) (text : List ℕ) (x : Seat K D g h i) (idle : Idle K D g h i) → x.held ≡ Down idle → HearActs k text (Ok Stopped) x x
hear_down k text x idle is = λ r message. down_acts k (λ w. message_at w.around.bag message ≡ text) (Hear r message) refl x idle is
