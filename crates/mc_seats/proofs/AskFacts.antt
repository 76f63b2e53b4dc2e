-- What a replica at its seat says of what it keeps, where a world keeps it: a message of its heads, or a file.
use Rattle.std.proofs.Common.{◌≡◌, ℕ, true, false, cond, List, [], Option, Some, None, Result, Ok, Err, refl, sym, ap, ◌∙◌, subst, inl}
use Rattle.std.specs.Prelude.{⊤, IfOk, IfErr, IfSome}
use Rattle.mc_base.specs.Causes.{Rose}
use Rattle.mc_base.specs.Told.{Told}
use Rattle.mc_base.specs.declared.counted.Counted as counted
use Rattle.mc_fetch.specs.declared.plants.Planted.{Planted}
use Rattle.mc_files.specs.Files.{IsExport}
use Rattle.mc_keep.specs.Calls.{Members}
use Rattle.mc_keep.specs.Causes.{Kind, Refusal, Fault, Shortage, is_fault_kind}
use Rattle.mc_keep.specs.declared.keeper.Keeper as keeper
use Rattle.mc_model.specs.Kept.{Kept}
use Rattle.mc_model.specs.State.{OpenBatch, kept_of}
use Rattle.mc_core.specs.declared.CoreError.{CoreError}
use Rattle.mc_core.specs.declared.CoreError.TheVariants as core
use Rattle.mc_core.specs.declared.replica.Replica.{Replica}
use Rattle.mc_core.specs.Calls.{Call, Stays}
use Rattle.mc_core.specs.Counted.{run_of}
use Rattle.mc_core.specs.Events.{ReplicaState}
use Rattle.mc_core.specs.Exact.{DecidesAlone, RestSame, seen_of, stop_front}
use Rattle.mc_core.specs.Reads.{OnlyReads, read_refusal}
use Rattle.mc_core.specs.Refusals.{ByKind, Is, kind_of}
use Rattle.mc_core.specs.Replica.{running_of}
use Rattle.mc_core.specs.Words.{Answers, Continues, TellsSame as ReplicaTells}
use Rattle.mc_script.specs.declared.command.Command.{Command}
use Rattle.mc_script.specs.declared.command.Command.TheVariants.{Cast, Export}
use Rattle.mc_script.specs.declared.reply.Reply.{Reply}
use Rattle.mc_script.specs.declared.reply.Reply.TheVariants.{Stopped}
use Rattle.mc_seats.specs.declared.error.ActError.{ActError}
use Rattle.mc_seats.specs.declared.error.ActError.TheVariants.{BadLine, Memory}
use Rattle.mc_seats.specs.declared.seat.Held.{Held}
use Rattle.mc_seats.specs.declared.seat.Held.TheVariants.{Up, Down}
use Rattle.mc_seats.specs.declared.seat.Idle.{Idle}
use Rattle.mc_seats.specs.declared.seat.Seat.{Seat}
use Rattle.mc_seats.specs.Doing.{doing}
use Rattle.mc_seats.specs.Effects.{CallRefusal, EventsOf, Leaves, MayRefuse, answer_of, call_front}
use Rattle.mc_seats.specs.Holds.{early_answer}
use Rattle.mc_seats.specs.Step.{answers_fault}
use Rattle.mc_seats.specs.Words.{AsksActs, IsCastOf, KeeperGoes, Says, SeatEarly, asked_fault, can_fail, place}
use Rattle.mc_seats.specs.Worlds.{WorldState, is_down, state_at}
use Rattle.mc_seats.proofs.CallFacts.{err_call}
use Rattle.mc_seats.proofs.GoesFacts.{keeper_goes, keeper_still}
use Rattle.mc_seats.proofs.RowFacts.{CallsIn, early_seat, front_any, goes_seat, is_acting, left_of, no_error, queue_by, same_any, same_place, same_run, short_seat, stopped_refused, up, up_by}

-- the answer in place of what was asked for, by the error

early_said : (T : Type 0) (P : Reply → Type 0) (error : CoreError) → IfOk (answer_of error) P → IfOk (early_answer {T = T} (answer_of error)) (λ said. IfErr said P)
early_said T P core.Memory is = tt
early_said T P error is = is

no_value : {T : Type 0} (P : T → Type 0) (error : CoreError) → IfOk (early_answer (answer_of error)) (λ said. IfOk said P)
no_value P core.Memory = tt
no_value P error = tt

short_said : (T : Type 0) (error : CoreError) → early_answer {T = T} (answer_of error) ≡ Err Memory → answer_of error ≡ Err Memory
short_said T core.Memory is = refl
short_said T error is = no_error is

bad_said : (T : Type 0) (error : CoreError) → early_answer {T = T} (answer_of error) ≡ Err BadLine → ⊥
bad_said T core.Memory is = absurd (let f : (let r : Result (Result T Reply) ActError = Err Memory in r) ≡ Err BadLine = is in cc)
bad_said T error is = no_error is

asked_answer : (T : Type 0) (error : CoreError) → asked_fault {T = T} (early_answer (answer_of error)) ≡ answers_fault (answer_of error)
asked_answer T core.Memory = refl
asked_answer T error = refl

says_told : {T : Type 0} (P : Kept → T → Type 0) (x y : Option ReplicaState) (own : Type 0) (value : T) → Told x y (λ s new. Call (Is (read_refusal s)) (OnlyReads P s) (Stays s) own (Ok value) s new) → IfSome x (λ s. P (kept_of s.state.durable) value)
says_told P None y own value told = tt
says_told P (Some s) None own value told = absurd told
says_told P (Some s) (Some new) own value told = told.makes.1

left_map : (kind : Kind) (X Y : Type 0) → (X → Y) → ByKind ⊤ ⊤ X kind → ByKind ⊤ ⊤ Y kind
left_map Refusal X Y f left = tt
left_map Fault X Y f left = tt
left_map Shortage X Y f left = f left

abbrev NoValue : {T : Type 0} → CoreError → Result T CoreError
NoValue error = Err error

-- what a command is that asks a replica for this: it has no refusal of its own, and leaves the replica as it was
pub record AsksPlainly {K D : Type 0} (g : keeper.Ghosts K D) (h : counted.Ghosts K) (i : counted.Ghosts D) (k : Members K D) {T : Type 0} (P : Kept → T → Type 0) (asks : ℕ → Command) : Type 0 where
  pub acts : (r : ℕ) → is_acting (asks r) ≡ true
  pub front : (w : WorldState) (batch : Option OpenBatch) (r : ℕ) → call_front w batch (asks r) ≡ None
  pub alone : (r : ℕ) (error : CoreError) → DecidesAlone error → MayRefuse (doing (asks r)) error
  pub can : (r : ℕ) → can_fail (asks r) ≡ true
  pub left : (r : ℕ) (x y : Option ReplicaState) → Told x y Stays → Told x y (Leaves (asks r))
  pub call : (w : WorldState) (r : ℕ) (error : CoreError) (old new : Replica K D g h i) → Answers k P (NoValue error) old new → CallsIn k w (asks r) (Err error) old new

module _ {K D : Type 0} {g : keeper.Ghosts K D} {h : counted.Ghosts K} {i : counted.Ghosts D} (k : Members K D) {T : Type 0} (Fits : T → Type 0) (P : Kept → T → Type 0) (asks : ℕ → Command) (plain : AsksPlainly g h i k P asks) where
  abbrev Acts : Result (Result T Reply) ActError → Seat K D g h i → Seat K D g h i → Type 0
  Acts = AsksActs k Fits P asks

  of_seat : (result : Result (Result T Reply) ActError) (x : Seat K D g h i) (old new : Replica K D g h i) → x.held ≡ Up old → Acts result (up old x.planted) (up new x.planted) → Acts result x (up new x.planted)
  of_seat result x old new is acts = subst (λ (held : Held K D g h i). Acts result (record { held = held; planted = x.planted }) (up new x.planted)) (sym is) acts

  same_seat : (old new : Replica K D g h i) (planted : List Planted) → new.stopped ≡ old.stopped → RestSame old new → ReplicaTells k old new → place k (up new planted) ≡ place k (up old planted)
  same_seat old new planted stops rest same =
      same_place (k.told old.keeper) (k.told new.keeper) (k.fuse old.keeper) (k.fuse new.keeper) old.stopped new.stopped (running_of old) (running_of new) planted same.told_same same.fuse_same stops
      (same_run (running_of old) (running_of new) (queue_by old new same.queue_same) rest.walk_same rest.batch_same rest.whole_same)

  pub asks_ok : (value : T) (x : Seat K D g h i) (old new : Replica K D g h i) → x.held ≡ Up old → Fits value → Continues k false old new → RestSame old new → ReplicaTells k old new → None ≡ stop_front old.stopped None → Answers k P (Ok value) old new
      → AsksActs k Fits P asks (Ok (Ok value)) x (up new x.planted)
  asks_ok value x old new held fits keeps rest same front call = of_seat (Ok (Ok value)) x old new held (record {
    sent = record {
      up = ap (λ b. is_down (run_of b (running_of old))) (up_by old.stopped None front);
      same = same_seat old new x.planted keeps.stops rest same;
      fits = fits;
      says = says_told P (state_at (place k (up old x.planted))) (state_at (place k (up new x.planted))) (Rose (k.own old.keeper) (k.own new.keeper)) value call;
    };
    early = λ w r. tt;
    short = λ e. no_error e;
    not_bad = λ e. no_error e;
    goes = keeper_goes keeps.keeper_goes;
  })

  may_fail : (r : ℕ) (error : CoreError) → can_fail (asks r) ≡ false → is_fault_kind (kind_of error) ≡ false
  may_fail r error can = absurd (let f : true ≡ false = sym (plain.can r) ∙ can in cc)

  asks_err_up : (error : CoreError) (old new : Replica K D g h i) (planted : List Planted) → DecidesAlone error → Continues k (is_fault_kind (kind_of error)) old new → RestSame old new → ReplicaTells k old new
      → seen_of error ≡ stop_front old.stopped None → Answers k P (NoValue error) old new → Acts (early_answer (answer_of error)) (up old planted) (up new planted)
  asks_err_up error old new planted alone keeps rest same front call = record {
    sent = no_value (λ value. Says Fits P value (place k (up old planted)) (place k (up new planted))) error;
    early = λ w r. early_said T (SeatEarly k w (asks r) (up old planted) (up new planted)) error (early_seat k (asks r) (plain.acts r) error old new planted keeps (rest.walk_same, rest.whole_same, rest.batch_same) (plain.alone r error alone) (may_fail r error)
        (same_any (kind_of error) (same.told_same, same.fuse_same, queue_by old new same.queue_same)) w (front_any (kind_of error) (front ∙ ap (stop_front old.stopped) (sym (plain.front w old.batch r)))) (plain.call w r error old new call));
    short = λ e r. short_seat k (asks r) (plain.acts r) error old new planted keeps (rest.walk_same, rest.whole_same, rest.batch_same) (short_said T error e)
        (left_map (kind_of error) _ _ (plain.left r (state_at (place k (up old []))) (state_at (place k (up new []))))
        (left_of (λ s. Is (read_refusal s)) (OnlyReads P) Stays (Rose (k.own old.keeper) (k.own new.keeper)) error (state_at (place k (up old []))) (state_at (place k (up new []))) call));
    not_bad = bad_said T error;
    goes = subst (λ b. KeeperGoes k (cond b 1 0) 0 old.keeper new.keeper) (sym (asked_answer T error)) (goes_seat k (asks 0) (plain.acts 0) error old new planted keeps (rest.walk_same, rest.whole_same, rest.batch_same) 0 refl);
  }

  pub asks_err : (error : CoreError) (result : Result (Result T Reply) ActError) (x : Seat K D g h i) (old new : Replica K D g h i) → x.held ≡ Up old → result ≡ early_answer (answer_of error)
      → DecidesAlone error → Continues k (is_fault_kind (kind_of error)) old new → RestSame old new → ReplicaTells k old new → seen_of error ≡ stop_front old.stopped None → Answers k P (NoValue error) old new → AsksActs k Fits P asks result x (up new x.planted)
  asks_err error result x old new held is alone keeps rest same front call = of_seat result x old new held
      (subst (λ (result : Result (Result T Reply) ActError). Acts result (up old x.planted) (up new x.planted)) (sym is) (asks_err_up error old new x.planted alone keeps rest same front call))

  down_at : (idle : Idle K D g h i) (planted : List Planted) → Acts (Ok (Err Stopped)) (record { held = Down idle; planted = planted }) (record { held = Down idle; planted = planted })
  down_at idle planted = record {
    sent = tt;
    early = λ w r. inl (stopped_refused w (asks r) (k.told idle.keeper) (k.fuse idle.keeper) planted (plain.acts r), refl);
    short = λ e. no_error e;
    not_bad = λ e. no_error e;
    goes = keeper_still idle.keeper;
  }

  pub asks_down : (x : Seat K D g h i) (idle : Idle K D g h i) → x.held ≡ Down idle → AsksActs k Fits P asks (Ok (Err Stopped)) x x
  asks_down x idle is = subst (λ (held : Held K D g h i). Acts (Ok (Err Stopped)) (record { held = held; planted = x.planted }) (record { held = held; planted = x.planted })) (sym is) (down_at idle x.planted)

module _ {K D : Type 0} {g : keeper.Ghosts K D} {h : counted.Ghosts K} {i : counted.Ghosts D} (k : Members K D) where
  pub casts : AsksPlainly g h i k IsCastOf Cast
  casts = record {
    acts = λ r. refl;
    front = λ w batch r. refl;
    alone = λ r error alone is. alone;
    can = λ r. refl;
    left = λ r x y told. told;
    call = λ w r error old new call. err_call (λ s. CallRefusal w s (Cast r)) (λ s. OnlyReads IsCastOf s) (λ s. EventsOf w s (Cast r)) Stays (λ s events said plan. (Stopped, plan.0))
        (state_at (place k (up old []))) (state_at (place k (up new []))) (Rose (k.own old.keeper) (k.own new.keeper)) error (Err error) refl call;
  }

  pub exports : AsksPlainly g h i k IsExport Export
  exports = record {
    acts = λ r. refl;
    front = λ w batch r. refl;
    alone = λ r error alone is. alone;
    can = λ r. refl;
    left = λ r x y told. told;
    call = λ w r error old new call. err_call (λ s. CallRefusal w s (Export r)) (λ s. OnlyReads IsExport s) (λ s. EventsOf w s (Export r)) Stays (λ s events said plan. (Stopped, plan.0))
        (state_at (place k (up old []))) (state_at (place k (up new []))) (Rose (k.own old.keeper) (k.own new.keeper)) error (Err error) refl call;
  }
