-- How a job begins at a replica.
use Rattle.std.proofs.Common.{◌≡◌, ℕ, Bool, true, false, true≢false, List, [], ◌∷◌, Option, Some, None, Result, Ok, Err, refl, sym, ap, ◌∙◌, subst, inl, inr}
use Rattle.std.specs.Prelude.{IfSome, is_some, unwrap_or}
use Rattle.std.specs.Option.{option_map}
use Rattle.std.specs.Result.{is_ok}
use Rattle.mc_base.specs.Causes.{Rose}
use Rattle.mc_base.specs.Told.{Told}
use Rattle.mc_base.specs.declared.cid.Cid.{Cid}
use Rattle.mc_base.specs.declared.counted.Counted as counted
use Rattle.mc_base.proofs.Telling.{told_weaker}
use Rattle.mc_core.specs.Calls.{Call, Faults}
use Rattle.mc_core.specs.Counted.{run_of}
use Rattle.mc_core.specs.Events.{ReplicaState, state_of, Goes}
use Rattle.mc_core.specs.Exact.{DecidesAlone, RestSame, seen_of, stop_front}
use Rattle.mc_core.specs.Jobs.{NextEvents, NextShort, NextWants, first_waiting}
use Rattle.mc_core.specs.Reads.{read_refusal}
use Rattle.mc_core.specs.Refusals.{Is, kind_of}
use Rattle.mc_core.specs.Replica.{running_of}
use Rattle.mc_core.specs.Words.{Acts, Continues, StillTells}
use Rattle.mc_core.specs.declared.CoreError.{CoreError}
use Rattle.mc_core.specs.declared.CoreError.TheVariants as core
use Rattle.mc_core.specs.declared.replica.Replica.{Replica}
use Rattle.mc_core.proofs.CallFacts.{nothing_done}
use Rattle.mc_fetch.specs.declared.job.Job.{Job}
use Rattle.mc_fetch.specs.declared.plants.Planted.{Planted}
use Rattle.mc_fetch.specs.Offers.{HasDigest}
use Rattle.mc_keep.specs.Calls.{Members}
use Rattle.mc_keep.specs.Causes.{has_fired, is_fault_kind}
use Rattle.mc_keep.specs.declared.fuse.Fuse.{Fuse}
use Rattle.mc_keep.specs.declared.keeper.Keeper as keeper
use Rattle.mc_model.specs.Draining.{queue_in}
use Rattle.mc_model.specs.Events.{Event}
use Rattle.mc_model.specs.Kept.{Kept, bytes_at}
use Rattle.mc_model.specs.State.{Running, kept_of}
use Rattle.mc_model.specs.Wanted.{no_queue, start_first}
use Rattle.mc_script.specs.declared.command.Command.TheVariants.{Step}
use Rattle.mc_script.specs.declared.reply.Reply.{Reply}
use Rattle.mc_script.specs.declared.reply.Reply.TheVariants.{Idle, Stopped}
use Rattle.mc_seats.specs.declared.error.ActError.{ActError}
use Rattle.mc_seats.specs.declared.error.ActError.TheVariants.{BadLine, Memory}
use Rattle.mc_seats.specs.Effects.{CallRefused, answer_of, Happens, Leaves, EventsOf, RunOn, SameBatch}
use Rattle.mc_seats.specs.Step.{StillRuns}
use Rattle.mc_seats.specs.StepParts.{BeginsAt, begun_of, up}
use Rattle.mc_seats.specs.declared.seat.Held.{Held}
use Rattle.mc_seats.specs.declared.seat.Held.TheVariants.{Up, Down}
use Rattle.mc_seats.specs.declared.seat.Idle.{Idle as IdleOf}
use Rattle.mc_seats.specs.declared.seat.Seat.{Seat}
use Rattle.mc_seats.specs.Keepers.{keeper_in, keeper_of}
use Rattle.mc_seats.specs.Words.{place}
use Rattle.mc_seats.specs.Worlds.{Place, WorldState, is_down, place_with, state_at}
use Rattle.mc_seats.proofs.CallFacts.{no_other}
use Rattle.mc_seats.proofs.GoesFacts.{keeper_goes, keeper_still}
pub use Rattle.mc_seats.proofs.MemberWords.{members}

pub never : {P : Type 0} → true ≡ false → P
never e = absurd (true≢false e)

-- what is answered is no error, and want of memory is no bad line

pub is_no_error : {T E P : Type 0} {value : T} {error : E} → ◌≡◌ {A = Result T E} (Ok value) (Err error) → P
is_no_error e = never (ap is_ok e)

is_bad : {T : Type 0} → Result T ActError → Bool
is_bad (Ok value) = false
is_bad (Err BadLine) = true
is_bad (Err Memory) = false

pub short_is_not_bad : {T P : Type 0} → ◌≡◌ {A = Result T ActError} (Err Memory) (Err BadLine) → P
unfolding is_bad
short_is_not_bad e = never (sym (ap is_bad e))

-- whether a replica runs

pub front_runs : (stop : Bool) → None ≡ stop_front stop None → stop ≡ false
front_runs true e = never (sym (ap is_some e))
front_runs false e = refl

front_stops : (stop : Bool) → Some core.Stopped ≡ stop_front stop None → stop ≡ true
front_stops true e = refl
front_stops false e = never (ap is_some e)

pub down_of : (stop : Bool) (run : Running) → is_down (run_of stop run) ≡ stop
down_of true run = refl
down_of false run = refl

-- a state in which only these blocks wait
abbrev pub waits : List Cid → ReplicaState
waits waiting = record {
  state = record {
    durable = record { graph = []; order = []; mark = false };
    run = Some (record { queue = record no_queue { waiting = waiting }; walk = None; batch = None; whole = true });
  };
  fuse = None;
}

pub front_waits : (waiting : List Cid) (cid : Cid) → Some cid ≡ first_waiting (waits waiting) → (rest : List Cid) × (waiting ≡ cid ∷ rest)
front_waits [] cid e = never (ap is_some e)
front_waits (c ∷ rest) cid e = (rest, ap (λ x. x ∷ rest) (sym (ap (λ o. unwrap_or o c) e)))

none_waits : (waiting : List Cid) → None ≡ first_waiting (waits waiting) → waiting ≡ []
none_waits [] e = refl
none_waits (c ∷ rest) e = never (sym (ap is_some e))

-- nothing refuses a step of a replica that runs, and one that doesn't is refused

pub allowed_at : (w : WorldState) (content : Option Kept) (fuse : Option Fuse) (run : Option Running) (planted : List Planted) (r : ℕ) → is_down run ≡ false
    → CallRefused w (record { content = content; fuse = fuse; run = run; planted = planted }) (Step r) None
allowed_at w None fuse run planted r is = (ap (λ b. stop_front b None) is, tt)
allowed_at w (Some kept) fuse None planted r is = never is
allowed_at w (Some kept) fuse (Some run) planted r is = (refl, refl)

refused_at : (w : WorldState) (content : Option Kept) (fuse : Option Fuse) (run : Option Running) (planted : List Planted) (r : ℕ) → is_down run ≡ true
    → CallRefused w (record { content = content; fuse = fuse; run = run; planted = planted }) (Step r) (Some Stopped)
refused_at w content fuse (Some run) planted r is = never (sym is)
refused_at w None fuse None planted r is = (core.Stopped, refl, tt, refl, λ is. refl)
refused_at w (Some kept) fuse None planted r is = (core.Stopped, refl, refl, refl, λ is. refl)

-- what runs on

pub runs_still : (stop stop2 : Bool) (run run2 : Running) → stop2 ≡ stop → run2.walk ≡ run.walk → run2.whole ≡ run.whole → run2.batch ≡ run.batch → StillRuns (run_of stop run) (run_of stop2 run2)
runs_still true stop2 run run2 is walk whole batch = ap (λ b. run_of b run2) is
runs_still false stop2 run run2 is walk whole batch = subst (λ b. RunOn SameBatch (Some run) (run_of b run2)) (sym is) (walk, whole, batch)

pub runs_same : (stop stop2 : Bool) (run run2 : Running) → stop ≡ false → stop2 ≡ stop → run2.walk ≡ run.walk → run2.whole ≡ run.whole → run2.batch ≡ run.batch → RunOn SameBatch (run_of stop run) (run_of stop2 run2)
runs_same true stop2 run run2 up is walk whole batch = never up
runs_same false stop2 run run2 up is walk whole batch = subst (λ b. RunOn SameBatch (Some run) (run_of b run2)) (sym is) (walk, whole, batch)

-- a fault before any event
pub cut_before : (P : ReplicaState → List Event → Reply → Type 0) (own : Type 0) (content content2 : Option Kept) (fuse fuse2 : Option Fuse) (run run2 : Option Running) → content2 ≡ content → fuse2 ≡ fuse → run2 ≡ None → own
    → Told (state_of content fuse run) (state_of content2 fuse2 run2) (λ s new. Faults (P s) own s new)
cut_before P own content content2 fuse fuse2 run run2 c f d rose =
    subst (λ x. Told (state_of content fuse run) (state_of x fuse2 run2) (λ s new. Faults (P s) own s new)) (sym c)
    (subst (λ x. Told (state_of content fuse run) (state_of content x run2) (λ s new. Faults (P s) own s new)) (sym f)
    (subst (λ x. Told (state_of content fuse run) (state_of content fuse x) (λ s new. Faults (P s) own s new)) (sym d) (over content)))
  where
    over : (content : Option Kept) → Told (state_of content fuse run) (state_of content fuse None) (λ s new. Faults (P s) own s new)
    over None = tt
    over (Some kept) = nothing_done (P (record { state = record { durable = _; run = run }; fuse = fuse })) own _ rose

pub unfired : (fuse : Option Fuse) → has_fired fuse fuse ≡ false
unfired None = refl
unfired (Some fuse) = refl

-- what a call on a job is answered that did not come to its end
abbrev pub broken : Result Reply ActError → Result (Result Job Reply) ActError
broken (Ok reply) = Ok (Err reply)
broken (Err error) = Err error

job_stored : (rose : Type 0) (job : Job) (x y : Option ReplicaState) → Told x y (λ s after. Call (Is (read_refusal s)) (NextEvents s) (NextShort s) rose (Ok (Some job)) s after)
    → IfSome x (λ s. job.own ≡ bytes_at (kept_of s.state.durable).graph job.cid)
job_stored rose job None y call = tt
job_stored rose job (Some s) None call = absurd call
job_stored rose job (Some s) (Some after) call = call.makes.1

idle_happens : (w : WorldState) (r : ℕ) (rose : Type 0) (p q : Place) → Told (state_at p) (state_at q) (λ s after. Call (Is (read_refusal s)) (NextEvents s) (NextShort s) rose (Ok None) s after) → Happens w (Step r) p q Idle
idle_happens w r rose p q call = told_weaker (λ s after. Call (Is (read_refusal s)) (NextEvents s) (NextShort s) rose (Ok None) s after) (λ s after. (events : List Event) × EventsOf w s (Step r) events Idle × Goes events s after)
    (λ s after does. (does.events, does.makes, does.goes)) (state_at p) (state_at q) call

module _ {K D : Type 0} {g : keeper.Ghosts K D} {h : counted.Ghosts K} {i : counted.Ghosts D} (k : Members K D) (planted : List Planted) (old new : Replica K D g h i) where
  abbrev Calls : Result (Option Job) CoreError → Type 0
  Calls result = Acts k (λ s. Is (read_refusal s)) NextEvents NextShort result old new

  abbrev Ends : Result (Result Job Reply) ActError → Type 0
  Ends result = BeginsAt k result (up k planted old) (up k planted new) old.keeper new.keeper

  same_place : StillTells k old new → new.stopped ≡ old.stopped → (running_of new).queue ≡ (running_of old).queue → RestSame old new → up k planted new ≡ up k planted old
  same_place tells stops wants rest = λ i. record {
    content = tells.told_same i;
    fuse = tells.fuse_same i;
    run = run_of (stops i) (record { queue = wants i; walk = rest.walk_same i; batch = rest.batch_same i; whole = rest.whole_same i });
    planted = planted;
  }

  begins_job : (job : Job) → Calls (Ok (Some job)) → Continues k false old new → None ≡ stop_front old.stopped None → RestSame old new → StillTells k old new
      → Some job.cid ≡ first_waiting (waits (running_of old).queue.waiting) → IfSome job.own (HasDigest job.cid) → (running_of new).queue ≡ start_first (running_of old).queue (running_of old).queue.waiting
      → Ends (Ok (Ok job))
  begins_job job call keeps front rest tells first digest wants =
      let up_now = front_runs old.stopped front in
      let waiting = front_waits (running_of old).queue.waiting job.cid first in
      record {
        begins = (
          record {
            begun = record {
              run = running_of old;
              runs = ap (λ b. run_of b (running_of old)) up_now;
              rest = waiting.0;
              waits = waiting.1;
              after = λ i. record {
                content = tells.told_same i;
                fuse = tells.fuse_same i;
                run = (ap (λ b. run_of b (running_of new)) (keeps.stops ∙ up_now) ∙ (λ j. Some (record { queue = wants j; walk = rest.walk_same j; batch = rest.batch_same j; whole = rest.whole_same j }))) i;
                planted = planted;
              };
            };
            stored = job_stored (Rose (k.own old.keeper) (k.own new.keeper)) job _ _ call;
            digest = digest;
          },
          record { own_same = keeps.keeper_goes.own_still refl; faults_same = keeps.keeper_goes.faults_go.still refl },
        );
        early = λ w r. tt;
        short = λ r e. is_no_error e;
        not_bad = λ e. is_no_error e;
        goes = keeper_goes keeps.keeper_goes;
      }

  begins_none : Calls (Ok None) → Continues k false old new → None ≡ stop_front old.stopped None → RestSame old new → StillTells k old new → None ≡ first_waiting (waits (running_of old).queue.waiting)
      → Ends (Ok (Err Idle))
  begins_none call keeps front rest tells first =
      let up_now = front_runs old.stopped front in
      record {
        begins = tt;
        early = λ w r. inl (inr (
          allowed_at w (k.told old.keeper) (k.fuse old.keeper) (run_of old.stopped (running_of old)) planted r (down_of old.stopped (running_of old) ∙ up_now),
          (
            (
              record {
                run_on = runs_same old.stopped new.stopped (running_of old) (running_of new) up_now keeps.stops rest.walk_same rest.whole_same rest.batch_same;
                silent = λ e. tells.told_same ∙ e;
                planted_same = refl;
              },
              subst (λ b. (queue_in (run_of b (running_of old))).waiting ≡ []) (sym up_now) (none_waits (running_of old).queue.waiting first),
            ),
            idle_happens w r (Rose (k.own old.keeper) (k.own new.keeper)) (up k planted old) (up k planted new) call,
          ),
        ));
        short = λ r e. is_no_error e;
        not_bad = λ e. is_no_error e;
        goes = keeper_goes keeps.keeper_goes;
      }

  -- a job, or none
  pub begins_next : (next : Option Job) (said : Result Job Reply) → said ≡ begun_of next → Calls (Ok next) → Continues k false old new → None ≡ stop_front old.stopped None → RestSame old new → StillTells k old new
      → option_map (λ (job : Job). job.cid) next ≡ first_waiting (waits (running_of old).queue.waiting) → IfSome next (λ (job : Job). IfSome job.own (HasDigest job.cid))
      → (running_of new).queue ≡ start_first (running_of old).queue (running_of old).queue.waiting → Ends (Ok said)
  begins_next next said is call keeps front rest tells first digest wants = subst (λ (said : Result Job Reply). Ends (Ok said)) (sym is) (by_next next call first digest)
    where
      by_next : (next : Option Job) → Calls (Ok next) → option_map (λ (job : Job). job.cid) next ≡ first_waiting (waits (running_of old).queue.waiting) → IfSome next (λ (job : Job). IfSome job.own (HasDigest job.cid)) → Ends (Ok (begun_of next))
      by_next None call first digest = begins_none call keeps front rest tells first
      by_next (Some job) call first digest = begins_job job call keeps front rest tells first digest wants

  -- the call failed, or was refused, or memory was wanted
  begins_not : (error : CoreError) → Calls (Err error) → Continues k (is_fault_kind (kind_of error)) old new → DecidesAlone error → seen_of error ≡ stop_front old.stopped None → RestSame old new → StillTells k old new
      → NextWants {T = Option Job} (Err error) (running_of old).queue (running_of new).queue → Ends (broken (answer_of error))
  begins_not core.KeeperFault call keeps alone front rest tells wants = record {
    begins = tt;
    early = λ w r. inr (
      refl,
      keeps.keeper_goes.faults_go.rose refl,
      (ap (λ b. stop_front b None) (down_of old.stopped (running_of old)) ∙ sym front),
      refl,
      record {
        down = ap (λ b. run_of b (running_of new)) keeps.stops;
        silent = λ e. tells.told_same ∙ e;
        planted_same = refl;
        why = inr rose;
        told = cut_before (λ s events reply. EventsOf w s (Step r) events reply) (Rose (k.own old.keeper) (k.own new.keeper)) (k.told old.keeper) (k.told new.keeper) (k.fuse old.keeper) (k.fuse new.keeper)
            (run_of old.stopped (running_of old)) (run_of new.stopped (running_of new)) tells.told_same tells.fuse_same (ap (λ b. run_of b (running_of new)) keeps.stops) rose;
      },
    );
    short = λ r e. is_no_error e;
    not_bad = λ e. is_no_error e;
    goes = keeper_goes keeps.keeper_goes;
  }
    where
      rose : Rose (k.own old.keeper) (k.own new.keeper)
      rose = keeps.keeper_goes.own_rose (ap (λ f. has_fired (k.fuse old.keeper) f) tells.fuse_same ∙ unfired (k.fuse old.keeper)) refl
  begins_not core.Stopped call keeps alone front rest tells wants = record {
    begins = tt;
    early = λ w r. inl (inl (
      refused_at w (k.told old.keeper) (k.fuse old.keeper) (run_of old.stopped (running_of old)) planted r (down_of old.stopped (running_of old) ∙ front_stops old.stopped front),
      same_place tells keeps.stops wants rest,
    ));
    short = λ r e. is_no_error e;
    not_bad = λ e. is_no_error e;
    goes = keeper_goes keeps.keeper_goes;
  }
  begins_not core.Memory call keeps alone front rest tells wants = record {
    begins = tt;
    early = λ w r. tt;
    short = λ r e. record {
      runs = runs_still old.stopped new.stopped (running_of old) (running_of new) keeps.stops rest.walk_same rest.whole_same rest.batch_same;
      silent = λ e. tells.told_same ∙ e;
      planted_same = refl;
      told = told_weaker NextShort (Leaves (Step r)) (λ s after left. inr left) (state_at (up k planted old)) (state_at (up k planted new)) call;
    };
    not_bad = λ e. short_is_not_bad e;
    goes = keeper_goes keeps.keeper_goes;
  }
  begins_not error call keeps alone front rest tells wants = no_other error old.stopped refl alone front

  pub begins_broke : (error : CoreError) (said : Result Reply ActError) → said ≡ answer_of error → Calls (Err error) → Continues k (is_fault_kind (kind_of error)) old new → DecidesAlone error → seen_of error ≡ stop_front old.stopped None → RestSame old new
      → StillTells k old new → NextWants {T = Option Job} (Err error) (running_of old).queue (running_of new).queue → Ends (broken said)
  begins_broke error said is call keeps alone front rest tells wants = subst (λ (said : Result Reply ActError). Ends (broken said)) (sym is) (begins_not error call keeps alone front rest tells wants)

-- a replica that is stopped
pub begins_down : {K D : Type 0} (k : Members K D) (p : Place) (x : K) → p.run ≡ None → BeginsAt k (Ok (Err Stopped)) p p x x
begins_down k p x is = record {
  begins = tt;
  early = λ w r. inl (inl (refused_at w p.content p.fuse p.run p.planted r (ap is_down is), refl));
  short = λ r e. is_no_error e;
  not_bad = λ e. is_no_error e;
  goes = keeper_still x;
}

-- what holds of a replica holds of it in its seat
pub held_up : {K D : Type 0} {g : keeper.Ghosts K D} {h : counted.Ghosts K} {i : counted.Ghosts D} (k : Members K D) (P : Place → K → Type 0) (seat : Seat K D g h i) (replica : Replica K D g h i) → seat.held ≡ Up replica
    → P (up k seat.planted replica) replica.keeper → P (place k seat) (keeper_of seat)
held_up {K = K} {D = D} {g = g} {h = h} {i = i} k P seat replica is holds = subst (λ (held : Held K D g h i). P (place_with k.told k.fuse seat.planted held) (keeper_in held)) (sym is) holds

-- one that is at rest doesn't run
pub down_is : {K D : Type 0} {g : keeper.Ghosts K D} {h : counted.Ghosts K} {i : counted.Ghosts D} (k : Members K D) (seat : Seat K D g h i) (idle : IdleOf K D g h i) → seat.held ≡ Down idle → (place k seat).run ≡ None
down_is {K = K} {D = D} {g = g} {h = h} {i = i} k seat idle is = ap (λ (held : Held K D g h i). (place_with k.told k.fuse seat.planted held).run) is
