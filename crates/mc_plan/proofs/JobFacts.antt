-- Jobs that begin, are given back, or are delivered.
use Rattle.std.proofs.Common.{◌≡◌, ◌≢◌, ℕ, Bool, true, false, not, cond, ◌||◌, ◌&&◌, List, [], ◌∷◌, ◌++◌, length, filter, Option, Some, None, Result, Ok, Err, refl, sym, ◌∙◌, ap, subst, inl, inr}
use Rattle.std.specs.Prelude.{IfSome, is_some, find, unwrap_or}
use Rattle.std.specs.List.{list_all}
use Rattle.std.specs.Option.{option_map}
use Rattle.std.specs.Result.{is_ok}
use Rattle.std.specs.Str.{bytes_eq}
use Rattle.std.proofs.lemmas.Bool.{and_parts, or_right}
use Rattle.std.proofs.lemmas.Slice.Eq.{bytes_eq-Decides}
use Rattle.mc_base.specs.Cid.{digest_of}
use Rattle.mc_base.specs.Told.{Told}
use Rattle.mc_base.specs.declared.cid.Cid.{Cid}
use Rattle.mc_model.specs.declared.block.Stored.{Stored}
use Rattle.mc_model.specs.Draining.{all_given_back}
use Rattle.mc_model.specs.Events.{Event, Want, GiveBack, Missing, Bad, Requeue, MayComeAll, after}
use Rattle.mc_model.specs.Front.{same_cid}
use Rattle.mc_model.specs.Graph.{has}
use Rattle.mc_model.specs.Kept.{Kept, IsKept, bytes_at, is_stored}
use Rattle.mc_model.specs.Offer.{is_good}
use Rattle.mc_model.specs.State.{Durable, Running, IsSound, durable_of, kept_of}
use Rattle.mc_model.specs.Wanted.{Queue, IsOnce, start_first, give_back, to_missing, to_bad, requeue, recall}
use Rattle.mc_model.proofs.Counts.{cid_is, cid_itself, has-append}
use Rattle.mc_model.proofs.Found.{good_digest}
use Rattle.mc_keep.specs.declared.fuse.Fuse.{Fuse}
use Rattle.mc_queue.specs.Parts.{first_of}
use Rattle.mc_fetch.specs.Offers.{HasDigest}
use Rattle.mc_fetch.specs.declared.job.Job.{Job}
use Rattle.mc_plan.specs.declared.error.CoreError.{CoreError}
use Rattle.mc_plan.specs.declared.error.CoreError.TheVariants.{Memory}
use Rattle.mc_plan.specs.Calls.{Call, Faults, IsRefused}
use Rattle.mc_plan.specs.Reads.{read_refusal}
use Rattle.mc_plan.specs.Refusals.{ByKind, Is, kind_of}
use Rattle.mc_keep.specs.Causes.{Kind, Refusal as Refused, Fault, Shortage}
use Rattle.mc_plan.specs.Counted.{AreSound, run_of}
use Rattle.mc_plan.specs.Events.{ReplicaState, state_of, goes_on, all_happen, MayHappen, Goes, HappensIn}
use Rattle.mc_plan.specs.Jobs.{NextEvents, NextShort, NextWants, tried_first}
use Rattle.mc_plan.proofs.CallFacts.{at}
use Rattle.mc_plan.proofs.EventFacts.{goes_nowhere, goes_then}
use Rattle.mc_plan.proofs.SoundFacts.{breaks_sound, goes_sound, goes_told, told_sound}
use Rattle.mc_plan.proofs.RefusalFacts.{told_always}

-- what becomes of a replica that runs, after calls that leave what its keeper tells
pub becomes : (P : ReplicaState → ReplicaState → Type 0) (told told_new : Option Kept) (fuse fuse_new : Option Fuse) (stop stop_new : Bool) (run run_new : Running) → stop ≡ false → told_new ≡ told → fuse_new ≡ fuse
    → IfSome told (λ kept. P (at kept fuse (Some run)) (at kept fuse (run_of stop_new run_new))) → Told (state_of told fuse (run_of stop run)) (state_of told_new fuse_new (run_of stop_new run_new)) P
becomes P None told_new fuse fuse_new stop stop_new run run_new up e f is = tt
becomes P (Some kept) told_new fuse fuse_new stop stop_new run run_new up e f is =
    subst (λ t. Told (state_of (Some kept) fuse (run_of stop run)) (state_of t fuse_new (run_of stop_new run_new)) P) (sym e)
    (subst (λ x. P (at kept fuse (run_of stop run)) (at kept x (run_of stop_new run_new))) (sym f)
    (subst (λ b. P (at kept fuse (run_of b run)) (at kept fuse (run_of stop_new run_new))) (sym up) is))

pub told_with : {P Q : Kept → Type 0} (told : Option Kept) → IfSome told P → ((kept : Kept) → P kept → Q kept) → IfSome told Q
told_with None p f = tt
told_with (Some kept) p f = f kept p

pub told_both : {P Q R : Kept → Type 0} (told : Option Kept) → IfSome told P → IfSome told Q → ((kept : Kept) → P kept → Q kept → R kept) → IfSome told R
told_both None p q f = tt
told_both (Some kept) p q f = f kept p q

-- only the wanted set changes
abbrev pub with_queue : Running → Queue → Running
with_queue run q = record run { queue = q }

pub want_goes : (kept : Kept) (fuse : Option Fuse) (run : Running) → run.queue.waiting ≢ [] → Goes (Want ∷ []) (at kept fuse (Some run)) (at kept fuse (Some (with_queue run (start_first run.queue run.queue.waiting))))
want_goes kept fuse run some = record { may = (some, refl, tt); ends = refl }

pub back_goes : (kept : Kept) (fuse : Option Fuse) (run : Running) (c : Cid) → has c run.queue.flight ≡ true → Goes (GiveBack c ∷ []) (at kept fuse (Some run)) (at kept fuse (Some (with_queue run (give_back run.queue c))))
back_goes kept fuse run c there = record { may = (there, refl, tt); ends = refl }

pub missing_goes : (kept : Kept) (fuse : Option Fuse) (run : Running) (c : Cid) → has c run.queue.flight ≡ true → Goes (Missing c ∷ []) (at kept fuse (Some run)) (at kept fuse (Some (with_queue run (to_missing run.queue c))))
missing_goes kept fuse run c there = record { may = (there, refl, tt); ends = refl }

pub bad_goes : (kept : Kept) (fuse : Option Fuse) (run : Running) (c : Cid) (damage : ℕ) → has c run.queue.flight ≡ true → Goes (Bad c damage ∷ []) (at kept fuse (Some run)) (at kept fuse (Some (with_queue run (to_bad run.queue c damage))))
bad_goes kept fuse run c damage there = record { may = (there, refl, tt); ends = refl }

pub requeue_goes : (kept : Kept) (fuse : Option Fuse) (run : Running) → Goes (Requeue ∷ []) (at kept fuse (Some run)) (at kept fuse (Some (with_queue run (requeue run.queue))))
requeue_goes kept fuse run = record { may = (tt, refl, tt); ends = refl }

-- stored bytes are good

pub stored_good : (graph : List Stored) (cid : Cid) (bytes : List ℕ) → list_all (λ (stored : Stored). is_good stored.cid stored.bytes) graph ≡ true → bytes_at graph cid ≡ Some bytes → is_good cid bytes ≡ true
stored_good [] cid bytes all e = absurd (let no : false ≡ true = ap is_some e in cc)
stored_good (s ∷ graph) cid bytes all e =
    let parts = and_parts (is_good s.cid s.bytes) (list_all (λ (stored : Stored). is_good stored.cid stored.bytes) graph) all in
    elim (same_cid cid s.cid) as (λ t. same_cid cid s.cid ≡ t → option_map (λ (stored : Stored). stored.bytes) (cond t (Some s) (find (λ (stored : Stored). same_cid cid stored.cid) graph)) ≡ Some bytes → is_good cid bytes ≡ true) [
      | true ↦ λ same h. subst (λ b. is_good cid b ≡ true) (ap (λ o. unwrap_or o bytes) h) (subst (λ c. is_good c s.bytes ≡ true) (sym (cid_is cid s.cid same)) parts.0)
      | false ↦ λ same h. stored_good graph cid bytes parts.1 h
    ] refl e

pub stored_digest : (kept : Kept) (cid : Cid) (bytes : List ℕ) → IsKept kept → bytes_at kept.graph cid ≡ Some bytes → digest_of bytes ≡ cid.0
stored_digest kept cid bytes sound e = (bytes_eq-Decides (digest_of bytes) cid.0).0 (good_digest cid bytes (stored_good kept.graph cid bytes sound.good e))

-- calls that can't fail

abbrev Happens : (Running → List Event) → ReplicaState → ReplicaState → Type 0
Happens events s new = HappensIn s.state.run events s new

-- what is told of it stays sound
happens_keeps : (events : Running → List Event) (s new : ReplicaState) → Happens events s new → IsSound s.state → IsSound new.state
happens_keeps events s new happens sound = over s.state.run happens
  where
    over : (run : Option Running) → HappensIn run events s new → IsSound new.state
    over None same = subst (λ (x : ReplicaState). IsSound x.state) (sym same) sound
    over (Some run) goes = goes_sound (events run) s new goes sound

pub happens_sound : (events : Running → List Event) (told : Option Kept) (fuse : Option Fuse) (stop : Bool) (run run_new : Running)
    → Told (state_of told fuse (run_of stop run)) (state_of told fuse (run_of stop run_new)) (λ s new. HappensIn s.state.run events s new) → AreSound stop told run → AreSound stop told run_new
happens_sound events told fuse stop run run_new happens sound = told_sound (Happens events) told told fuse fuse stop stop run run_new (happens_keeps events) (λ none. none) happens sound

-- only the wanted set changes, where the replica runs
queue_told : (events : Running → List Event) (told : Option Kept) (fuse : Option Fuse) (stop : Bool) (run : Running) (q : Queue)
    → ((kept : Kept) → told ≡ Some kept → stop ≡ false → Goes (events run) (at kept fuse (Some run)) (at kept fuse (Some (with_queue run q))))
    → Told (state_of told fuse (run_of stop run)) (state_of told fuse (run_of stop (with_queue run q))) (λ s new. HappensIn s.state.run events s new)
queue_told events None fuse stop run q goes = tt
queue_told events (Some kept) fuse true run q goes = refl
queue_told events (Some kept) fuse false run q goes = goes kept refl refl

pub give_told : (told : Option Kept) (fuse : Option Fuse) (stop : Bool) (run : Running) (cid : Cid) (q : Queue) → q ≡ cond (has cid run.queue.flight) (give_back run.queue cid) run.queue
    → Told (state_of told fuse (run_of stop run)) (state_of told fuse (run_of stop (with_queue run q))) (λ s new. HappensIn s.state.run (λ run. cond (has cid run.queue.flight) (GiveBack cid ∷ []) []) s new)
give_told told fuse stop run cid q is =
    queue_told (λ run. cond (has cid run.queue.flight) (GiveBack cid ∷ []) []) told fuse stop run q (λ kept e up.
    subst (λ r. Goes (cond (has cid run.queue.flight) (GiveBack cid ∷ []) []) (at kept fuse (Some run)) (at kept fuse (Some (with_queue run r)))) (sym is) (goes kept (has cid run.queue.flight) refl))
  where
    goes : (kept : Kept) (t : Bool) → has cid run.queue.flight ≡ t → Goes (cond t (GiveBack cid ∷ []) []) (at kept fuse (Some run)) (at kept fuse (Some (with_queue run (cond t (give_back run.queue cid) run.queue))))
    goes kept true there = back_goes kept fuse run cid there
    goes kept false out = goes_nowhere (at kept fuse (Some run))

pub requeue_told : (told : Option Kept) (fuse : Option Fuse) (stop : Bool) (run : Running) (q : Queue) → q ≡ requeue run.queue
    → Told (state_of told fuse (run_of stop run)) (state_of told fuse (run_of stop (with_queue run q))) (λ s new. HappensIn s.state.run (λ run. Requeue ∷ []) s new)
requeue_told told fuse stop run q is =
    queue_told (λ run. Requeue ∷ []) told fuse stop run q (λ kept e up. subst (λ r. Goes (Requeue ∷ []) (at kept fuse (Some run)) (at kept fuse (Some (with_queue run r)))) (sym is) (requeue_goes kept fuse run))

-- a list of blocks given back
may_back : (cids : List Cid) (s : ReplicaState) → MayComeAll s.state (all_given_back cids) → MayHappen s (all_given_back cids)
may_back [] s p = tt
may_back (c ∷ cids) s p = (p.0, refl, may_back cids (goes_on s (GiveBack c)) p.1)

back_ends : (cids : List Cid) (s : ReplicaState) → all_happen s (all_given_back cids) ≡ record { state = after s.state (all_given_back cids); fuse = s.fuse }
back_ends [] s = refl
back_ends (c ∷ cids) s = back_ends cids (goes_on s (GiveBack c))

pub recall_told : ((durable : Durable) (run : Running) → IsOnce durable.order run.queue → MayComeAll (record { durable = durable; run = Some run }) (all_given_back run.queue.flight))
    → ((durable : Durable) (run : Running) → IsOnce durable.order run.queue → after (record { durable = durable; run = Some run }) (all_given_back run.queue.flight) ≡ record { durable = durable; run = Some (record run { queue = recall run.queue }) })
    → (told : Option Kept) (fuse : Option Fuse) (stop : Bool) (run : Running) (q : Queue) → AreSound stop told run → q ≡ recall run.queue
    → Told (state_of told fuse (run_of stop run)) (state_of told fuse (run_of stop (with_queue run q))) (λ s new. HappensIn s.state.run (λ run. all_given_back run.queue.flight) s new)
recall_told may_law is_law told fuse stop run q sound is =
    queue_told (λ run. all_given_back run.queue.flight) told fuse stop run q (λ kept e up.
    let once : IsOnce kept.order run.queue = sound.once kept e up in
    subst (λ r. Goes (all_given_back run.queue.flight) (at kept fuse (Some run)) (at kept fuse (Some (with_queue run r)))) (sym is)
    (record {
      may = may_back run.queue.flight (at kept fuse (Some run)) (may_law (durable_of kept) run once);
      ends = ap (λ state. record { state = state; fuse = fuse }) (sym (is_law (durable_of kept) run once)) ∙ sym (back_ends run.queue.flight (at kept fuse (Some run)));
    }))

-- a job that begins

some_waits : (q : Queue) (c : Cid) → first_of q.waiting ≡ Some c → q.waiting ≢ []
some_waits q c e none = absurd (let no : false ≡ true = ap is_some (sym (ap first_of none) ∙ e) in cc)

pub own_told : (told : Option Kept) (stored own : Option (List ℕ)) (cid : Cid) → IfSome told IsKept → IfSome told (λ kept. stored ≡ bytes_at kept.graph cid) → (IfSome stored (HasDigest cid) → own ≡ stored)
    → IfSome told (λ kept. own ≡ bytes_at kept.graph cid)
own_told None stored own cid sound row keeps = tt
own_told (Some kept) stored own cid sound row keeps = keeps (digest stored row) ∙ row
  where
    digest : (stored : Option (List ℕ)) → stored ≡ bytes_at kept.graph cid → IfSome stored (HasDigest cid)
    digest None row = tt
    digest (Some bytes) row = stored_digest kept cid bytes sound (sym row)

-- a call that begins a job
abbrev NextCalls : Type 0 → Result (Option Job) CoreError → ReplicaState → ReplicaState → Type 0
NextCalls rose result s new = Call (Is (read_refusal s)) (NextEvents s) (NextShort s) rose result s new

pub begin_call : (back : (kept : Kept) → kept_of (durable_of kept) ≡ kept) (told told_new : Option Kept) (fuse fuse_new : Option Fuse) (stop : Bool) (run : Running) (q : Queue) (cid : Cid) (own : Option (List ℕ)) (rose : Type 0)
    → stop ≡ false → told_new ≡ told → fuse_new ≡ fuse → first_of run.queue.waiting ≡ Some cid → q ≡ start_first run.queue run.queue.waiting → IfSome told (λ kept. own ≡ bytes_at kept.graph cid)
    → Told (state_of told fuse (run_of stop run)) (state_of told_new fuse_new (run_of stop (with_queue run q))) (NextCalls rose (Ok (Some (record { cid = cid; own = own }))))
begin_call back told told_new fuse fuse_new stop run q cid own rose up e f first is row =
    subst (λ b. Told (state_of told fuse (run_of stop run)) (state_of told_new fuse_new (run_of b (with_queue run q))) (NextCalls rose (Ok (Some (record { cid = cid; own = own }))))) (sym up)
    (becomes (NextCalls rose (Ok (Some (record { cid = cid; own = own })))) told told_new fuse fuse_new stop false run (with_queue run q) up e f (told_with told row (λ kept at_row. record {
      allowed = refl;
      events = Want ∷ [];
      makes = (first, at_row ∙ ap (λ (k : Kept). bytes_at k.graph cid) (sym (back kept)), refl);
      goes = subst (λ r. Goes (Want ∷ []) (at kept fuse (Some run)) (at kept fuse (Some (with_queue run r)))) (sym is) (want_goes kept fuse run (some_waits run.queue cid first));
    })))

pub begin_sound : (told told_new : Option Kept) (fuse : Option Fuse) (stop : Bool) (run : Running) (q : Queue) (cid : Cid) → stop ≡ false → told_new ≡ told → first_of run.queue.waiting ≡ Some cid → q ≡ start_first run.queue run.queue.waiting
    → AreSound stop told run → AreSound stop told_new (with_queue run q)
begin_sound told told_new fuse stop run q cid up e first is sound =
    goes_told (Want ∷ []) told told_new fuse fuse stop stop run (with_queue run q) (λ none. e ∙ none)
    (subst (λ b. Told (state_of told fuse (run_of stop run)) (state_of told_new fuse (run_of b (with_queue run q))) (Goes (Want ∷ []))) (sym up)
    (becomes (Goes (Want ∷ [])) told told_new fuse fuse stop false run (with_queue run q) up e refl (told_always told _ (λ kept.
    subst (λ r. Goes (Want ∷ []) (at kept fuse (Some run)) (at kept fuse (Some (with_queue run r)))) (sym is) (want_goes kept fuse run (some_waits run.queue cid first))))))
    sound

-- the block of a job that has begun is in flight
started_there : (q : Queue) (waiting : List Cid) (c : Cid) → first_of waiting ≡ Some c → has c (start_first q waiting).flight ≡ true
started_there q [] c e = absurd (let no : false ≡ true = ap is_some e in cc)
started_there q (d ∷ rest) c e =
    has-append c q.flight (d ∷ []) ∙ or_right (has c q.flight) _ (ap (λ t. t || false) (ap (same_cid c) (ap (λ o. unwrap_or o c) e) ∙ cid_itself c))

retried : (q : Queue) (c : Cid) (then : Queue) → first_of q.waiting ≡ Some c → then ≡ cond (has c (start_first q q.waiting).flight) (give_back (start_first q q.waiting) c) (start_first q q.waiting)
    → then ≡ give_back (start_first q q.waiting) c
retried q c then first is = is ∙ ap (λ t. cond t (give_back (start_first q q.waiting) c) (start_first q q.waiting)) (started_there q q.waiting c first)

pub begin_short : (told told_new : Option Kept) (fuse fuse_new : Option Fuse) (stop : Bool) (run : Running) (q : Queue) (cid : Cid) (rose : Type 0) → stop ≡ false → told_new ≡ told → fuse_new ≡ fuse → first_of run.queue.waiting ≡ Some cid
    → q ≡ cond (has cid (start_first run.queue run.queue.waiting).flight) (give_back (start_first run.queue run.queue.waiting) cid) (start_first run.queue run.queue.waiting)
    → Told (state_of told fuse (run_of stop run)) (state_of told_new fuse_new (run_of stop (with_queue run q))) (NextCalls rose (Err Memory))
begin_short told told_new fuse fuse_new stop run q cid rose up e f first is =
    subst (λ b. Told (state_of told fuse (run_of stop run)) (state_of told_new fuse_new (run_of b (with_queue run q))) (NextCalls rose (Err Memory))) (sym up)
    (becomes (NextCalls rose (Err Memory)) told told_new fuse fuse_new stop false run (with_queue run q) up e f (told_always told _ (λ kept. (
      cid,
      first,
      goes kept,
    ))))
  where
    mid : Running
    mid = with_queue run (start_first run.queue run.queue.waiting)

    goes : (kept : Kept) → Goes (Want ∷ GiveBack cid ∷ []) (at kept fuse (Some run)) (at kept fuse (Some (with_queue run q)))
    goes kept =
        goes_then (Want ∷ []) (GiveBack cid ∷ []) (at kept fuse (Some run)) (at kept fuse (Some mid)) (at kept fuse (Some (with_queue run q))) (want_goes kept fuse run (some_waits run.queue cid first))
        (subst (λ r. Goes (GiveBack cid ∷ []) (at kept fuse (Some mid)) (at kept fuse (Some (with_queue run r)))) (sym (retried run.queue cid q first is)) (back_goes kept fuse mid cid (started_there run.queue run.queue.waiting cid first)))

tried : (q : Queue) (waiting : List Cid) (c : Cid) → first_of waiting ≡ Some c → give_back (start_first q waiting) c ≡ tried_first q waiting
tried q [] c e = absurd (let no : false ≡ true = ap is_some e in cc)
tried q (d ∷ rest) c e = ap (give_back (start_first q (d ∷ rest))) (sym (ap (λ o. unwrap_or o c) e))

pub short_wants : (q left : Queue) (c : Cid) → first_of q.waiting ≡ Some c → left ≡ cond (has c (start_first q q.waiting).flight) (give_back (start_first q q.waiting) c) (start_first q q.waiting) → left ≡ tried_first q q.waiting
short_wants q left c first is = retried q c left first is ∙ tried q q.waiting c first

-- what is told of it stays sound where a call's events are known
pub call_sound : {T : Type 0} (Refusal : ReplicaState → Option CoreError → Type 0) (Makes : ReplicaState → List Event → T → Type 0) (Short : ReplicaState → ReplicaState → Type 0) (rose : Type 0) (result : Result T CoreError)
    → ((s left : ReplicaState) → Short s left → IsSound s.state → IsSound left.state) → (told told_new : Option Kept) (fuse fuse_new : Option Fuse) (stop stop_new : Bool) (run run_new : Running) → (told ≡ None → told_new ≡ None)
    → Told (state_of told fuse (run_of stop run)) (state_of told_new fuse_new (run_of stop_new run_new)) (λ s new. Call (Refusal s) (Makes s) (Short s) rose result s new) → AreSound stop told run → AreSound stop_new told_new run_new
call_sound Refusal Makes Short rose result short told told_new fuse fuse_new stop stop_new run run_new silent call sound =
    told_sound (λ s new. Call (Refusal s) (Makes s) (Short s) rose result s new) told told_new fuse fuse_new stop stop_new run run_new (over result) silent call sound
  where
    over : (result : Result _ CoreError) (s new : ReplicaState) → Call (Refusal s) (Makes s) (Short s) rose result s new → IsSound s.state → IsSound new.state
    over (Ok value) s new does good = goes_sound does.events s new does.goes good
    over (Err error) s new ends good =
        ends_sound (kind_of error) ends
      where
        ends_sound : (kind : Kind) → ByKind (IsRefused (Refusal s) error s new) (Faults (Makes s) rose s new) (Short s new) kind → IsSound new.state
        ends_sound Refused p = subst (λ (x : ReplicaState). IsSound x.state) (sym p.1) good
        ends_sound Fault p = breaks_sound p.events rose s new p.breaks good
        ends_sound Shortage p = short s new p good

pub next_short_sound : (s left : ReplicaState) → NextShort s left → IsSound s.state → IsSound left.state
next_short_sound s left p sound = goes_sound (Want ∷ GiveBack p.0 ∷ []) s left p.2 sound
