-- From a drain's end to the answer of a work.
use Rattle.std.proofs.Common.{◌≡◌, ◌≢◌, length, ◌+◌, ◌-◌, ℕ, Bool, true, false, cond, ◌||◌, find, List, [], ◌∷◌, Option, Some, None, Result, Ok, Err, refl, sym, ap, ◌∙◌, subst, arith}
use Rattle.std.specs.Prelude.{IfSome, is_some, unwrap_or}
use Rattle.std.specs.Option.{option_map}
use Rattle.std.proofs.lemmas.Bool.{false≢true}
use Rattle.mc_base.specs.Told.{Told}
use Rattle.mc_base.specs.declared.cid.Cid.{Cid}
use Rattle.mc_fetch.specs.Fits.{Map}
use Rattle.mc_model.specs.Drain.{IsClosure, IsDrained, PartsFit}
use Rattle.mc_model.specs.Draining.{HasDrained, bytes_in, offers_of, queue_in}
use Rattle.mc_model.specs.Events.{GoesOn}
use Rattle.mc_model.specs.Found.{Offers, is_found}
use Rattle.mc_model.specs.Front.{same_cid}
use Rattle.mc_model.specs.Graph.{Vertex, cids_in, has}
use Rattle.mc_model.specs.State.{Durable, IsSound, Running, State, wanted_in}
use Rattle.mc_model.specs.Wanted.{Queue, wanted}
use Rattle.mc_keep.specs.declared.fuse.Fuse.{Fuse}
use Rattle.mc_model.specs.Kept.{Kept}
use Rattle.mc_model.proofs.Prefix.{goes_on_then}
use Rattle.mc_core.specs.Counted.{capped, run_of}
use Rattle.mc_core.specs.Events.{ReplicaState, state_of}
use Rattle.mc_core.proofs.GrowthFacts.{same_goes}
use Rattle.mc_drain.specs.declared.end.DrainEnd.{DrainEnd}
use Rattle.mc_drain.specs.declared.end.DrainEnd.TheVariants as end
use Rattle.mc_drain.specs.declared.working.WorkError.{WorkError}
use Rattle.mc_drain.specs.declared.working.WorkError.TheVariants as error
use Rattle.mc_drain.specs.declared.working.Worked.{Worked}
use Rattle.mc_drain.specs.declared.working.Worked.TheVariants as worked
use Rattle.mc_drain.specs.Finds.{Finds, first_bytes, found_from, surely_from}
use Rattle.mc_drain.specs.Leads.{Always, DrainsOn, Leads, LeadsBy, Never, commits_between, count, up_to}
use Rattle.mc_drain.specs.Rounds.{FindsFrom, HasWorkedFrom}
use Rattle.mc_drain.specs.Words.{DrainLeads, Fetched, is_keeper, is_peer}
use Rattle.mc_drain.specs.Lost.{AreLost}
use Rattle.mc_drain.specs.Works.{AnswerIs, IsPartOf, IsPartly, WorkLeads, WorkWants, keeper_broke, peer_broke, stored_bytes}
use Rattle.mc_drain.proofs.FuseFacts.{burns_then, fuse_stays, longer}
use Rattle.mc_drain.proofs.GoOnFacts.{leads_go_on, leads_itself}
use Rattle.mc_drain.proofs.LostFacts.{drained_so, lost_at, none_lost}
use Rattle.mc_drain.proofs.StoredFacts.{drains_then, stored_back}

-- what is stored has bytes, and nothing else has
pub kept_bytes : (graph : List Vertex) (c : Cid) → has c (cids_in graph) ≡ true → is_some (bytes_in graph c) ≡ true
kept_bytes [] c e = absurd (false≢true e)
kept_bytes (v ∷ graph) c e = (elim (same_cid c v.cid) as (λ b. same_cid c v.cid ≡ b → (b || has c (cids_in graph)) ≡ true
    → is_some (option_map (λ (w : Vertex). w.bytes) (cond b (Some v) (find (λ (w : Vertex). same_cid c w.cid) graph))) ≡ true) [
      | true ↦ λ s h. refl
      | false ↦ λ s h. kept_bytes graph c h
    ]) refl e

no_bytes : (graph : List Vertex) (c : Cid) → has c (cids_in graph) ≡ false → bytes_in graph c ≡ None
no_bytes [] c e = refl
no_bytes (v ∷ graph) c e = (elim (same_cid c v.cid) as (λ b. same_cid c v.cid ≡ b → (b || has c (cids_in graph)) ≡ false
    → option_map (λ (w : Vertex). w.bytes) (cond b (Some v) (find (λ (w : Vertex). same_cid c w.cid) graph)) ≡ None) [
      | true ↦ λ s h. absurd (false≢true (sym h))
      | false ↦ λ s h. no_bytes graph c h
    ]) refl e

-- the laws of a drain that are used at its beginning and its end
abbrev pub BeginsLaw : Type 0
BeginsLaw = (bytes_of : Map) (kept : List Cid) (state : State) → ((c : Cid) (bytes : List ℕ) → bytes_in state.durable.graph c ≡ Some bytes → bytes_of c ≡ Some bytes) → ((c : Cid) → has c kept ≡ true → is_some (bytes_in state.durable.graph c) ≡ true)
    → HasDrained bytes_of kept state.durable (wanted (queue_in state.run)) state

abbrev pub ClosedLaw : Type 0
ClosedLaw = (bytes_of : Map) (kept : List Cid) (old : Durable) (start : List Cid) (state : State) → IsSound state → IsDrained (offers_of bytes_of) state → HasDrained bytes_of kept old start state → IsClosure (offers_of bytes_of) old start state.durable (wanted_in state.run)

abbrev pub DrainedLaw : Type 0
DrainedLaw = (found : Offers) (q : Queue) → PartsFit found q → q.waiting ≡ [] → q.flight ≡ [] → (c : Cid) → has c (wanted q) ≡ true → is_found (found c) ≡ false

-- what is wanted, as both have it
pub wanted_same : (run : Option Running) → wanted (queue_in run) ≡ wanted_in run
wanted_same None = refl
wanted_same (Some run) = refl

none_some : {A : Type 0} {P : Type 0} (x : A) → None ≡ Some x → P
none_some x e = absurd (cc e)

pub some_is : (x y : Map) → Some x ≡ Some y → x ≡ y
some_is x y e = ap (λ o. unwrap_or o x) e

-- where the fetch tells, a drain has begun at every state, and the fetch finds what the drain's map has
pub begun : BeginsLaw → (s : ReplicaState) (offers : Option Map) (map : Map) → found_from s.state.durable.graph offers ≡ Some map
    → HasDrained map (cids_in s.state.durable.graph) s.state.durable (wanted_in s.state.run) s.state × Fetched offers map (cids_in s.state.durable.graph)
begun begins s None map is = none_some map is
begun begins s (Some offered) map is =
    let graph : List Vertex = s.state.durable.graph in
    let same : (λ c. first_bytes (bytes_in graph c) (offered c)) ≡ map = some_is (λ c. first_bytes (bytes_in graph c) (offered c)) map is in
    let first : HasDrained (λ c. first_bytes (bytes_in graph c) (offered c)) (cids_in graph) s.state.durable (wanted_in s.state.run) s.state =
    subst (λ (start : List Cid). HasDrained (λ c. first_bytes (bytes_in graph c) (offered c)) (cids_in graph) s.state.durable start s.state) (wanted_same s.state.run)
    (begins (λ c. first_bytes (bytes_in graph c) (offered c)) (cids_in graph) s.state (λ c bytes e. ap (λ o. first_bytes o (offered c)) e) (kept_bytes graph)) in (
      subst (λ (m : Map). HasDrained m (cids_in graph) s.state.durable (wanted_in s.state.run) s.state) same first,
      λ c e. ap (λ o. first_bytes o (offered c)) (sym (no_bytes graph c e)) ∙ ap (λ (m : Map). m c) same,
    )

-- a drain after workers
pub drain_after : BeginsLaw → (stop : DrainEnd) (limit : ℕ) (offers : Option Map) (root s new : ReplicaState) → LeadsBy false (up_to limit root) (FindsFrom offers root.state.durable.graph) Never root s → DrainLeads stop limit (Fetched offers) s new
    → DrainLeads stop limit (FindsFrom offers root.state.durable.graph) root new
drain_after begins stop limit offers root s new first next = record {
  grows = goes_on_then root.state.durable s.state.durable new.state.durable first.grows next.grows;
  within = let more = longer root s first.grows in omega (arith, more, first.few, next.within);
  fuse = burns_then (is_keeper stop) root s new (longer root s first.grows) (longer s new next.grows) first.fuse next.fuse;
  spent = next.spent;
  goes = λ e map kept p old start h. next.goes e map kept (fetched map kept p) old start (first.goes refl map kept p old start h);
  parts = λ e map kept p old start h. next.parts e map kept (fetched map kept p) old start (first.goes refl map kept p old start h);
  breaks = λ e map kept p old start h. next.breaks e map kept (fetched map kept p) old start (first.goes refl map kept p old start h);
  good = λ e map kept p old start h. next.good e map kept (fetched map kept p) old start (first.goes refl map kept p old start h);
  whatever = λ e. drains_then root s new next.grows (first.whatever refl) (next.whatever e);
}
  where
    fetched : (map : Map) (kept : List Cid) → FindsFrom offers root.state.durable.graph map kept → Fetched offers map kept
    fetched map kept p = subst (λ (cids : List Cid). Fetched offers map cids) (sym p.1) (begun begins root offers map p.0).1

-- nothing that is wanted has a good offer
pub drained_at : DrainedLaw → (map : Map) (run : Option Running) → PartsFit (offers_of map) (queue_in run) → (queue_in run).waiting ≡ [] → (queue_in run).flight ≡ [] → (c : Cid) → has c (wanted_in run) ≡ true → is_found (offers_of map c) ≡ false
drained_at drained map run parts waiting flight c e = drained (offers_of map) (queue_in run) parts waiting flight c (subst (λ (cids : List Cid). has c cids ≡ true) (sym (wanted_same run)) e)

-- what is left at the end that is no fault of the keeper's: nothing is in flight, and where it is idle nothing waits
pub record Leaves (stop : DrainEnd) (s : ReplicaState) : Type 0 where
  pub sound : IsSound s.state
  pub flight : is_keeper stop ≡ false → (queue_in s.state.run).flight ≡ []
  pub waiting : stop ≡ end.Idle → (queue_in s.state.run).waiting ≡ []

module _ (begins : BeginsLaw) (closed : ClosedLaw) (drained : DrainedLaw) where
  partly : (offers : Option Map) (map : Map) (s new : ReplicaState) → found_from s.state.durable.graph offers ≡ Some map
      → ((map : Map) (kept : List Cid) → FindsFrom offers s.state.durable.graph map kept → (old : Durable) (start : List Cid) → HasDrained map kept old start s.state → HasDrained map kept old start new.state)
      → IsPartOf map (wanted_in s.state.run) s new
  partly offers map s new is goes =
      goes map (cids_in s.state.durable.graph) (is, refl) s.state.durable (wanted_in s.state.run) (begun begins s offers map is).0

  -- whatever was found
  partly_so : (s new : ReplicaState) → GoesOn s.state.durable new.state.durable → DrainsOn s new → IsPartly (wanted_in s.state.run) s new
  partly_so s new grows on =
      let graph : List Vertex = s.state.durable.graph in
      let began = begins (stored_bytes new) (cids_in graph) s.state (stored_back (stored_bytes new) s.state.durable new.state.durable grows (λ c bytes e. e)) (kept_bytes graph) in
      on (stored_bytes new) (cids_in graph) (λ c bytes e. e) s.state.durable (wanted_in s.state.run)
      (subst (λ (start : List Cid). HasDrained (stored_bytes new) (cids_in graph) s.state.durable start s.state) (wanted_same s.state.run) began)

  work_is : (stop : DrainEnd) (budget limit before : ℕ) (finds : Finds) (q : Queue) (result : Result Worked WorkError) (s new : ReplicaState) → limit ≡ capped (before + budget) → before ≡ capped (count s) → AnswerIs stop before (Some new) q result
      → Leaves stop new → DrainLeads stop limit (FindsFrom finds.all s.state.durable.graph) s new → (is_keeper stop ≡ false → AreLost finds.surely s.state.durable.graph (queue_in new.state.run)) → WorkLeads budget finds result s new
  work_is end.Idle budget limit before finds q result s new is first answer leaves leads lost = subst (λ (r : Result Worked WorkError). WorkLeads budget finds r s new) (sym answer.1) (record {
    grows = leads.grows;
    within = let more = longer s new leads.grows in omega (arith, leads.within, more, is, first);
    fuse = leads.fuse;
    counts = answer.2 ∙ ap (λ (n : ℕ). capped (count new) - n) first;
    sound = leaves.sound;
    is = λ map here. let start = begun begins s finds.all map here in
        let parts = leads.parts refl map (cids_in s.state.durable.graph) (here, refl) s.state.durable (wanted_in s.state.run) start.0 in
        record {
          closure = closed map (cids_in s.state.durable.graph) s.state.durable (wanted_in s.state.run) new.state leaves.sound
              (drained_at drained map new.state.run parts (leaves.waiting refl) (leaves.flight refl)) (leads.goes refl map (cids_in s.state.durable.graph) (here, refl) s.state.durable (wanted_in s.state.run) start.0);
          parts = parts;
        };
    surely = (
      partly_so s new leads.grows (leads.whatever refl),
      drained_so (surely_from s.state.durable.graph finds) new.state.run (none_lost finds s.state.durable.graph (queue_in new.state.run) (lost refl)) (leaves.waiting refl) (leaves.flight refl),
    );
  })
  work_is end.Spent budget limit before finds q result s new is first answer leaves leads lost = subst (λ (r : Result Worked WorkError). WorkLeads budget finds r s new) (sym answer.1) (record {
    grows = leads.grows;
    within = let more = longer s new leads.grows in omega (arith, leads.within, more, is, first);
    fuse = leads.fuse;
    counts = (answer.2 ∙ ap (λ (n : ℕ). capped (count new) - n) first, let spent = leads.spent refl in omega (arith, spent, is, first));
    sound = leaves.sound;
    is = λ map here. let start = begun begins s finds.all map here in record {
      drained = partly finds.all map s new here (leads.goes refl);
      parts = leads.parts refl map (cids_in s.state.durable.graph) (here, refl) s.state.durable (wanted_in s.state.run) start.0;
      good = leads.good refl map (cids_in s.state.durable.graph) (here, refl) s.state.durable (wanted_in s.state.run) start.0;
    };
    surely = (partly_so s new leads.grows (leads.whatever refl), none_lost finds s.state.durable.graph (queue_in new.state.run) (lost refl));
  })
  work_is end.KeeperFault budget limit before finds q result s new is first answer leaves leads lost = subst (λ (r : Result Worked WorkError). WorkLeads budget finds r s new) (sym answer) (record {
    grows = leads.grows;
    within = let more = longer s new leads.grows in omega (arith, leads.within, more, is, first);
    fuse = leads.fuse;
    counts = tt;
    sound = leaves.sound;
    is = λ map here. let start = begun begins s finds.all map here in leads.breaks refl map (cids_in s.state.durable.graph) (here, refl) s.state.durable (wanted_in s.state.run) start.0;
    surely = tt;
  })
  work_is end.PeerFault budget limit before finds q result s new is first answer leaves leads lost = subst (λ (r : Result Worked WorkError). WorkLeads budget finds r s new) (sym answer) (record {
    grows = leads.grows;
    within = let more = longer s new leads.grows in omega (arith, leads.within, more, is, first);
    fuse = leads.fuse;
    counts = tt;
    sound = leaves.sound;
    is = λ map here. partly finds.all map s new here (leads.goes refl);
    surely = partly_so s new leads.grows (leads.whatever refl);
  })
  work_is end.Memory budget limit before finds q result s new is first answer leaves leads lost = subst (λ (r : Result Worked WorkError). WorkLeads budget finds r s new) (sym answer) (record {
    grows = leads.grows;
    within = let more = longer s new leads.grows in omega (arith, leads.within, more, is, first);
    fuse = leads.fuse;
    counts = tt;
    sound = leaves.sound;
    is = λ map here. partly finds.all map s new here (leads.goes refl);
    surely = partly_so s new leads.grows (leads.whatever refl);
  })

  -- where workers have led from the beginning of the work, and a drain from there
  pub finish_told : (stop : DrainEnd) (budget limit before : ℕ) (finds : Finds) (q : Queue) (result : Result Worked WorkError) (a b : Option ReplicaState) → limit ≡ capped (before + budget) → AnswerIs stop before b q result
      → IfSome b (Leaves stop) → Told a b (λ s new. DrainLeads stop limit (Fetched finds.all) s new) → IfSome a (λ s. is_keeper stop ≡ false → AreLost finds.surely s.state.durable.graph q) → IfSome b (λ s. is_keeper stop ≡ false → queue_in s.state.run ≡ q) → Told a b (λ s new. (root : ReplicaState) → HasWorkedFrom false before budget finds.all root s → WorkLeads budget finds result root new)
  finish_told stop budget limit before finds q result None b is answer leaves leads lost shows = tt
  finish_told stop budget limit before finds q result (Some s) None is answer leaves leads lost shows = absurd leads
  finish_told stop budget limit before finds q result (Some s) (Some new) is answer leaves leads lost shows = λ root worked.
      work_is stop budget limit before finds q result root new is worked.counted answer leaves
      (drain_after begins stop limit finds.all root s new (subst (λ (n : ℕ). LeadsBy false (up_to n root) (FindsFrom finds.all root.state.durable.graph) Never root s) (sym is) worked.leads) leads)
      (λ e. lost_at finds.surely root s new q worked.leads.grows (lost e) (shows e))

  -- the keeper of the workers failed
  pub worked_broken : (before budget : ℕ) (finds : Finds) (root s : ReplicaState) → IsSound s.state → HasWorkedFrom true before budget finds.all root s → WorkLeads budget finds (Err error.KeeperFault) root s
  worked_broken before budget finds root s sound worked = record {
    grows = worked.leads.grows;
    within = let few = worked.leads.few in let at = worked.counted in omega (arith, few, at);
    fuse = worked.leads.fuse;
    counts = tt;
    sound = sound;
    is = λ map here. worked.leads.breaks refl map (cids_in root.state.durable.graph) (here, refl) root.state.durable (wanted_in root.state.run) (begun begins root finds.all map here).0;
    surely = tt;
  }

  -- a fetch of theirs failed, and all was recalled
  pub worked_recalled : (before budget : ℕ) (finds : Finds) (root s new : ReplicaState) → IsSound new.state → HasWorkedFrom false before budget finds.all root s → Leads false (count s) Always s new → WorkLeads budget finds (Err error.PeerFault) root new
  worked_recalled before budget finds root s new sound worked recalled = record {
    grows = leads.grows;
    within = let few = leads.few in let at = worked.counted in omega (arith, few, at);
    fuse = leads.fuse;
    counts = tt;
    sound = sound;
    is = λ map here. partly finds.all map root new here (leads.goes refl);
    surely = partly_so root new leads.grows (leads.whatever refl);
  }
    where
      leads : LeadsBy false (up_to (capped (before + budget)) root) (FindsFrom finds.all root.state.durable.graph) Never root new
      leads = leads_go_on false (up_to (capped (before + budget)) root) (count s) (up_to (capped (before + budget)) root) (FindsFrom finds.all root.state.durable.graph) Always Always root s new worked.leads recalled worked.leads.few (λ map kept old start p h. tt)

  -- it was given up before it began
  pub work_given_up : (budget : ℕ) (finds : Finds) (a b : Option ReplicaState) → IfSome b (λ s. IsSound s.state) → Told a b (λ s new. Leads false (count s) Always s new)
      → Told a b (λ s new. WorkLeads budget finds (Err error.Memory) s new)
  work_given_up budget finds None b sound leads = tt
  work_given_up budget finds (Some s) None sound leads = absurd leads
  work_given_up budget finds (Some s) (Some new) sound leads = record {
    grows = leads.grows;
    within = omega (arith, leads.few);
    fuse = leads.fuse;
    counts = tt;
    sound = sound;
    is = λ map here. partly finds.all map s new here (λ known kept f. leads.goes refl known kept tt);
    surely = partly_so s new leads.grows (leads.whatever refl);
  }

-- a replica that had stopped
pub still_works : (budget : ℕ) (finds : Finds) (a : Option ReplicaState) → IfSome a (λ s. IsSound s.state) → Told a a (λ s new. WorkLeads budget finds (Err error.Stopped) s new)
still_works budget finds None sound = tt
still_works budget finds (Some s) sound = record {
  grows = same_goes s.state.durable;
  within = omega arith;
  fuse = fuse_stays false (commits_between false s s) s.fuse;
  counts = tt;
  sound = sound;
  is = λ map here. refl;
  surely = refl;
}

abbrev is_stopped : Result Worked WorkError → Bool
is_stopped (Ok value) = false
is_stopped (Err error.KeeperFault) = false
is_stopped (Err error.PeerFault) = false
is_stopped (Err error.Stopped) = true
is_stopped (Err error.Memory) = false

-- an answer fails as its drain does
pub answer_keeper : (stop : DrainEnd) (before : ℕ) (state : Option ReplicaState) (q : Queue) (result : Result Worked WorkError) → AnswerIs stop before state q result → keeper_broke result ≡ is_keeper stop
answer_keeper end.Idle before state q result answer = ap keeper_broke answer.1
answer_keeper end.Spent before state q result answer = ap keeper_broke answer.1
answer_keeper end.KeeperFault before state q result answer = ap keeper_broke answer
answer_keeper end.PeerFault before state q result answer = ap keeper_broke answer
answer_keeper end.Memory before state q result answer = ap keeper_broke answer

pub answer_peer : (stop : DrainEnd) (before : ℕ) (state : Option ReplicaState) (q : Queue) (result : Result Worked WorkError) → AnswerIs stop before state q result → peer_broke result ≡ is_peer stop
answer_peer end.Idle before state q result answer = ap peer_broke answer.1
answer_peer end.Spent before state q result answer = ap peer_broke answer.1
answer_peer end.KeeperFault before state q result answer = ap peer_broke answer
answer_peer end.PeerFault before state q result answer = ap peer_broke answer
answer_peer end.Memory before state q result answer = ap peer_broke answer

-- what is wanted then
pub answer_wants : (stop : DrainEnd) (before : ℕ) (state : Option ReplicaState) (q : Queue) (result : Result Worked WorkError) → AnswerIs stop before state q result → (is_keeper stop ≡ false → q.flight ≡ []) → (stop ≡ end.Idle → q.waiting ≡ []) → (stop ≡ end.Spent → q.waiting ≢ [])
    → WorkWants result q
answer_wants end.Idle before state q result answer flight idle spent = subst (λ (r : Result Worked WorkError). WorkWants r q) (sym answer.1) (idle refl, flight refl, refl, refl)
answer_wants end.Spent before state q result answer flight idle spent = subst (λ (r : Result Worked WorkError). WorkWants r q) (sym answer.1) (spent refl, flight refl)
answer_wants end.KeeperFault before state q result answer flight idle spent = subst (λ (r : Result Worked WorkError). WorkWants r q) (sym answer) tt
answer_wants end.PeerFault before state q result answer flight idle spent = subst (λ (r : Result Worked WorkError). WorkWants r q) (sym answer) (flight refl)
answer_wants end.Memory before state q result answer flight idle spent = subst (λ (r : Result Worked WorkError). WorkWants r q) (sym answer) (flight refl)

-- it is not that the replica had stopped
pub answer_runs : (stop : DrainEnd) (before : ℕ) (state : Option ReplicaState) (q : Queue) (result : Result Worked WorkError) → AnswerIs stop before state q result → result ≢ Err error.Stopped
answer_runs end.Idle before state q result answer e = let f : Ok (worked.Done answer.0 (length q.missing) (length q.bad)) ≡ Err error.Stopped = sym answer.1 ∙ e in cc f
answer_runs end.Spent before state q result answer e = let f : Ok (worked.Again answer.0) ≡ Err error.Stopped = sym answer.1 ∙ e in cc f
answer_runs end.KeeperFault before state q result answer e = let f : is_stopped (Err error.KeeperFault) ≡ is_stopped (Err error.Stopped) = ap is_stopped (sym answer ∙ e) in absurd (false≢true f)
answer_runs end.PeerFault before state q result answer e = let f : is_stopped (Err error.PeerFault) ≡ is_stopped (Err error.Stopped) = ap is_stopped (sym answer ∙ e) in absurd (false≢true f)
answer_runs end.Memory before state q result answer e = let f : is_stopped (Err error.Memory) ≡ is_stopped (Err error.Stopped) = ap is_stopped (sym answer ∙ e) in absurd (false≢true f)

-- what a drain leaves, as its state has it
pub leaves_shown : (stop : DrainEnd) (told : Option Kept) (fuse : Option Fuse) (down : Bool) (run : Running) → (is_keeper stop ≡ false → down ≡ false) → IfSome (state_of told fuse (run_of down run)) (λ s. IsSound s.state) → (is_keeper stop ≡ false → run.queue.flight ≡ []) → (stop ≡ end.Idle → run.queue.waiting ≡ [])
    → IfSome (state_of told fuse (run_of down run)) (Leaves stop)
leaves_shown stop None fuse down run up sound flight idle = tt
leaves_shown stop (Some kept) fuse down run up sound flight idle = record {
  sound = sound;
  flight = λ e. subst (λ (b : Bool). (queue_in (run_of b run)).flight ≡ []) (sym (up e)) (flight e);
  waiting = λ e. subst (λ (b : Bool). (queue_in (run_of b run)).waiting ≡ []) (sym (up (ap is_keeper e))) (idle e);
}

-- what is wanted then, as its state has it
pub queue_shown : (stop : DrainEnd) (told : Option Kept) (fuse : Option Fuse) (down : Bool) (run : Running) → (is_keeper stop ≡ false → down ≡ false) → IfSome (state_of told fuse (run_of down run)) (λ s. is_keeper stop ≡ false → queue_in s.state.run ≡ run.queue)
queue_shown stop None fuse down run up = tt
queue_shown stop (Some kept) fuse down run up = λ e. ap (λ (b : Bool). queue_in (run_of b run)) (up e)

-- where nobody has worked before
pub alone_told : (before budget : ℕ) (finds : Finds) (result : Result Worked WorkError) (a b : Option ReplicaState) → IfSome a (λ s. before ≡ capped (count s))
    → Told a b (λ s new. (root : ReplicaState) → HasWorkedFrom false before budget finds.all root s → WorkLeads budget finds result root new) → Told a b (λ s new. WorkLeads budget finds result s new)
alone_told before budget finds result None b at leads = tt
alone_told before budget finds result (Some s) None at leads = absurd leads
alone_told before budget finds result (Some s) (Some new) at leads =
    leads s (record { counted = at; leads = leads_itself (up_to (capped (before + budget)) s) (FindsFrom finds.all s.state.durable.graph) Never s (omega arith) })

-- what is not true is false
pub not_true : (b : Bool) → (b ≡ true → ⊥) → b ≡ false
not_true true never = absurd (never refl)
not_true false never = refl
