-- What each call of a replica leads to.
use Rattle.std.proofs.Common.{◌≡◌, ◌≤◌, ◌+◌, ℕ, Bool, true, false, cond, List, [], ◌∷◌, map, find, Option, Some, None, Result, Ok, Err, refl, sym, ap, ◌∙◌, subst, arith, inl, inr}
use Rattle.std.specs.Prelude.{IfSome, is_some}
use Rattle.std.specs.Option.{option_map}
use Rattle.std.proofs.lemmas.Bool.{false≢true}
use Rattle.mc_base.specs.Told.{Told}
use Rattle.mc_base.specs.declared.cid.Cid.{Cid}
use Rattle.mc_fetch.specs.Fits.{Map, OwnFits}
use Rattle.mc_fetch.specs.Offers.{HasDigest}
use Rattle.mc_fetch.specs.declared.job.Delivered.{Delivered}
use Rattle.mc_fetch.specs.declared.job.Job.{Job}
use Rattle.mc_keep.specs.Causes.{Kind, Refusal, Fault, Shortage, is_fault_kind}
use Rattle.mc_model.specs.declared.block.Block.{Block}
use Rattle.mc_model.specs.declared.block.Stored.{Stored}
use Rattle.mc_model.specs.Draining.{AllSayRight, HasDrained, IsFoundFor, Takes, TakesAll, all_given_back, bytes_in, delivery, offers_of, queue_in, taken_up}
use Rattle.mc_model.specs.Events.{Event, Want, GiveBack, Requeue, MayCome, happens}
use Rattle.mc_model.specs.Found.{Offers}
use Rattle.mc_model.specs.Front.{same_cid}
use Rattle.mc_model.specs.Graph.{Vertex, has, in_graph}
use Rattle.mc_model.specs.Kept.{bytes_at}
use Rattle.mc_model.specs.Offer.{Damage, offer}
use Rattle.mc_model.specs.State.{Durable, IsSound, Running, State, stored_of}
use Rattle.mc_model.proofs.Prefix.{goes_on_then}
use Rattle.mc_core.specs.declared.CoreError.{CoreError}
use Rattle.mc_core.specs.Calls.{Call, Faults, IsRefused}
use Rattle.mc_core.specs.Events.{ReplicaState, Goes, HappensIn}
use Rattle.mc_core.specs.Jobs.{DeliverEvents, DeliverShort, DeliversIn, NextEvents, NextShort}
use Rattle.mc_core.specs.Reads.{read_refusal}
use Rattle.mc_core.specs.Refusals.{ByKind, Is, is_fault, kind_of}
use Rattle.mc_core.proofs.GrowthFacts.{GrowLaw}
use Rattle.mc_drain.specs.Leads.{Always, Leads, LeadsBy, all_processes, count}
use Rattle.mc_drain.specs.Words.{IsNoBlock}
use Rattle.mc_drain.proofs.EventFacts.{Asked, AskedBy, GoesLaw, StayLaw, always_stored, breaks_by, breaks_leads, goes_by, goes_leads, stays_by, stays_leads}
use Rattle.mc_drain.proofs.FuseFacts.{IsPaced, all_extras, burns_then, longer}
use Rattle.mc_drain.proofs.StoredFacts.{StoredAsked, delivery_stored, drains_then}

-- what is told at two moments, and what is known of the first
pub told_with : {A B : Type 0} (P : A → B → Type 0) (Q : A → Type 0) (R : A → B → Type 0) → ((x : A) (y : B) → P x y → Q x → R x y) → (a : Option A) (b : Option B) → Told a b P → IfSome a Q → Told a b R
told_with P Q R join None b p q = tt
told_with P Q R join (Some x) None p q = absurd p
told_with P Q R join (Some x) (Some y) p q = join x y p q

pub some_with : {A : Type 0} (P Q : A → Type 0) → ((x : A) → P x → Q x) → (a : Option A) → IfSome a P → IfSome a Q
some_with P Q weaker None p = tt
some_with P Q weaker (Some x) p = weaker x p

-- the stored bytes of a block, as the keeper and as the state have them
pub bytes_same : (graph : List Vertex) (c : Cid) → bytes_at (map stored_of graph) c ≡ bytes_in graph c
bytes_same [] c = refl
bytes_same (vertex ∷ graph) c =
    elim (same_cid c vertex.cid) as (λ t. option_map (λ (stored : Stored). stored.bytes) (cond t (Some (stored_of vertex)) (find (λ (stored : Stored). same_cid c stored.cid) (map stored_of graph)))
    ≡ option_map (λ (v : Vertex). v.bytes) (cond t (Some vertex) (find (λ (v : Vertex). same_cid c v.cid) graph))) [
      | true ↦ refl
      | false ↦ bytes_same graph c
    ]

-- own bytes fit, where a drain has come here
pub own_fits : (known : Map) (kept : List Cid) (graph : List Vertex) (cid : Cid) (own : Option (List ℕ)) → ((c : Cid) (bytes : List ℕ) → bytes_in graph c ≡ Some bytes → known c ≡ Some bytes)
    → ((c : Cid) → has c kept ≡ true → is_some (bytes_in graph c) ≡ true) → own ≡ bytes_in graph cid → IfSome own (HasDigest cid) → OwnFits (Some known) kept cid own
own_fits known kept graph cid None stored here is digest = (elim (has cid kept) as (λ b. has cid kept ≡ b → b ≡ false) [ true ↦ λ e. absurd (false≢true (ap is_some is ∙ here cid e)) | false ↦ λ e. refl ]) refl
own_fits known kept graph cid (Some bytes) stored here is digest = (digest, stored cid bytes (sym is))

-- the laws on deliveries and on a recall
abbrev pub TakesLaw : Type 0
TakesLaw = (bytes_of : Map) (durable : Durable) (run : Running) (c : Cid) (found : Option (List ℕ)) → has c run.queue.flight ≡ true → IsFoundFor bytes_of c found
    → TakesAll bytes_of (record { durable = durable; run = Some run }) (delivery durable.graph c found)

abbrev pub SaysLaw : Type 0
SaysLaw = (bytes_of : Map) (durable : Durable) (c : Cid) (found : Option (List ℕ)) → bytes_of c ≡ found → AllSayRight (offers_of bytes_of) (delivery durable.graph c found)

abbrev pub RecallTakesLaw : Type 0
RecallTakesLaw = (bytes_of : Map) (durable : Durable) (run : Running) (cids : List Cid) → TakesAll bytes_of (record { durable = durable; run = Some run }) (all_given_back cids)

abbrev pub RecallSaysLaw : Type 0
RecallSaysLaw = (found : Offers) (cids : List Cid) → AllSayRight found (all_given_back cids)

takes_want : (known : Map) (run : Option Running) → is_some run ≡ true → Takes known run Want
takes_want known None up = absurd (false≢true up)
takes_want known (Some run) up = tt

takes_back : (known : Map) (c : Cid) (durable : Durable) (run : Option Running) → MayCome durable run (GiveBack c) → Takes known run (GiveBack c)
takes_back known c durable None may = absurd may
takes_back known c durable (Some run) may = tt

pub found_for : (known : Map) (c : Cid) (found : Option (List ℕ)) → known c ≡ found → IsFoundFor known c found
found_for known c None e = tt
found_for known c (Some bytes) e = e

-- a delivery processes one block at the most
taken_processes : (stored : Bool) (c : Cid) (bytes : List ℕ) (reading : Result Block Damage) → all_processes (taken_up stored c bytes reading) ≤ 1
taken_processes stored c bytes (Err damage) = omega arith
taken_processes true c bytes (Ok block) = omega arith
taken_processes false c bytes (Ok block) = omega arith

pub delivery_processes : (graph : List Vertex) (c : Cid) (found : Option (List ℕ)) → all_processes (delivery graph c found) ≤ 1
delivery_processes graph c None = omega arith
delivery_processes graph c (Some bytes) = taken_processes (in_graph graph c) c bytes (offer c bytes)

pub no_block_processes : (graph : List Vertex) (c : Cid) (found : Option (List ℕ)) → IsNoBlock c found → all_processes (delivery graph c found) ≤ 0
no_block_processes graph c None h = omega arith
no_block_processes graph c (Some bytes) h = subst (λ (r : Result Block Damage). all_processes (taken_up (in_graph graph c) c bytes r) ≤ 0) (sym h.1) (omega arith)

-- the lists of events of a call

none_paced : IsPaced []
none_paced = record { few = omega arith; paid = omega arith }

want_paced : IsPaced (Want ∷ [])
want_paced = record { few = omega arith; paid = omega arith }

tried_paced : (c : Cid) → IsPaced (Want ∷ GiveBack c ∷ [])
tried_paced c = record { few = omega arith; paid = omega arith }

back_paced : (t : Bool) (c : Cid) → IsPaced (cond t (GiveBack c ∷ []) [])
back_paced true c = record { few = omega arith; paid = omega arith }
back_paced false c = none_paced

requeue_paced : IsPaced (Requeue ∷ [])
requeue_paced = record { few = omega arith; paid = omega arith }

none_extra : (cids : List Cid) → all_extras (all_given_back cids) ≤ 0
none_extra [] = omega arith
none_extra (c ∷ cids) = let e = none_extra cids in omega (arith, e)

recall_paced : (cids : List Cid) → IsPaced (all_given_back cids)
recall_paced cids = let e = none_extra cids in record { few = omega (arith, e); paid = omega (arith, e) }

-- a delivery stores one block at the most, and processes it then
taken_paced : (stored : Bool) (c : Cid) (bytes : List ℕ) (reading : Result Block Damage) → IsPaced (taken_up stored c bytes reading)
taken_paced stored c bytes (Err damage) = record { few = omega arith; paid = omega arith }
taken_paced true c bytes (Ok block) = record { few = omega arith; paid = omega arith }
taken_paced false c bytes (Ok block) = record { few = omega arith; paid = omega arith }

delivery_paced : (graph : List Vertex) (c : Cid) (found : Option (List ℕ)) → IsPaced (delivery graph c found)
delivery_paced graph c None = record { few = omega arith; paid = omega arith }
delivery_paced graph c (Some bytes) = taken_paced (in_graph graph c) c bytes (offer c bytes)

delivers_paced : (inside : Bool) (durable : Durable) (c : Cid) (found : Option (List ℕ)) (events : List Event) (answer : Delivered) → DeliversIn inside durable c found events answer → IsPaced events
delivers_paced true durable c found events answer plan = subst IsPaced (sym plan.0) (delivery_paced durable.graph c found)
delivers_paced false durable c found events answer plan = subst IsPaced (sym plan.1) none_paced

nothing_asked : (c : Cid) (found : Option (List ℕ)) (state : State) (events : List Event) → events ≡ [] → AskedBy (λ known kept. IsFoundFor known c found) (λ known kept. known c ≡ found) state events
nothing_asked c found state events none = (λ known kept p. subst (TakesAll known state) (sym none) tt, λ known kept p. subst (AllSayRight (offers_of known)) (sym none) tt)

module _ (grow_law : GrowLaw) (goes_law : GoesLaw) (stay_law : StayLaw) where
  next_asked : (s : ReplicaState) → is_some s.state.run ≡ true → Asked Always s.state (Want ∷ [])
  next_asked s up known kept p = ((takes_want known s.state.run up, tt), (tt, tt))

  next_fault : (rose : Type 0) (s new : ReplicaState) → is_some s.state.run ≡ true → IsSound s.state → Faults (NextEvents s) rose s new → Leads true (count s) Always s new
  next_fault rose s new up sound faults = elim faults.begins [
    | inl none ↦ nothing none
    | inr (answer, plan) ↦ some answer plan
  ]
    where
      nothing : faults.events ≡ [] → Leads true (count s) Always s new
      nothing e = breaks_leads grow_law goes_law stay_law Always faults.events rose s new (count s) faults.breaks sound (let l = ap all_processes e in omega (arith, l)) (subst IsPaced (sym e) none_paced) (λ known kept p. subst (λ events. TakesAll known s.state events × AllSayRight (offers_of known) events) (sym e) (tt, tt))

      some : (answer : Option Job) → NextEvents s faults.events answer → Leads true (count s) Always s new
      some None plan = nothing plan.1
      some (Some job) plan = breaks_leads grow_law goes_law stay_law Always faults.events rose s new (count s) faults.breaks sound (let l = ap all_processes plan.2 in omega (arith, l)) (subst IsPaced (sym plan.2) want_paced) (subst (Asked Always s.state) (sym plan.2) (next_asked s up))

  pub next_leads : (rose : Type 0) (result : Result (Option Job) CoreError) (s new : ReplicaState) → is_some s.state.run ≡ true → IsSound s.state → Call (Is (read_refusal s)) (NextEvents s) (NextShort s) rose result s new → Leads (is_fault result) (count s) Always s new
  next_leads rose (Ok None) s new up sound call = goes_leads grow_law goes_law stay_law Always [] s new (count s) (subst (λ events. Goes events s new) call.makes.1 call.goes) sound (omega arith) none_paced (λ known kept p. (tt, tt)) (λ map h. tt)
  next_leads rose (Ok (Some job)) s new up sound call = goes_leads grow_law goes_law stay_law Always (Want ∷ []) s new (count s) (subst (λ events. Goes events s new) call.makes.2 call.goes) sound (omega arith) want_paced (next_asked s up) (always_stored s.state (Want ∷ []) (next_asked s up))
  next_leads rose (Err error) s new up sound call = over (kind_of error) call
    where
      over : (kind : Kind) → ByKind (IsRefused (Is (read_refusal s)) error s new) (Faults (NextEvents s) rose s new) (NextShort s new) kind → Leads (is_fault_kind kind) (count s) Always s new
      over Refusal refused = stays_leads grow_law goes_law stay_law Always s new (count s) refused.1 (omega arith)
      over Fault faults = next_fault rose s new up sound faults
      over Shortage short = let tried : Asked Always s.state (Want ∷ GiveBack short.0 ∷ []) = λ known kept p. ((takes_want known s.state.run up, (takes_back known short.0 (happens s.state Want).durable (happens s.state Want).run short.2.may.2.0, tt)), (tt, (tt, tt))) in
          goes_leads grow_law goes_law stay_law Always (Want ∷ GiveBack short.0 ∷ []) s new (count s) short.2 sound (omega arith) (tried_paced short.0)
          tried (always_stored s.state (Want ∷ GiveBack short.0 ∷ []) tried)

  happens_leads : (s new : ReplicaState) (events : Running → List Event) → HappensIn s.state.run events s new → IsSound s.state
      → ((run : Running) → s.state.run ≡ Some run → (all_processes (events run) ≤ 0) × IsPaced (events run) × ((goes : Goes (events run) s new) → Asked Always s.state (events run))) → Leads false (count s) Always s new
  happens_leads s new events = over s.state.run refl
    where
      over : (run : Option Running) → s.state.run ≡ run → HappensIn run events s new → IsSound s.state → ((run : Running) → s.state.run ≡ Some run → (all_processes (events run) ≤ 0) × IsPaced (events run) × ((goes : Goes (events run) s new) → Asked Always s.state (events run)))
          → Leads false (count s) Always s new
      over None e same sound each = stays_leads grow_law goes_law stay_law Always s new (count s) same (omega arith)
      over (Some run) e goes sound each = let here = each run e in goes_leads grow_law goes_law stay_law Always (events run) s new (count s) goes sound (let e = here.0 in omega (arith, e)) here.1 (here.2 goes) (always_stored s.state (events run) (here.2 goes))

  pub back_leads : (c : Cid) (s new : ReplicaState) → HappensIn s.state.run (λ run. cond (has c run.queue.flight) (GiveBack c ∷ []) []) s new → IsSound s.state → Leads false (count s) Always s new
  back_leads c s new happens_ sound = happens_leads s new (λ run. cond (has c run.queue.flight) (GiveBack c ∷ []) []) happens_ sound (λ run e. (none (has c run.queue.flight), back_paced (has c run.queue.flight) c, asked (has c run.queue.flight)))
    where
      none : (t : Bool) → all_processes (cond t (GiveBack c ∷ []) []) ≤ 0
      none true = omega arith
      none false = omega arith

      asked : (t : Bool) → Goes (cond t (GiveBack c ∷ []) []) s new → Asked Always s.state (cond t (GiveBack c ∷ []) [])
      asked true goes known kept p = ((takes_back known c s.state.durable s.state.run goes.may.0, tt), (tt, tt))
      asked false goes known kept p = (tt, tt)

  pub requeue_leads : (s new : ReplicaState) → HappensIn s.state.run (λ run. Requeue ∷ []) s new → IsSound s.state → Leads false (count s) Always s new
  requeue_leads s new happens_ sound = happens_leads s new (λ run. Requeue ∷ []) happens_ sound (λ run e. (omega arith, requeue_paced, λ goes known kept p. ((subst (λ (r : Option Running). Takes known r Requeue) (sym e) tt, tt), (tt, tt))))

  back_processes : (cids : List Cid) → all_processes (all_given_back cids) ≤ 0
  back_processes [] = omega arith
  back_processes (c ∷ cids) = let e = back_processes cids in omega (arith, e)

  -- blocks that are given back, one after another
  pub given_leads : RecallTakesLaw → RecallSaysLaw → (cids : Running → List Cid) (s new : ReplicaState) → HappensIn s.state.run (λ run. all_given_back (cids run)) s new → IsSound s.state → Leads false (count s) Always s new
  given_leads takes says cids s new happens_ sound = happens_leads s new (λ run. all_given_back (cids run)) happens_ sound
      (λ run e. (
        back_processes (cids run),
        recall_paced (cids run),
        λ goes known kept p.
            (subst (λ (r : Option Running). TakesAll known (record { durable = s.state.durable; run = r }) (all_given_back (cids run))) (sym e) (takes known s.state.durable run (cids run)), says (offers_of known) (cids run)),
      ))

  pub recall_leads : RecallTakesLaw → RecallSaysLaw → (s new : ReplicaState) → HappensIn s.state.run (λ run. all_given_back run.queue.flight) s new → IsSound s.state → Leads false (count s) Always s new
  recall_leads takes says = given_leads takes says (λ run. run.queue.flight)

  module _ (takes_law : TakesLaw) (says_law : SaysLaw) where
    delivers_asked : (c : Cid) (found : Option (List ℕ)) (durable : Durable) (run : Option Running) (events : List Event) (answer : Delivered) → DeliversIn (has c (queue_in run).flight) durable c found events answer
        → AskedBy (λ known kept. IsFoundFor known c found) (λ known kept. known c ≡ found) (record { durable = durable; run = run }) events × (all_processes events ≤ all_processes (delivery durable.graph c found))
    delivers_asked c found durable None events answer plan = (nothing_asked c found (record { durable = durable; run = None }) events plan.1, let l = ap all_processes plan.1 in omega (arith, l))
    delivers_asked c found durable (Some run) events answer plan =
        elim (has c run.queue.flight) as (λ t. has c run.queue.flight ≡ t → DeliversIn t durable c found events answer
        → AskedBy (λ known kept. IsFoundFor known c found) (λ known kept. known c ≡ found) (record { durable = durable; run = Some run }) events × (all_processes events ≤ all_processes (delivery durable.graph c found))) [
          | true ↦ λ e plan. (
            (
              λ known kept is. subst (TakesAll known (record { durable = durable; run = Some run })) (sym plan.0) (takes_law known durable run c found e is),
              λ known kept is. subst (AllSayRight (offers_of known)) (sym plan.0) (says_law known durable c found is),
            ),
            let l = ap all_processes plan.0 in omega (arith, l),
          )
          | false ↦ λ e plan. (nothing_asked c found (record { durable = durable; run = Some run }) events plan.1, let l = ap all_processes plan.1 in omega (arith, l))
        ] refl plan

    delivers_stored : (c : Cid) (found : Option (List ℕ)) (durable : Durable) (run : Option Running) (events : List Event) (answer : Delivered) → DeliversIn (has c (queue_in run).flight) durable c found events answer
        → StoredAsked (record { durable = durable; run = run }) events
    delivers_stored c found durable None events answer plan = subst (StoredAsked (record { durable = durable; run = None })) (sym plan.1) (λ map h. tt)
    delivers_stored c found durable (Some run) events answer plan =
        elim (has c run.queue.flight) as (λ t. has c run.queue.flight ≡ t → DeliversIn t durable c found events answer → StoredAsked (record { durable = durable; run = Some run }) events) [
          | true ↦ λ e plan. subst (StoredAsked (record { durable = durable; run = Some run })) (sym plan.0) (delivery_stored durable run c found (λ bytes_of is. takes_law bytes_of durable run c found e is))
          | false ↦ λ e plan. subst (StoredAsked (record { durable = durable; run = Some run })) (sym plan.1) (λ map h. tt)
        ] refl plan

    pub deliver_by : (c : Cid) (found : Option (List ℕ)) (more : ℕ) (rose : Type 0) (result : Result Delivered CoreError) (s new : ReplicaState) → IsSound s.state → all_processes (delivery s.state.durable.graph c found) ≤ more
        → Call (Is (read_refusal s)) (DeliverEvents s c found) (DeliverShort s c) rose result s new → LeadsBy (is_fault result) (count s + more) (λ known kept. IsFoundFor known c found) (λ known kept. known c ≡ found) s new
    deliver_by c found more rose (Ok answer) s new sound few call =
        let asked = delivers_asked c found s.state.durable s.state.run call.events answer call.makes in
        goes_by grow_law goes_law stay_law (λ known kept. IsFoundFor known c found) (λ known kept. known c ≡ found) call.events s new (count s + more) call.goes sound (omega (arith, asked.1, few)) (delivers_paced (has c (queue_in s.state.run).flight) s.state.durable c found call.events answer call.makes) asked.0 (delivers_stored c found s.state.durable s.state.run call.events answer call.makes)
    deliver_by c found more rose (Err error) s new sound few call = over (kind_of error) call
      where
        over : (kind : Kind) → ByKind (IsRefused (Is (read_refusal s)) error s new) (Faults (DeliverEvents s c found) rose s new) (DeliverShort s c new) kind → LeadsBy (is_fault_kind kind) (count s + more) (λ known kept. IsFoundFor known c found) (λ known kept. known c ≡ found) s new
        over Refusal refused = stays_by grow_law goes_law stay_law (λ known kept. IsFoundFor known c found) (λ known kept. known c ≡ found) s new (count s + more) refused.1 (omega arith)
        over Fault faults = elim faults.begins [
          | inl none ↦ breaks_by grow_law goes_law stay_law (λ known kept. IsFoundFor known c found) (λ known kept. known c ≡ found) faults.events rose s new (count s + more) faults.breaks sound (let l = ap all_processes none in omega (arith, l)) (subst IsPaced (sym none) none_paced)
              (nothing_asked c found s.state faults.events none)
          | inr (answer, plan) ↦ (let asked = delivers_asked c found s.state.durable s.state.run faults.events answer plan in
              breaks_by grow_law goes_law stay_law (λ known kept. IsFoundFor known c found) (λ known kept. known c ≡ found) faults.events rose s new (count s + more) faults.breaks sound (omega (arith, asked.1, few)) (delivers_paced (has c (queue_in s.state.run).flight) s.state.durable c found faults.events answer plan) asked.0)
        ]
        over Shortage short = goes_by grow_law goes_law stay_law (λ known kept. IsFoundFor known c found) (λ known kept. known c ≡ found) (GiveBack c ∷ []) s new (count s + more) short.1 sound (omega arith) (back_paced true c)
            (λ known kept p. (takes_back known c s.state.durable s.state.run short.1.may.0, tt), λ known kept p. (tt, tt)) (λ map h. (takes_back map c s.state.durable s.state.run short.1.may.0, tt))

-- two parts of a call
pub leads_then : (failed : Bool) (first most : ℕ) (P Q R : Map → List Cid → Type 0) (s mid new : ReplicaState) → Leads false first P s mid → Leads failed most Q mid new
    → ((known : Map) (kept : List Cid) (old : Durable) (start : List Cid) → R known kept → HasDrained known kept old start s.state → P known kept × Q known kept) → Leads failed most R s new
leads_then failed first most P Q R s mid new a b join = record {
  grows = goes_on_then s.state.durable mid.state.durable new.state.durable a.grows b.grows;
  few = b.few;
  fuse = burns_then failed s mid new (longer s mid a.grows) (longer mid new b.grows) a.fuse b.fuse;
  goes = λ e known kept r old start h. let both = join known kept old start r h in b.goes e known kept both.1 old start (a.goes refl known kept both.0 old start h);
  parts = λ e known kept r old start h f. let both = join known kept old start r h in b.parts e known kept both.1 old start (a.goes refl known kept both.0 old start h) (a.parts refl known kept both.0 old start h f);
  breaks = λ e known kept r old start h. let both = join known kept old start r h in b.breaks e known kept both.1 old start (a.goes refl known kept both.0 old start h);
  whatever = λ e. drains_then s mid new b.grows (a.whatever refl) (b.whatever e);
}

-- a part of a call that allows more, for less
pub leads_weaker : (failed : Bool) (few most : ℕ) (P Q : Map → List Cid → Type 0) (s new : ReplicaState) → Leads failed few P s new → few ≤ most → ((known : Map) (kept : List Cid) → Q known kept → P known kept) → Leads failed most Q s new
leads_weaker failed few most P Q s new a more weaker = record {
  grows = a.grows;
  few = omega (arith, a.few, more);
  fuse = a.fuse;
  goes = λ e known kept q. a.goes e known kept (weaker known kept q);
  parts = λ e known kept q. a.parts e known kept (weaker known kept q);
  breaks = λ e known kept q. a.breaks e known kept (weaker known kept q);
  whatever = a.whatever;
}

-- the same of a delivery where all is known that is found
pub leads_alike : (failed : Bool) (most : ℕ) (P R : Map → List Cid → Type 0) (s new : ReplicaState) → LeadsBy failed most P R s new → ((known : Map) (kept : List Cid) → R known kept → P known kept) → Leads failed most R s new
leads_alike failed most P R s new a weaker = record {
  grows = a.grows;
  few = a.few;
  fuse = a.fuse;
  goes = λ e known kept r. a.goes e known kept (weaker known kept r);
  parts = a.parts;
  breaks = λ e known kept r. a.breaks e known kept (weaker known kept r);
  whatever = a.whatever;
}
