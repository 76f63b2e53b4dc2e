-- What blocks of an inbox that come in together lead to.
use Rattle.std.proofs.Common.{◌≡◌, ◌≤◌, ◌+◌, ◌||◌, ℕ, suc, Bool, true, false, cond, find, List, [], ◌∷◌, ◌++◌, length, take, drop, Option, Some, None, Result, Ok, Err, refl, sym, ap, ◌∙◌, subst, arith, inl, inr}
use Rattle.std.specs.Prelude.{⊤, IfSome, if◌then◌else◌, is_some}
use Rattle.std.specs.Option.{option_map}
use Rattle.std.proofs.lemmas.Bool.{false≢true, or_cases}
use Rattle.std.proofs.lemmas.List.{length-take}
use Rattle.mc_base.specs.Told.{Told}
use Rattle.mc_base.specs.declared.cid.Cid.{Cid}
use Rattle.mc_fetch.specs.Fits.{Map}
use Rattle.mc_keep.specs.Causes.{Kind, Refusal, Fault, Shortage, is_fault_kind}
use Rattle.mc_model.specs.declared.block.Stored.{Stored}
use Rattle.mc_model.specs.Draining.{AllSayRight, FoundBytes, TakesAll, bytes_in, offers_of, queue_in}
use Rattle.mc_model.specs.Events.{Event, Store, Process}
use Rattle.mc_model.specs.Found.{Offers}
use Rattle.mc_model.specs.Front.{same_cid}
use Rattle.mc_model.specs.Graph.{Vertex, has, in_graph}
use Rattle.mc_model.specs.Kept.{cids_of}
use Rattle.mc_model.specs.State.{Durable, IsSound, Running, vertex_of, vertices}
use Rattle.mc_model.specs.Wanted.{Queue, wanted}
use Rattle.mc_model.proofs.Counts.{cid_is, has_times, times_has}
use Rattle.mc_model.proofs.Deliveries.{flight_wanted}
use Rattle.mc_inbox.proofs.GroupFacts.{group_flight, store_within}
use Rattle.mc_inbox.specs.Groups.{AreOffered, group_events, group_of, process_events, store_events, to_store}
use Rattle.mc_group.specs.Inboxes.{GroupEvents, GroupWants, InboxAfter, taken_of}
use Rattle.mc_group.specs.declared.grouped.Grouped.{Grouped}
use Rattle.mc_core.specs.declared.CoreError.{CoreError}
use Rattle.mc_core.specs.Calls.{Call, Faults, IsRefused, Stays}
use Rattle.mc_core.specs.Events.{ReplicaState}
use Rattle.mc_core.specs.Reads.{read_refusal}
use Rattle.mc_core.specs.Refusals.{ByKind, Is, is_fault, kind_of}
use Rattle.mc_core.proofs.GrowthFacts.{GrowLaw}
use Rattle.mc_drain.specs.Groups.{OfferedFor}
use Rattle.mc_drain.specs.Leads.{Leads, all_processes, count}
use Rattle.mc_drain.proofs.EventFacts.{Asked, GoesLaw, StayLaw, breaks_leads, goes_leads, stays_leads}
use Rattle.mc_drain.proofs.FuseFacts.{IsPaced, all_extras}
use Rattle.mc_drain.proofs.StoredFacts.{StoredAsked, bytes_behind}

-- the laws of groups
abbrev pub GroupTakes : Type 0
GroupTakes = (bytes_of : FoundBytes) (durable : Durable) (run : Running) (items : List Stored) → AreOffered bytes_of items → TakesAll bytes_of (record { durable = durable; run = Some run }) (group_events durable.graph (group_of run.queue.flight items))

abbrev pub GroupSays : Type 0
GroupSays = (found : Offers) (durable : Durable) (group : List Stored) → AllSayRight found (group_events durable.graph group)

abbrev pub GroupFew : Type 0
GroupFew = (flight : List Cid) (items : List Stored) → length (group_of flight items) ≤ length items

-- a group stores once at the most, and processes as many blocks as it has, one where it stores
stores_once : (items : List Stored) → all_extras (store_events items) ≤ 1
stores_once [] = omega arith
stores_once (item ∷ items) = omega arith

stores_some : (graph : List Vertex) (group : List Stored) → all_extras (store_events (to_store graph group)) ≤ length group
stores_some graph [] = omega arith
stores_some graph (item ∷ group) = over (in_graph graph item.cid) (let one = stores_once (item ∷ to_store graph group) in let rest = stores_some graph group in (one, rest))
  where
    over : (b : Bool) → (all_extras (store_events (item ∷ to_store graph group)) ≤ 1) × (all_extras (store_events (to_store graph group)) ≤ length group) → all_extras (store_events (if b then to_store graph group else (item ∷ to_store graph group))) ≤ suc (length group)
    over true both = let e = both.1 in omega (arith, e)
    over false both = let e = both.0 in omega (arith, e)

stores_none : (items : List Stored) → all_processes (store_events items) ≡ 0
stores_none [] = refl
stores_none (item ∷ items) = refl

processes_all : (cids : List Cid) → all_processes (process_events cids) ≡ length cids
processes_all [] = refl
processes_all (c ∷ cids) = omega arith

processes_free : (cids : List Cid) → all_extras (process_events cids) ≡ 0
processes_free [] = refl
processes_free (c ∷ cids) = refl

extras_both : (xs ys : List Event) → all_extras (xs ++ ys) ≡ all_extras xs + all_extras ys
extras_both [] ys = omega arith
extras_both (x ∷ xs) ys = let e = extras_both xs ys in omega (arith, e)

processes_both : (xs ys : List Event) → all_processes (xs ++ ys) ≡ all_processes xs + all_processes ys
processes_both [] ys = omega arith
processes_both (x ∷ xs) ys = let e = processes_both xs ys in omega (arith, e)

cids_many : (items : List Stored) → length (cids_of items) ≡ length items
cids_many [] = refl
cids_many (item ∷ items) = ap suc (cids_many items)

group_processes : (graph : List Vertex) (group : List Stored) → all_processes (group_events graph group) ≡ length group
group_processes graph group =
    let both = processes_both (store_events (to_store graph group)) (process_events (cids_of group)) in
    let none = stores_none (to_store graph group) in
    let all = processes_all (cids_of group) in
    let many = cids_many group in omega (arith, both, none, all, many)

group_paced : (graph : List Vertex) (group : List Stored) → IsPaced (group_events graph group)
group_paced graph group =
    let both = extras_both (store_events (to_store graph group)) (process_events (cids_of group)) in
    let free = processes_free (cids_of group) in
    let once = stores_once (to_store graph group) in
    let some = stores_some graph group in
    let all = group_processes graph group in record { few = omega (arith, both, free, once); paid = omega (arith, both, free, some, all) }

none_flies : (items : List Stored) → group_of [] items ≡ []
none_flies [] = refl
none_flies (item ∷ items) = none_flies items

-- what a group stores is of the group, and new
stores_of : (stores : List Stored) (c : Cid) (bytes : List ℕ) → bytes_in (vertices stores) c ≡ Some bytes → has c (cids_of stores) ≡ true
stores_of [] c bytes e = absurd (false≢true (ap is_some e))
stores_of (x ∷ stores) c bytes e =
    elim (same_cid c x.cid) as (λ t. option_map (λ (vertex : Vertex). vertex.bytes) (cond t (Some (vertex_of x)) (find (λ (vertex : Vertex). same_cid c vertex.cid) (vertices stores))) ≡ Some bytes → (t || has c (cids_of stores)) ≡ true) [
      | true ↦ λ h. refl
      | false ↦ λ h. stores_of stores c bytes h
    ] e

stores_new : (graph : List Vertex) (group : List Stored) (c : Cid) → has c (cids_of (to_store graph group)) ≡ true → in_graph graph c ≡ false
stores_new graph [] c e = absurd (false≢true e)
stores_new graph (item ∷ group) c e =
    (elim (in_graph graph item.cid) as (λ t. in_graph graph item.cid ≡ t → has c (cids_of (if t then to_store graph group else (item ∷ to_store graph group))) ≡ true → in_graph graph c ≡ false) [
      | true ↦ λ there h. stores_new graph group c h
      | false ↦ λ new h. elim (or_cases (same_cid c item.cid) (has c (cids_of (to_store graph group))) h) [
        | inl same ↦ ap (in_graph graph) (cid_is c item.cid same) ∙ new
        | inr rest ↦ stores_new graph group c rest
      ]
    ]) refl e

module _ (durable : Durable) (run : Running) where
  takes_stored : (stores : List Stored) (cids : List Cid) → ((c : Cid) (bytes : List ℕ) → bytes_in (vertices stores) c ≡ Some bytes → (has c (wanted run.queue) ≡ true) × (in_graph durable.graph c ≡ false)) → ((c : Cid) → has c cids ≡ true → has c (wanted run.queue) ≡ true)
      → StoredAsked (record { durable = durable; run = Some run }) (store_events stores ++ process_events cids)
  takes_stored [] [] s p = λ map h. tt
  takes_stored [] (d ∷ cids) s p = λ map h. (p, tt)
  takes_stored (x ∷ stores) [] s p = λ map h. (λ c bytes e. let is = s c bytes e in (is.0, h c bytes (bytes_behind durable.graph (vertices (x ∷ stores)) c bytes is.1 e)), tt)
  takes_stored (x ∷ stores) (d ∷ cids) s p = λ map h. (λ c bytes e. let is = s c bytes e in (is.0, h c bytes (bytes_behind durable.graph (vertices (x ∷ stores)) c bytes is.1 e)), (p, tt))

  group_stored : (items : List Stored) → StoredAsked (record { durable = durable; run = Some run }) (group_events durable.graph (group_of run.queue.flight items))
  group_stored items =
      let group : List Stored = group_of run.queue.flight items in
      let wants : (c : Cid) → has c (cids_of group) ≡ true → has c (wanted run.queue) ≡ true =
      λ c e. let t = times_has c (cids_of group) e in let w = group_flight run.queue.flight items c in flight_wanted run.queue c (has_times c run.queue.flight (omega (arith, t, w))) in
      takes_stored (to_store durable.graph group) (cids_of group)
      (λ c bytes e. let there = stores_of (to_store durable.graph group) c bytes e in
      let t = times_has c (cids_of (to_store durable.graph group)) there in let w = store_within durable.graph group c in
      (wants c (has_times c (cids_of group) (omega (arith, t, w))), stores_new durable.graph group c there))
      wants

planned_stored : (items : List Stored) (s : ReplicaState) (events : List Event) → events ≡ group_events s.state.durable.graph (taken_of (queue_in s.state.run) items) → StoredAsked s.state events
planned_stored items s events is = subst (StoredAsked s.state) (sym is) (over s.state.run)
  where
    over : (run : Option Running) → StoredAsked (record { durable = s.state.durable; run = run }) (group_events s.state.durable.graph (taken_of (queue_in run) items))
    over None = subst (λ (g : List Stored). StoredAsked (record { durable = s.state.durable; run = None }) (group_events s.state.durable.graph g)) (sym (none_flies items)) (λ map h. tt)
    over (Some run) = group_stored s.state.durable run items

module _ (grow_law : GrowLaw) (goes_law : GoesLaw) (stay_law : StayLaw) (takes_law : GroupTakes) (says_law : GroupSays) (few_law : GroupFew) where
  -- a plan of a group: as many blocks, paced, and no more asked than that their bytes are found
  planned : (items : List Stored) (s : ReplicaState) (events : List Event) → events ≡ group_events s.state.durable.graph (taken_of (queue_in s.state.run) items)
      → (all_processes events ≤ length items) × IsPaced events × Asked (OfferedFor items) s.state events
  planned items s events is = subst (λ (e : List Event). (all_processes e ≤ length items) × IsPaced e × Asked (OfferedFor items) s.state e) (sym is) (
    (let many = group_processes s.state.durable.graph (taken_of (queue_in s.state.run) items) in let few = few_law (queue_in s.state.run).flight items in omega (arith, many, few)),
    group_paced s.state.durable.graph (taken_of (queue_in s.state.run) items),
    λ known kept p. (takes known s.state.run p, says_law (offers_of known) s.state.durable (taken_of (queue_in s.state.run) items)),
  )
    where
      takes : (known : Map) (run : Option Running) → AreOffered known items → TakesAll known (record { durable = s.state.durable; run = run }) (group_events s.state.durable.graph (taken_of (queue_in run) items))
      takes known None p = subst (λ (g : List Stored). TakesAll known (record { durable = s.state.durable; run = None }) (group_events s.state.durable.graph g)) (sym (none_flies items)) tt
      takes known (Some run) p = takes_law known s.state.durable run items p

  pub group_leads : (items : List Stored) (most : ℕ) (rose : Type 0) (result : Result Grouped CoreError) (s new : ReplicaState) → length items ≤ most → IsSound s.state → Call (Is (read_refusal s)) (GroupEvents s items) (Stays s) rose result s new
      → Leads (is_fault result) (count s + most) (OfferedFor items) s new
  group_leads items most rose (Ok grouped) s new few sound call =
      let p = planned items s call.events call.makes.are in
      let n = p.0 in goes_leads grow_law goes_law stay_law (OfferedFor items) call.events s new (count s + most) call.goes sound (omega (arith, n, few)) p.1 p.2 (planned_stored items s call.events call.makes.are)
  group_leads items most rose (Err error) s new few sound call = over (kind_of error) call
    where
      nothing : (events : List Event) → events ≡ [] → (all_processes events ≤ 0) × IsPaced events × Asked (OfferedFor items) s.state events
      nothing events none = subst (λ (e : List Event). (all_processes e ≤ 0) × IsPaced e × Asked (OfferedFor items) s.state e) (sym none) (omega arith, record { few = omega arith; paid = omega arith }, λ known kept p. (tt, tt))

      over : (kind : Kind) → ByKind (IsRefused (Is (read_refusal s)) error s new) (Faults (GroupEvents s items) rose s new) (Stays s new) kind → Leads (is_fault_kind kind) (count s + most) (OfferedFor items) s new
      over Refusal refused = stays_leads grow_law goes_law stay_law (OfferedFor items) s new (count s + most) refused.1 (omega arith)
      over Fault faults = elim faults.begins [
        | inl none ↦ (let p = nothing faults.events none in let n = p.0 in breaks_leads grow_law goes_law stay_law (OfferedFor items) faults.events rose s new (count s + most) faults.breaks sound (omega (arith, n)) p.1 p.2)
        | inr (answer, plan) ↦ (let p = planned items s faults.events plan.are in let n = p.0 in breaks_leads grow_law goes_law stay_law (OfferedFor items) faults.events rose s new (count s + most) faults.breaks sound (omega (arith, n, few)) p.1 p.2)
      ]
      over Shortage short = stays_leads grow_law goes_law stay_law (OfferedFor items) s new (count s + most) short (omega arith)

  pub group_told : (items : List Stored) (most : ℕ) (rose : Type 0) (result : Result Grouped CoreError) (failed : Bool) (a b : Option ReplicaState) → length items ≤ most → is_fault result ≡ failed → IfSome a (λ s. IsSound s.state)
      → Told a b (λ s new. Call (Is (read_refusal s)) (GroupEvents s items) (Stays s) rose result s new) → Told a b (λ s new. Leads failed (count s + most) (OfferedFor items) s new)
  group_told items most rose result failed None b few flag sound t = tt
  group_told items most rose result failed (Some s) None few flag sound t = absurd t
  group_told items most rose result failed (Some s) (Some new) few flag sound t = subst (λ (f : Bool). Leads f (count s + most) (OfferedFor items) s new) flag (group_leads items most rose result s new few sound t)

-- no more than so many are taken
pub takes_few : {A : Type 0} (n : ℕ) (xs : List A) → length (take n xs) ≤ n
takes_few n xs = let l = length-take n xs in omega (arith, l)

-- the inbox, and what is wanted, after a want of memory and after a fault
pub left_items : (error : CoreError) (limit : ℕ) (old new : List Stored) → is_fault_kind (kind_of error) ≡ false → InboxAfter (Err error) limit old new → new ≡ old
left_items error limit old new calm after = short (kind_of error) calm after
  where
    short : (kind : Kind) → is_fault_kind kind ≡ false → ByKind (new ≡ old) ((n : ℕ) × (new ≡ drop n old)) (new ≡ old) kind → new ≡ old
    short Refusal e a = a
    short Fault e a = absurd (false≢true (sym e))
    short Shortage e a = a

pub lost_items : (error : CoreError) (limit : ℕ) (old new : List Stored) → is_fault_kind (kind_of error) ≡ true → InboxAfter (Err error) limit old new → (n : ℕ) × (new ≡ drop n old)
lost_items error limit old new failed after = lost (kind_of error) failed after
  where
    lost : (kind : Kind) → is_fault_kind kind ≡ true → ByKind (new ≡ old) ((n : ℕ) × (new ≡ drop n old)) (new ≡ old) kind → (n : ℕ) × (new ≡ drop n old)
    lost Refusal e a = absurd (false≢true e)
    lost Fault e a = a
    lost Shortage e a = absurd (false≢true e)

pub left_wants : (error : CoreError) (items : List Stored) (q left : Queue) → is_fault_kind (kind_of error) ≡ false → GroupWants (Err error) items q left → left ≡ q
left_wants error items q left calm after = short (kind_of error) calm after
  where
    short : (kind : Kind) → is_fault_kind kind ≡ false → ByKind (left ≡ q) ⊤ (left ≡ q) kind → left ≡ q
    short Refusal e a = a
    short Fault e a = absurd (false≢true (sym e))
    short Shortage e a = a
