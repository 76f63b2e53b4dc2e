-- What a command that has one outcome makes: its events and its reply are those of its world alone.
use Rattle.std.proofs.Common.{◌≡◌, ℕ, Bool, true, false, ◌&&◌, true≢false, List, [], ◌∷◌, ◌++◌, length, map, Option, Some, None, Result, Ok, Err, refl, sym, ◌∙◌, ap, subst, inl, inr, arith}
use Rattle.std.specs.Prelude.{◌⊎◌, is_ok, is_some, unwrap_or}
use Rattle.std.specs.List.{AllByRecursion}
use Rattle.std.specs.Option.{option_map}
use Rattle.mc_base.specs.Told.{Told}
use Rattle.mc_base.specs.declared.cid.Cid.{Cid}
use Rattle.mc_base.proofs.Cids.{cid_same}
use Rattle.mc_fetch.specs.Peers.{offers_at, onto_peers}
use Rattle.mc_fetch.specs.declared.job.Delivered.{Delivered}
use Rattle.mc_fetch.specs.declared.job.Delivered.TheVariants as delivered
use Rattle.mc_fetch.specs.declared.plants.Planted.{Planted}
use Rattle.mc_keep.specs.declared.fuse.Fuse.{Fuse}
use Rattle.mc_model.specs.Batch.{is_empty_batch}
use Rattle.mc_model.specs.Draining.{delivery, queue_in}
use Rattle.mc_model.specs.Events.{Event, Hear as HearOf, Want}
use Rattle.mc_model.specs.Found.{PeerOffers, damage_number}
use Rattle.mc_model.specs.Kept.{Kept, bytes_at}
use Rattle.mc_model.specs.Offer.{Damage, offer}
use Rattle.mc_model.specs.State.{Durable, OpenBatch, Running, durable_of, kept_of}
use Rattle.mc_model.specs.Wanted.{hear_all}
use Rattle.mc_core.specs.Batches.{BatchBecomes, OfBatch, OfRun}
use Rattle.mc_core.specs.Deletes.{chain_events}
use Rattle.mc_core.specs.Events.{Goes, ReplicaState, all_happen, burnt_by, commits, goes_on, state_of}
use Rattle.mc_core.specs.Hears.{HearEvents, IsQueued}
use Rattle.mc_core.specs.Jobs.{IsDelivered, first_waiting}
use Rattle.mc_core.specs.Puts.{next_links}
use Rattle.mc_core.specs.declared.Heard.{Heard}
use Rattle.mc_core.specs.declared.Written.{Written}
use Rattle.mc_car.specs.declared.car.Car.{Car}
use Rattle.mc_car.specs.declared.fault.CarFault.{CarFault}
use Rattle.mc_feed.specs.declared.event.Event.{Event as Change}
use Rattle.mc_files.specs.Files.{ImportEvents, IsExport, TakeEvents, blocks_of}
use Rattle.mc_files.specs.declared.taking.Imported.{Imported}
use Rattle.mc_past.specs.Past.{FoundsAreOne}
use Rattle.mc_model.specs.declared.block.Stored.{Stored}
use Rattle.mc_model.specs.declared.delta.Delta.{Delta}
use Rattle.mc_script.specs.declared.command.Command.{Command}
use Rattle.mc_script.specs.declared.command.Command.TheVariants.{Put, Del, Begin, BatchPut, BatchDel, Commit, Feed, GetAt, Hear, Import, Step as StepOf}
use Rattle.mc_script.specs.declared.reply.Reply.{Reply}
use Rattle.mc_script.specs.declared.reply.Reply.TheVariants.{Bad, Deleted, Events, Priority, Queued, Idle}
use Rattle.mc_seats.specs.declared.error.ActError.{ActError}
use Rattle.mc_seats.specs.Asks.{car_at, message_at}
use Rattle.mc_seats.specs.Calling.{Finds, Makes, Outcome, batch_priority, outcome_of}
use Rattle.mc_seats.specs.Doing.{At, Calls, Doing, Hears, Imports, Steps, below_reply, change_of, doing}
use Rattle.mc_seats.specs.Effects.{events_by, happens_by, import_reply}
use Rattle.mc_seats.specs.Fetching.{Decides, IsFound, IsStepReply, StepEvents, StepsWith, all_tell, first_in_front, offers_of}
use Rattle.mc_seats.specs.Worlds.{Place, WorldState, peer_row, peers_of, picked, state_at}
use Rattle.mc_runs.specs.OneText.{AreOpen, IsOpen, has_one_outcome}
use Rattle.mc_runs.proofs.BelowFacts.{below_again}
use Rattle.mc_runs.proofs.OneDeletes.{deltas_one}

-- values under constructors

pub some_is : {A : Type 0} {x y : A} → Some x ≡ Some y → x ≡ y
some_is {A} {x} {y} e = ap (λ (o : Option A). unwrap_or o x) e

pub ok_is : (x y : Reply) → ◌≡◌ {A = Result Reply ActError} (Ok x) (Ok y) → x ≡ y
ok_is x y e = ap (or_first x) e
  where
    or_first : Reply → Result Reply ActError → Reply
    or_first x (Ok y) = y
    or_first x (Err error) = x

pub no_some : {A : Type 0} {x : A} → None ≡ Some x → ⊥
no_some e = true≢false (sym (ap is_some e))

-- what a place is, by its state

abbrev pub BackLaw : Type 0
BackLaw = (kept : Kept) → kept_of (durable_of kept) ≡ kept

-- what is exported of something that is kept is one
abbrev pub ExportsLaw : Type 0
ExportsLaw = (kept : Kept) (first second : List ℕ) → IsExport kept (Ok first) → IsExport kept (Ok second) → first ≡ second

-- what these facts stand on
pub record OneLaws : Type 0 where
  pub back : BackLaw
  pub exports : ExportsLaw
  pub founds : FoundsAreOne

pub told_state : (armed : Bool) → (p : Place) → IsOpen armed p → (s : ReplicaState) × (state_at p ≡ Some s) × (armed ≡ false → s.fuse ≡ None)
told_state armed p open_p = over p.content p.fuse p.run open_p.told open_p.no_fuse
  where
    over : (content : Option Kept) (fuse : Option Fuse) (run : Option Running) → is_some content ≡ true → (armed ≡ false → fuse ≡ None) → (s : ReplicaState) × (state_of content fuse run ≡ Some s) × (armed ≡ false → s.fuse ≡ None)
    over None fuse run told none = absurd (true≢false (sym told))
    over (Some kept) fuse run told none = (record { state = record { durable = durable_of kept; run = run }; fuse = fuse }, refl, none)

module _ (back : BackLaw) where
  place_of : (content : Option Kept) (fuse : Option Fuse) (run : Option Running) (planted : List Planted) (n : ReplicaState) → state_of content fuse run ≡ Some n
      → ◌≡◌ {A = Place} (record { content = content; fuse = fuse; run = run; planted = planted }) (record { content = Some (kept_of n.state.durable); fuse = n.fuse; run = n.state.run; planted = planted })
  place_of None fuse run planted n e = absurd (no_some e)
  place_of (Some kept) fuse run planted n e =
      let same : ◌≡◌ {A = ReplicaState} (record { state = record { durable = durable_of kept; run = run }; fuse = fuse }) n = some_is e in
      let content : kept ≡ kept_of n.state.durable = sym (back kept) ∙ ap (λ (x : ReplicaState). kept_of x.state.durable) same in
      λ i. record { content = Some (content i); fuse = (same i).fuse; run = (same i).state.run; planted = planted }

  pub same_place : (q q2 : Place) (n : ReplicaState) → state_at q ≡ Some n → state_at q2 ≡ Some n → q.planted ≡ q2.planted → q ≡ q2
  same_place q q2 n e e2 planted =
      place_of q.content q.fuse q.run q.planted n e ∙ (λ i. record { content = Some (kept_of n.state.durable); fuse = n.fuse; run = n.state.run; planted = planted i }) ∙ sym (place_of q2.content q2.fuse q2.run q2.planted n e2)

  pub open_still : (armed : Bool) (q : Place) (n : ReplicaState) → state_at q ≡ Some n → (armed ≡ false → n.fuse ≡ None) → IsOpen armed q
  open_still armed q n e none =
      let is = place_of q.content q.fuse q.run q.planted n e in
      record { told = ap (λ (p : Place). is_some p.content) is; no_fuse = λ off. ap (λ (p : Place). p.fuse) is ∙ none off }

-- events over a keeper without a fuse

none_burns : (commit : Bool) → burnt_by commit None ≡ None
none_burns true = refl
none_burns false = refl

no_fuse_still : (events : List Event) (s : ReplicaState) → s.fuse ≡ None → (all_happen s events).fuse ≡ None
no_fuse_still [] s none = none
no_fuse_still (event ∷ events) s none = no_fuse_still events (goes_on s event) (ap (burnt_by (commits s event)) none ∙ none_burns (commits s event))

-- what has happened at a place that tells

abbrev pub Made : WorldState → ReplicaState → Doing → Type 0
Made w s d = (events events2 : List Event) (reply reply2 : Reply) → events_by w s d events reply → events_by w s d events2 reply2 → (events ≡ events2) × (reply ≡ reply2)

-- two places after one are one, and so are the replies
pub record IsOnePlace (armed : Bool) (q q2 : Place) (reply reply2 : Reply) : Type 0 where
  pub same : q ≡ q2
  pub says : reply ≡ reply2
  pub still : IsOpen armed q

told_end : (w : WorldState) (d : Doing) (reply : Reply) (s : ReplicaState) (p q : Place) → state_at p ≡ Some s → happens_by w d p q reply → (events : List Event) × events_by w s d events reply × (state_at q ≡ Some (all_happen s events))
told_end w d reply s p q is happens = over (state_at q) (subst (λ (o : Option ReplicaState). Told o (state_at q) (λ s new. (events : List Event) × events_by w s d events reply × Goes events s new)) is happens)
  where
    over : (o : Option ReplicaState) → Told (Some s) o (λ s new. (events : List Event) × events_by w s d events reply × Goes events s new) → (events : List Event) × events_by w s d events reply × (o ≡ Some (all_happen s events))
    over None told = absurd told
    over (Some new) told = (told.0, told.1, ap Some told.2.ends)

pub both_happen : (armed : Bool) → (back : BackLaw) (w : WorldState) (d : Doing) (p q q2 : Place) (reply reply2 : Reply) → IsOpen armed p → ((s : ReplicaState) → Made w s d) → q.planted ≡ p.planted → q2.planted ≡ p.planted → happens_by w d p q reply → happens_by w d p q2 reply2 → IsOnePlace armed q q2 reply reply2
both_happen armed back w d p q q2 reply reply2 open_p made planted planted2 happens happens2 =
    let s = told_state armed p open_p in
    let first = told_end w d reply s.0 p q s.1 happens in
    let second = told_end w d reply2 s.0 p q2 s.1 happens2 in
    let one = made s.0 first.0 second.0 reply reply2 first.1 second.1 in
    record {
      same = same_place back q q2 (all_happen s.0 first.0) first.2 (second.2 ∙ ap (λ (events : List Event). Some (all_happen s.0 events)) (sym one.0)) (planted ∙ sym planted2);
      says = one.1;
      still = open_still back armed q (all_happen s.0 first.0) first.2 (λ off. no_fuse_still first.0 s.0 (s.2 off));
    }

-- which events are made

of_batch : (batch : Option OpenBatch) (P Q : OpenBatch → Type 0) (R : Type 0) → ((b : OpenBatch) → P b → Q b → R) → OfBatch batch P → OfBatch batch Q → R
of_batch None P Q R f p q = absurd p
of_batch (Some b) P Q R f p q = f b p q

of_run : (run : Option Running) (P Q : OpenBatch → Type 0) (R : Type 0) → ((b : OpenBatch) → P b → Q b → R) → OfRun run P → OfRun run Q → R
of_run None P Q R f p q = absurd p
of_run (Some run) P Q R f p q = of_batch run.batch P Q R f p q

becomes_one : (kept : Kept) (batch : OpenBatch) (empty : Bool) (events events2 : List Event) (answer answer2 : Option Written) → BatchBecomes kept batch empty events answer → BatchBecomes kept batch empty events2 answer2 → (events ≡ events2) × (answer ≡ answer2)
becomes_one kept batch true events events2 answer answer2 h h2 = (h.0 ∙ sym h2.0, h.1 ∙ sym h2.1)
becomes_one kept batch false events events2 answer answer2 h h2 = (h.0 ∙ sym h2.0, h.1 ∙ sym h2.1)

has_more : List (Option (List ℕ)) → Bool
has_more [] = false
has_more (x ∷ xs) = true

tail_of : List (Option (List ℕ)) → List (Option (List ℕ))
tail_of [] = []
tail_of (x ∷ xs) = xs

head_of : List (Option (List ℕ)) → List ℕ
head_of [] = []
head_of (x ∷ xs) = unwrap_or x []

same_cids : (cids cids2 : List Cid) → map Some (map (λ (c : Cid). c.0) cids) ≡ map Some (map (λ (c : Cid). c.0) cids2) → cids ≡ cids2
unfolding has_more tail_of head_of
same_cids [] [] e = refl
same_cids [] (d ∷ cids2) e = absurd (true≢false (sym (ap has_more e)))
same_cids (c ∷ cids) [] e = absurd (true≢false (ap has_more e))
same_cids (c ∷ cids) (d ∷ cids2) e =
    let first : c ≡ d = cid_same c d (ap head_of e) in
    let rest : cids ≡ cids2 = same_cids cids cids2 (ap tail_of e) in
    λ i. first i ∷ rest i

-- the peers of a world that tells are told

pub all_picked : (P : Place → Type 0) (marks : List Bool) (places : List Place) → AllByRecursion P places → AllByRecursion P (picked marks places)
all_picked P [] places all = tt
all_picked P (mark ∷ marks) [] all = tt
all_picked P (true ∷ marks) (p ∷ places) all = (all.0, all_picked P marks places all.1)
all_picked P (false ∷ marks) (p ∷ places) all = all_picked P marks places all.1

all_told : (armed : Bool) → (places : List Place) → AllByRecursion (IsOpen armed) places → all_tell places ≡ true
all_told armed [] all = refl
all_told armed (p ∷ places) all = ap (λ b. b && all_tell places) all.0.told ∙ all_told armed places all.1

place_told : (planted : List Planted) (content : Option Kept) → is_some content ≡ true → (first : Cid → PeerOffers) × (option_map (offers_at planted) content ≡ Some first)
place_told planted None told = absurd (true≢false (sym told))
place_told planted (Some kept) told = (offers_at planted kept, refl)

pub offers_told : (places : List Place) → AllByRecursion (λ (p : Place). is_some p.content ≡ true) places → (offers : List (Cid → PeerOffers)) × (offers_of places ≡ Some offers)
offers_told [] all = ([], refl)
offers_told (p ∷ places) all =
    let first = place_told p.planted p.content all.0 in
    let rest = offers_told places all.1 in
    (first.0 ∷ rest.0, λ i. onto_peers (first.1 i) (rest.1 i))

decides_one : (front found found2 : Option (List ℕ)) → Decides front true found → Decides front true found2 → found ≡ found2
decides_one None found found2 is is2 = is ∙ sym is2
decides_one (Some bytes) found found2 is is2 = is ∙ sym is2

found_one : (armed : Bool) → (kept : Kept) (places : List Place) (cid : Cid) (found found2 : Option (List ℕ)) → AllByRecursion (IsOpen armed) places → IsFound kept places cid found → IsFound kept places cid found2 → found ≡ found2
found_one armed kept places cid found found2 all is is2 =
    let front = first_in_front (bytes_at kept.graph cid) places cid in
    let told = all_told armed places all in
    decides_one front found found2 (subst (λ b. Decides front b found) told is) (subst (λ b. Decides front b found2) told is2)

-- what is answered for a job

err_or : {T : Type 0} → Damage → Result T Damage → Damage
err_or why (Ok value) = why
err_or why (Err other) = other

delivered_one : (durable : Durable) (cid : Cid) (found : Option (List ℕ)) (d d2 : Delivered) (reply reply2 : Reply) → IsDelivered durable cid found d → IsDelivered durable cid found d2 → IsStepReply d reply → IsStepReply d2 reply2 → reply ≡ reply2
unfolding err_or
delivered_one durable cid found (delivered.Processed position) (delivered.Processed position2) reply reply2 is is2 says says2 = says ∙ sym says2
delivered_one durable cid found (delivered.Processed position) delivered.Missing reply reply2 (bytes, block, found_is, good, at) is2 says says2 = absurd (no_some (sym is2 ∙ found_is))
delivered_one durable cid found (delivered.Processed position) (delivered.Bad damage) reply reply2 (bytes, block, found_is, good, at) (bytes2, why, found_is2, bad, number) says says2 =
    absurd (true≢false (sym (ap is_ok good) ∙ ap (λ (b : List ℕ). is_ok (offer cid b)) (some_is (sym found_is ∙ found_is2)) ∙ ap is_ok bad))
delivered_one durable cid found delivered.Missing (delivered.Processed position) reply reply2 is (bytes, block, found_is, good, at) says says2 = absurd (no_some (sym is ∙ found_is))
delivered_one durable cid found delivered.Missing delivered.Missing reply reply2 is is2 says says2 = says ∙ sym says2
delivered_one durable cid found delivered.Missing (delivered.Bad damage) reply reply2 is (bytes, why, found_is, bad, number) says says2 = absurd (no_some (sym is ∙ found_is))
delivered_one durable cid found (delivered.Bad damage) (delivered.Processed position) reply reply2 (bytes2, why, found_is2, bad, number) (bytes, block, found_is, good, at) says says2 =
    absurd (true≢false (sym (ap is_ok good) ∙ ap (λ (b : List ℕ). is_ok (offer cid b)) (some_is (sym found_is ∙ found_is2)) ∙ ap is_ok bad))
delivered_one durable cid found (delivered.Bad damage) delivered.Missing reply reply2 (bytes, why, found_is, bad, number) is2 says says2 = absurd (no_some (sym is2 ∙ found_is))
delivered_one durable cid found (delivered.Bad damage) (delivered.Bad damage2) reply reply2 (bytes, why, found_is, bad, number) (bytes2, why2, found_is2, bad2, number2) says says2 =
    let same : offer cid bytes ≡ offer cid bytes2 = ap (offer cid) (some_is (sym found_is ∙ found_is2)) in
    let whys : why ≡ why2 = ap (err_or why) (sym bad ∙ same ∙ bad2) in
    says ∙ ap Bad (number ∙ ap damage_number whys ∙ sym number2) ∙ sym says2
delivered_one durable cid found delivered.Known d2 reply reply2 is is2 says says2 = absurd is
delivered_one durable cid found (delivered.Processed position) delivered.Known reply reply2 is is2 says says2 = absurd is2
delivered_one durable cid found delivered.Missing delivered.Known reply reply2 is is2 says says2 = absurd is2
delivered_one durable cid found (delivered.Bad damage) delivered.Known reply reply2 is is2 says says2 = absurd is2

step_with : (armed : Bool) → (peers : List Place) (s : ReplicaState) (events events2 : List Event) (reply reply2 : Reply) → AllByRecursion (IsOpen armed) peers → StepsWith peers s events reply → StepsWith peers s events2 reply2 → (events ≡ events2) × (reply ≡ reply2)
step_with armed peers s events events2 reply reply2 all a b = (
  a.job ∙ (λ i. Want ∷ delivery s.state.durable.graph (cid i) (found i)) ∙ sym b.job,
  delivered_one s.state.durable a.cid a.found a.delivered b.delivered reply reply2 a.becomes (subst (λ (f : Option (List ℕ)). IsDelivered s.state.durable a.cid f b.delivered) (sym found) (subst (λ (c : Cid). IsDelivered s.state.durable c b.found b.delivered) (sym cid) b.becomes)) a.says b.says,
)
  where
    cid : a.cid ≡ b.cid
    cid = some_is (sym a.first ∙ b.first)

    found : a.found ≡ b.found
    found = found_one armed (kept_of s.state.durable) peers a.cid a.found b.found all a.is_found (subst (λ (c : Cid). IsFound (kept_of s.state.durable) peers c b.found) (sym cid) b.is_found)

step_cases : (peers : List Place) (s : ReplicaState) (events : List Event) (reply : Reply) → StepEvents peers s events reply → ((reply ≡ Idle) × (first_waiting s ≡ None) × (events ≡ [])) ⊎ StepsWith peers s events reply
step_cases peers s events Idle h = inl (refl, h.0, h.1)
step_cases peers s events reply h = inr h

step_made : (armed : Bool) → (peers : List Place) (s : ReplicaState) (events events2 : List Event) (reply reply2 : Reply) → AllByRecursion (IsOpen armed) peers → StepEvents peers s events reply → StepEvents peers s events2 reply2 → (events ≡ events2) × (reply ≡ reply2)
step_made armed peers s events events2 reply reply2 all h h2 = over (step_cases peers s events reply h) (step_cases peers s events2 reply2 h2)
  where
    over : ((reply ≡ Idle) × (first_waiting s ≡ None) × (events ≡ [])) ⊎ StepsWith peers s events reply → ((reply2 ≡ Idle) × (first_waiting s ≡ None) × (events2 ≡ [])) ⊎ StepsWith peers s events2 reply2 → (events ≡ events2) × (reply ≡ reply2)
    over (inl (is, none, empty)) (inl (is2, none2, empty2)) = (empty ∙ sym empty2, is ∙ sym is2)
    over (inl (is, none, empty)) (inr b) = absurd (no_some (sym none ∙ b.first))
    over (inr a) (inl (is2, none2, empty2)) = absurd (no_some (sym none2 ∙ a.first))
    over (inr a) (inr b) = step_with armed peers s events events2 reply reply2 all a b

-- a message that is heard

heard_one : (s : ReplicaState) (text : List ℕ) (events events2 : List Event) (heard heard2 : Heard) → HearEvents s text events heard → HearEvents s text events2 heard2 → (events ≡ events2) × (heard.queued ≡ heard2.queued)
heard_one s text events events2 heard heard2 a b = (a.only ∙ ap (λ (c : List Cid). HearOf c ∷ []) cids ∙ sym b.only, count a.queued b.queued)
  where
    cids : a.cids ≡ b.cids
    cids = same_cids a.cids b.cids (some_is (sym a.named.heads ∙ b.named.heads))

    count : IsQueued (queue_in s.state.run) (hear_all s.state.durable.order (queue_in s.state.run) a.cids) heard.queued → IsQueued (queue_in s.state.run) (hear_all s.state.durable.order (queue_in s.state.run) b.cids) heard2.queued → heard.queued ≡ heard2.queued
    count p q =
        let same = ap (λ (c : List Cid). length (hear_all s.state.durable.order (queue_in s.state.run) c).waiting) cids in
        omega (arith, p, q, same)

-- a file that is taken in

pub file_one : (car car2 : Car) → ◌≡◌ {A = Result Car CarFault} (Ok car) (Ok car2) → car ≡ car2
file_one car car2 e = ap (or_first car) e
  where
    or_first : Car → Result Car CarFault → Car
    or_first car (Ok found) = found
    or_first car (Err fault) = car

taken_one : (s : ReplicaState) (roots : List Cid) (items : List Stored) (events events2 : List Event) (imported imported2 : Imported) → TakeEvents s roots items events imported → TakeEvents s roots items events2 imported2 → (events ≡ events2) × (imported ≡ imported2)
taken_one s roots items events events2 imported imported2 a b =
    let stored : imported.stored ≡ imported2.stored = a.keeps.counts ∙ sym b.keeps.counts in
    let queued : imported.queued ≡ imported2.queued = count a.heard b.heard in
    (a.are ∙ ap (λ (store : List Event). store ++ HearOf roots ∷ []) (a.keeps.are ∙ sym b.keeps.are) ∙ sym b.are, λ i. record { stored = stored i; queued = queued i })
  where
    count : IsQueued (queue_in s.state.run) (hear_all s.state.durable.order (queue_in s.state.run) roots) imported.queued → IsQueued (queue_in s.state.run) (hear_all s.state.durable.order (queue_in s.state.run) roots) imported2.queued → imported.queued ≡ imported2.queued
    count p q = omega (arith, p, q)

imported_one : (s : ReplicaState) (text : List ℕ) (events events2 : List Event) (said said2 : Result Imported ℕ) → ImportEvents s text events said → ImportEvents s text events2 said2 → (events ≡ events2) × (said ≡ said2)
imported_one s text events events2 (Ok imported) (Ok imported2) a b =
    let car : b.car ≡ a.car = file_one b.car a.car (sym b.found ∙ a.found) in
    let both = taken_one s a.car.roots (blocks_of a.car) events events2 imported imported2 a.takes (subst (λ (c : Car). TakeEvents s c.roots (blocks_of c) events2 imported2) car b.takes) in
    (both.0, ap Ok both.1)
imported_one s text events events2 (Ok imported) (Err number) a b = absurd (no_some (sym a.sound ∙ b.1))
imported_one s text events events2 (Err number) (Ok imported) a b = absurd (no_some (sym b.sound ∙ a.1))
imported_one s text events events2 (Err number) (Err number2) a b = (a.0 ∙ sym b.0, ap Err (some_is (sym a.1 ∙ b.1)))

-- which events a command makes

abbrev pub made_by : Doing → Bool
made_by (At r (Calls call)) = true
made_by (At r (Hears message)) = true
made_by (At r (Imports car)) = true
made_by (At r Steps) = true
made_by d = false

abbrev is_found : Outcome → Bool
is_found (Finds find says) = true
is_found (Makes M) = false

abbrev found_by : Doing → Bool
found_by (At r (Calls call)) = is_found call.outcome
found_by d = false

outcome_one : (outcome : Outcome) (s : ReplicaState) (events events2 : List Event) (reply reply2 : Reply) → is_found outcome ≡ true
    → outcome_of outcome s events reply → outcome_of outcome s events2 reply2 → (events ≡ events2) × (reply ≡ reply2)
outcome_one (Finds find says) s events events2 reply reply2 found h h2 = (h.1.0 ∙ sym h2.1.0, h.2 ∙ ap says (h.1.1 ∙ sym h2.1.1) ∙ sym h2.2)
outcome_one (Makes M) s events events2 reply reply2 found h h2 = absurd (true≢false (sym found))

-- a command that only reads, of those that make events
reading_one : (w : WorldState) (s : ReplicaState) (d : Doing) → made_by d ≡ true → found_by d ≡ made_by d → Made w s d
reading_one w s (At r (Calls call)) made found = λ events events2 reply reply2 h h2. outcome_one call.outcome s events events2 reply reply2 found h h2
reading_one w s (At r (Hears message)) made found = absurd (true≢false (sym found))
reading_one w s (At r (Imports car)) made found = absurd (true≢false (sym found))
reading_one w s (At r Steps) made found = absurd (true≢false (sym found))
reading_one w s d made found = absurd (true≢false (sym made))

pub made_one : (armed : Bool) (founds : FoundsAreOne) (w : WorldState) (s : ReplicaState) (command : Command) → AreOpen armed w → has_one_outcome armed command ≡ true → made_by (doing command) ≡ true → Made w s (doing command)
made_one armed founds w s (Put r key bytes) all one made = λ events events2 reply reply2 h h2. (h.1.0 ∙ sym h2.1.0, h.2 ∙ ap (λ (x : Written). Priority x.priority) (h.1.1 ∙ sym h2.1.1) ∙ sym h2.2)
made_one armed founds w s (Del r key) all one made = λ events events2 reply reply2 h h2.
    let kept = kept_of s.state.durable in
    let deltas : h.1.0 ≡ h2.1.0 = deltas_one kept key h.1.0 h2.1.0 h.1.1 h2.1.1 in (
      h.1.2 ∙ ap (chain_events kept (next_links kept)) deltas ∙ sym h2.1.2,
      h.2 ∙ ap Deleted (h.1.3 ∙ ap (λ (l : List Delta). length l) deltas ∙ sym h2.1.3) ∙ sym h2.2,
    )
made_one armed founds w s (Begin r) all one made = λ events events2 reply reply2 h h2. (h.1 ∙ sym h2.1, h.2 ∙ sym h2.2)
made_one armed founds w s (BatchPut r key bytes) all one made = λ events events2 reply reply2 h h2. (of_run s.state.run _ _ (events ≡ events2) (λ b p q. p ∙ sym q) h.1 h2.1, h.2 ∙ sym h2.2)
made_one armed founds w s (BatchDel r key) all one made = λ events events2 reply reply2 h h2. (of_run s.state.run _ _ (events ≡ events2) (λ b p q. p ∙ sym q) h.1 h2.1, h.2 ∙ sym h2.2)
made_one armed founds w s (Commit r) all one made = λ events events2 reply reply2 h h2.
    let both = of_run s.state.run (λ batch. BatchBecomes (kept_of s.state.durable) batch (is_empty_batch batch) events h.0) (λ batch. BatchBecomes (kept_of s.state.durable) batch (is_empty_batch batch) events2 h2.0) ((events ≡ events2) × (h.0 ≡ h2.0))
    (λ b p q. becomes_one (kept_of s.state.durable) b (is_empty_batch b) events events2 h.0 h2.0 p q) h.1 h2.1 in
    (both.0, h.2 ∙ ap (λ (x : Option Written). Priority (batch_priority x)) both.1 ∙ sym h2.2)
made_one armed founds w s (Hear r message) all one made = λ events events2 reply reply2 h h2.
    let both = heard_one s (message_at w.around.bag message) events events2 h.0 h2.0 h.1 h2.1 in (both.0, h.2 ∙ ap Queued both.1 ∙ sym h2.2)
made_one armed founds w s (Import r car) all one made = λ events events2 reply reply2 h h2.
    let both = imported_one s (car_at w.around.bag car) events events2 h.0 h2.0 h.1 h2.1 in (both.0, h.2 ∙ ap import_reply both.1 ∙ sym h2.2)
made_one armed founds w s (Feed r from count) all one made = λ events events2 reply reply2 h h2. (h.1.0 ∙ sym h2.1.0, h.2 ∙ ap (λ (found : List Change). Events (map change_of found)) (h.1.1 ∙ sym h2.1.1) ∙ sym h2.2)
made_one armed founds w s (GetAt r cid key) all one made = λ events events2 reply reply2 h h2.
    (h.1.0 ∙ sym h2.1.0, h.2 ∙ ap below_reply (below_again founds (kept_of s.state.durable) cid key h.0 h2.0 h.1.1 h2.1.1) ∙ sym h2.2)
made_one armed founds w s (StepOf r) all one made = λ events events2 reply reply2 h h2. step_made armed (peers_of w r) s events events2 reply reply2 (all_picked (IsOpen armed) (peer_row w.around.down r 0 w.places) w.places all) h h2
made_one armed founds w s command all one made = reading_one w s (doing command) made refl
