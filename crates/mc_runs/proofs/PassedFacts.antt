-- A file that a replica made, and another one took in and worked off, brings what the first had processed.
use Rattle.std.proofs.Common.{◌≡◌, ℕ, ◌+◌, ◌-◌, Bool, true, false, true≢false, not, cond, List, [], ◌∷◌, ◌++◌, length, map, Option, Some, None, Result, Ok, Err, refl, sym, ◌∙◌, ap, subst, arith, inl, inr}
use Rattle.std.specs.Prelude.{◌⊎◌, ◌↔◌, IfSome, slice_get, unwrap_or}
use Rattle.std.specs.Option.{option_and_then}
use Rattle.std.proofs.lemmas.Bool.{and_parts}
use Rattle.mc_base.specs.declared.cid.Cid.{Cid}
use Rattle.mc_car.specs.declared.car.Car.{Car as File}
use Rattle.mc_core.specs.Events.{Goes, ReplicaState, all_happen, state_of}
use Rattle.mc_core.specs.declared.CoreError.{CoreError}
use Rattle.mc_core.specs.declared.CoreError.TheVariants as core
use Rattle.mc_drain.specs.Finds.{first_bytes, found_from}
use Rattle.mc_fetch.specs.Fits.{Map}
use Rattle.mc_files.specs.Files.{ImportEvents, IsExport, TakeEvents, blocks_of, sections_of, stored_of}
use Rattle.mc_files.specs.declared.taking.Imported.{Imported as Taken}
use Rattle.mc_group.specs.Storing.{unstored}
use Rattle.mc_keep.specs.declared.fuse.Fuse.{Fuse}
use Rattle.mc_model.specs.declared.block.Stored.{Stored}
use Rattle.mc_model.specs.Drain.{IsClosed, IsClosure}
use Rattle.mc_model.specs.Draining.{bytes_in, offers_of, queue_in}
use Rattle.mc_model.specs.Events.{Event, Hear}
use Rattle.mc_model.specs.Found.{Good, found_as, found_links, is_found}
use Rattle.mc_model.specs.Front.{is_linked, is_processed}
use Rattle.mc_model.specs.Graph.{HasNoCycle, Vertex, gaps_in, has, links_in}
use Rattle.mc_model.specs.Kept.{IsKept, Kept, bytes_at, nothing_kept, processed}
use Rattle.mc_model.specs.Made.{head_cids}
use Rattle.mc_model.specs.State.{Running, State, durable_of, kept_of, vertices, wanted_in}
use Rattle.mc_model.specs.Wanted.{hear_all, wanted}
use Rattle.mc_model.proofs.Blocks.{is_processed_has}
use Rattle.mc_model.proofs.Bridge.{kept_gap, kept_heads}
use Rattle.mc_script.specs.declared.command.Command.TheVariants.{Export, Import, Work}
use Rattle.mc_script.specs.declared.reply.Reply.{Reply}
use Rattle.mc_script.specs.declared.reply.Reply.TheVariants.{Car, Imported, Worked}
use Rattle.mc_seats.specs.declared.entry.LineEntry.{LineEntry}
use Rattle.mc_seats.specs.declared.error.ActError.{ActError}
use Rattle.mc_seats.specs.Asks.{car_at, is_named}
use Rattle.mc_seats.specs.Doing.{At, Imports}
use Rattle.mc_seats.specs.Effects.{IsReply, RefusedAt, RunOn, SameBatch, events_by, import_reply}
use Rattle.mc_seats.specs.Step.{ExportsAt, HasManyRoots, IsDone, IsFiled, Row, Step}
use Rattle.mc_seats.specs.Works.{budget_of, offered_by}
use Rattle.mc_seats.specs.Worlds.{Around, Place, WorldState, peers_of, state_at}
use Rattle.mc_runs.specs.Exports.{HasArrived, HasNoOffers, IsBare, keeps_at}
use Rattle.mc_runs.specs.OneEnd.{AreTold}
use Rattle.mc_runs.proofs.Arrivals.{arrive}
use Rattle.mc_runs.proofs.ExportedFacts.{CarsLaw, bare_state, file_is, has_good, hears_all, stored_bytes, taken_state, takes}
use Rattle.mc_runs.proofs.OneEnds.{IsWorked, found_told, told_after, work_done, work_end}
use Rattle.mc_runs.proofs.OneEvents.{BackLaw, file_one, no_some, some_is}
use Rattle.mc_runs.proofs.ReplyFacts.{within}
use Rattle.mc_runs.proofs.WrittenFacts.{at_there, moved_stands, of_place}

-- what is answered for a file is no refusal and no fault

is_made : Reply → Bool
is_made (Car number size) = true
is_made (Imported stored queued) = true
is_made reply = false

made_in : Result Reply ActError → Bool
made_in (Ok reply) = is_made reply
made_in (Err error) = false

no_made : (error : CoreError) (reply : Reply) → is_made reply ≡ true → IsReply error reply → ⊥
unfolding is_made made_in
no_made core.KeeperFault reply made e = e
no_made core.Memory reply made e = e
no_made error reply made e = true≢false (sym made ∙ sym (ap made_in e))

export_done : (w : WorldState) (r : ℕ) (entry : LineEntry) (reply : Reply) (w2 : WorldState) → is_made reply ≡ true → Step w (Export r) entry reply w2 → IsDone w (Export r) reply w2
unfolding is_made
export_done w r entry reply w2 made step = over step.row
  where
    over : Row w (Export r) (λ r. is_named entry.keepers r ≡ true) (λ r. is_named entry.own r ≡ true) (λ r. is_named entry.desks r ≡ true) reply w2 → IsDone w (Export r) reply w2
    over (inl (inl (inl refused))) = let found = at_there w r (λ p. RefusedAt w p (Export r) (Some reply)) step.there refused.cause in absurd (no_made found.2.0 reply made found.2.3)
    over (inl (inl (inr done))) = done
    over (inl (inr fault)) = absurd (true≢false (sym made ∙ ap is_made fault.says))
    over (inr peer) = absurd (true≢false (sym made ∙ ap is_made peer.says))

import_done : (w : WorldState) (r car : ℕ) (entry : LineEntry) (reply : Reply) (w2 : WorldState) → is_made reply ≡ true → Step w (Import r car) entry reply w2 → IsDone w (Import r car) reply w2
unfolding is_made
import_done w r car entry reply w2 made step = over step.row
  where
    over : Row w (Import r car) (λ r. is_named entry.keepers r ≡ true) (λ r. is_named entry.own r ≡ true) (λ r. is_named entry.desks r ≡ true) reply w2 → IsDone w (Import r car) reply w2
    over (inl (inl (inl refused))) =
        let found = at_there w r (λ p. RefusedAt w p (Import r car) (Some reply)) (within (length w.places) w.around.bag r (Imports car) step.there) refused.cause in
        absurd (no_made found.2.0 reply made found.2.3)
    over (inl (inl (inr done))) = done
    over (inl (inr fault)) = absurd (true≢false (sym made ∙ ap is_made fault.says))
    over (inr peer) = absurd (true≢false (sym made ∙ ap is_made peer.says))

-- what a place that tells is

content_is : (w : WorldState) (r : ℕ) (p : Place) (kept : Kept) → slice_get w.places r ≡ Some p → keeps_at w r ≡ Some kept → p.content ≡ Some kept
content_is w r p kept stands keeps = sym (ap (option_and_then (λ (p : Place). p.content)) stands) ∙ keeps

state_with : (p : Place) (kept : Kept) → p.content ≡ Some kept → state_at p ≡ Some (record { state = record { durable = durable_of kept; run = p.run }; fuse = p.fuse })
state_with p kept is = ap (λ (content : Option Kept). state_of content p.fuse p.run) is

content_of : (back : BackLaw) (p : Place) (s : ReplicaState) → state_at p ≡ Some s → p.content ≡ Some (kept_of s.state.durable)
content_of back p s is = over p.content p.fuse p.run is
  where
    over : (content : Option Kept) (fuse : Option Fuse) (run : Option Running) → state_of content fuse run ≡ Some s → content ≡ Some (kept_of s.state.durable)
    over None fuse run is = absurd (no_some is)
    over (Some kept) fuse run is =
        let same : ◌≡◌ {A = ReplicaState} (record { state = record { durable = durable_of kept; run = run }; fuse = fuse }) s = some_is is in
        ap Some (sym (back kept) ∙ ap (λ (x : ReplicaState). kept_of x.state.durable) same)

-- the file that is made

number_of : Reply → ℕ
number_of (Car number size) = number
number_of reply = 0

last_is : (texts : List (List ℕ)) (text : List ℕ) → slice_get (texts ++ text ∷ []) (length texts) ≡ Some text
last_is [] text = refl
last_is (x ∷ texts) text = last_is texts text

exported : (back : BackLaw) (w : WorldState) (r : ℕ) (kept : Kept) (entry : LineEntry) (number size : ℕ) (w2 : WorldState) → keeps_at w r ≡ Some kept → Step w (Export r) entry (Car number size) w2 → IsExport kept (Ok (car_at w2.around.bag number))
unfolding is_made number_of
exported back w r kept entry number size w2 keeps step = over done.around
  where
    done : IsDone w (Export r) (Car number size) w2
    done = export_done w r entry (Car number size) w2 refl step

    told : (text : List ℕ) → ExportsAt w r (Ok text) → IsExport kept (Ok text)
    told text at =
        let is = state_with done.moved.old kept (content_is w r done.moved.old kept done.moved.stands keeps) in
        subst (λ (k : Kept). IsExport k (Ok text)) (back kept)
        (subst (λ (o : Option ReplicaState). IfSome o (λ s. IsExport (kept_of s.state.durable) (Ok text))) is (of_place w r (λ p. IfSome (state_at p) (λ s. IsExport (kept_of s.state.durable) (Ok text))) done.moved.old done.moved.stands at))

    over : IsFiled (λ text. ExportsAt w r (Ok text)) w.around (Car number size) w2.around ⊎ HasManyRoots (λ number. ExportsAt w r (Err number)) w.around (Car number size) w2.around → IsExport kept (Ok (car_at w2.around.bag number))
    over (inl filed) =
        let is : number ≡ length w.around.bag.cars + 1 = ap number_of filed.numbered in
        let place : number - 1 ≡ length w.around.bag.cars = omega (arith, is) in
        let text : car_at w2.around.bag number ≡ filed.text =
        ap (λ (around : Around). car_at around.bag number) filed.filed
        ∙ ap (λ (n : ℕ). unwrap_or (slice_get (w.around.bag.cars ++ filed.text ∷ []) n) []) place
        ∙ ap (λ (o : Option (List ℕ)). unwrap_or o []) (last_is w.around.bag.cars filed.text) in
        subst (λ (t : List ℕ). IsExport kept (Ok t)) (sym text) (told filed.text filed.is_text)
    over (inr many) = absurd (true≢false (ap is_made many.says))

-- the replica that took it in

abbrev items_of : Kept → List Stored
items_of kept = map stored_of (sections_of kept)

record HasTaken (kept : Kept) (q : Place) : Type 0 where
  pub run : Running
  pub wants_none : wanted run.queue ≡ []
  pub state : ReplicaState
  pub is_state : state_at q ≡ Some state
  pub is : state.state ≡ taken_state run (items_of kept) (head_cids (processed kept))

runs_on : (old new : Option Running) → RunOn SameBatch old new → (run : Running) × (old ≡ Some run)
runs_on None new on = absurd on
runs_on (Some old) None on = absurd on
runs_on (Some old) (Some new) on = (old, refl)

taken_by : (kept : Kept) (run : Running) (fuse : Option Fuse) (events : List Event) (said : Taken) → TakeEvents (bare_state (Some run) fuse) (head_cids (processed kept)) (items_of kept) events said
    → (all_happen (bare_state (Some run) fuse) events).state ≡ taken_state run (items_of kept) (head_cids (processed kept))
taken_by kept run fuse events said taken =
    ap (λ (e : List Event). (all_happen (bare_state (Some run) fuse) e).state) (taken.are ∙ ap (λ (store : List Event). store ++ Hear (head_cids (processed kept)) ∷ []) taken.keeps.are)
    ∙ takes run fuse (items_of kept) (head_cids (processed kept))

-- which blocks a file that was taken in is
events_of_file : (read : CarsLaw) (kept : Kept) (sound : IsKept kept) (text : List ℕ) (s : ReplicaState) (events : List Event) (said : Result Taken ℕ) (stored queued : ℕ) → IsExport kept (Ok text) → ImportEvents s text events said
    → Imported stored queued ≡ import_reply said → (taken : Taken) × TakeEvents s (head_cids (processed kept)) (items_of kept) events taken
unfolding is_made
events_of_file read kept sound text s events (Err number) stored queued file h says = absurd (true≢false (ap is_made says))
events_of_file read kept sound text s events (Ok taken) stored queued file h says =
    let car : h.car ≡ record { roots = head_cids (processed kept); sections = sections_of kept } = file_one h.car _ (sym h.found ∙ file_is kept sound read text file) in
    (taken, subst (λ (c : File). TakeEvents s c.roots (blocks_of c) events taken) car h.takes)

imported : (read : CarsLaw) (kept : Kept) (sound : IsKept kept) (w : WorldState) (r car stored queued : ℕ) (w2 : WorldState) → IsExport kept (Ok (car_at w.around.bag car)) → IsBare w r → (done : IsDone w (Import r car) (Imported stored queued) w2)
    → HasTaken kept done.moved.new
imported read kept sound w r car stored queued w2 file bare done = record {
  run = run.0;
  wants_none = ap (λ (x : Option Running). wanted (queue_in x)) (sym run.1) ∙ of_place w r (λ p. wanted (queue_in p.run) ≡ []) p done.moved.stands bare.wants_none;
  state = after.0;
  is_state = after.1;
  is = ap (λ (x : ReplicaState). x.state) after.2.2.ends
      ∙ ap (λ (x : Option Running). (all_happen (bare_state x p.fuse) after.2.0).state) run.1
      ∙ taken_by kept run.0 p.fuse after.2.0 takes_it.0 (subst (λ (x : Option Running). TakeEvents (bare_state x p.fuse) (head_cids (processed kept)) (items_of kept) after.2.0 takes_it.0) run.1 takes_it.1);
}
  where
    p : Place
    p = done.moved.old

    run : (run : Running) × (done.moved.old.run ≡ Some run)
    run = runs_on done.moved.old.run done.moved.new.run done.moved.holds.0.0.run_on

    is : state_at done.moved.old ≡ Some (bare_state done.moved.old.run done.moved.old.fuse)
    is = state_with done.moved.old nothing_kept (content_is w r done.moved.old nothing_kept done.moved.stands bare.holds_none)

    after : (n : ReplicaState) × (state_at done.moved.new ≡ Some n)
        × ((events : List Event) × events_by w (bare_state done.moved.old.run done.moved.old.fuse) (At r (Imports car)) events (Imported stored queued) × Goes events (bare_state done.moved.old.run done.moved.old.fuse) n)
    after = told_after done.moved.old done.moved.new (bare_state done.moved.old.run done.moved.old.fuse) (λ s new. (events : List Event) × events_by w s (At r (Imports car)) events (Imported stored queued) × Goes events s new) is done.moved.holds.1

    takes_it : (taken : Taken) × TakeEvents (bare_state done.moved.old.run done.moved.old.fuse) (head_cids (processed kept)) (items_of kept) after.2.0 taken
    takes_it = events_of_file read kept sound (car_at w.around.bag car) (bare_state done.moved.old.run done.moved.old.fuse) after.2.0 after.2.1.0 stored queued file after.2.1.1 after.2.1.2

-- what it drains to

map_is : (graph : List Vertex) (offered : Option Map) (found : Map) → found_from graph offered ≡ Some found → (others : Map) × (offered ≡ Some others) × ((c : Cid) → found c ≡ first_bytes (bytes_in graph c) (others c))
map_is graph None found e = absurd (no_some e)
map_is graph (Some others) found e = (others, refl, λ c. ap (λ (f : Map). f c) (sym (some_is e)))

turned : (b : Bool) → not b ≡ true → b ≡ false
turned true e = absurd (true≢false (sym e))
turned false e = refl

module _ (kept : Kept) (sound : IsKept kept) (none : HasNoCycle (vertices kept.graph)) (run : Running) (wants_none : wanted run.queue ≡ []) (offered : Option Map) (found : Map)
    (known : found_from (vertices (unstored [] (items_of kept))) offered ≡ Some found) (lost : (c : Cid) → has c (gaps_in (vertices kept.graph) kept.order) ≡ true → IfSome offered (λ others. is_found (offers_of others c) ≡ false)) where
  others : (others : Map) × (offered ≡ Some others) × ((c : Cid) → found c ≡ first_bytes (bytes_in (vertices (unstored [] (items_of kept))) c) (others c))
  others = map_is (vertices (unstored [] (items_of kept))) offered found known

  found_good : (c : Cid) → has c kept.order ≡ true → offers_of found c ≡ Good (links_in (vertices kept.graph) c)
  found_good c is =
      let good = has_good kept sound c is in
      ap (found_as c) (others.2 c ∙ ap (λ (o : Option (List ℕ)). first_bytes o (others.0 c)) (stored_bytes kept sound c ∙ ap (λ (b : Bool). cond b (bytes_at kept.graph c) None) is ∙ good.stored)) ∙ good.found

  gap_lost : (c : Cid) → has c (gaps_in (vertices kept.graph) kept.order) ≡ true → is_found (offers_of found c) ≡ false
  gap_lost c gap =
      let parts = and_parts (is_linked (processed kept) c) (not (is_processed (processed kept) c)) (kept_gap kept sound c ∙ gap) in
      let free : has c kept.order ≡ false = sym (is_processed_has kept.graph kept.order c) ∙ turned (is_processed (processed kept) c) parts.1 in
      ap (λ (o : Option (List ℕ)). is_found (found_as c o)) (others.2 c ∙ ap (λ (o : Option (List ℕ)). first_bytes o (others.0 c)) (stored_bytes kept sound c ∙ ap (λ (b : Bool). cond b (bytes_at kept.graph c) None) free))
      ∙ subst (λ (o : Option Map). IfSome o (λ others. is_found (offers_of others c) ≡ false)) others.1 (lost c gap)

  arrives : (c : Cid) → IsClosed (offers_of found) [] (wanted (hear_all [] run.queue (head_cids (processed kept)))) c ↔ (has c kept.order ≡ true)
  arrives =
      arrive (vertices kept.graph) kept.order (wanted (hear_all [] run.queue (head_cids (processed kept)))) (offers_of found) none
      (λ c. hears_all run.queue (head_cids (processed kept)) c wants_none ∙ kept_heads kept sound c) (λ c is. ap is_found (found_good c is)) (λ c is. ap found_links (found_good c is)) gap_lost

both_ways : (a b : Bool) → (a ≡ true → b ≡ true) → (b ≡ true → a ≡ true) → a ≡ b
both_ways true b f g = sym (f refl)
both_ways false true f g = g refl
both_ways false false f g = refl

pub files_arrive : (back : BackLaw) (read : CarsLaw) (kept : Kept) (w w2 v v2 v3 : WorldState) (r number size q car stored queued workers came missing bad : ℕ) (budget : Option ℕ) (entry entry2 entry3 : LineEntry)
    → keeps_at w r ≡ Some kept → IsKept kept → HasNoCycle (vertices kept.graph) → Step w (Export r) entry (Car number size) w2 → car_at v.around.bag car ≡ car_at w2.around.bag number → IsBare v q
    → Step v (Import q car) entry2 (Imported stored queued) v2 → AreTold v2 → HasNoOffers kept v2 q → Step v2 (Work q workers budget) entry3 (Worked came missing bad) v3 → HasArrived kept v3 q
unfolding is_made
files_arrive back read kept w w2 v v2 v3 r number size q car stored queued workers came missing bad budget entry entry2 entry3 keeps sound none export same bare import_step all lost work_step = record {
  now = kept_of a.state.state.durable;
  tells = ap (option_and_then (λ (p : Place). p.content)) (moved_stands q v2.places v3.places _ second.moved) ∙ content_of back second.moved.new a.state a.is_state;
  same = λ c. both_ways (has c a.state.state.durable.order) (has c kept.order) (λ is. (closed c).0 (closure.within c is)) (λ is. closure.whole c ((closed c).1 is));
}
  where
    first : IsDone v (Import q car) (Imported stored queued) v2
    first = import_done v q car entry2 (Imported stored queued) v2 refl import_step

    file : IsExport kept (Ok (car_at v.around.bag car))
    file = subst (λ (t : List ℕ). IsExport kept (Ok t)) (sym same) (exported back w r kept entry number size w2 keeps export)

    taken : HasTaken kept first.moved.new
    taken = imported read kept sound v q car stored queued v2 file bare first

    second : IsDone v2 (Work q workers budget) (Worked came missing bad) v3
    second = work_done v2 q workers budget entry3 (Worked came missing bad) v3 refl work_step

    old : first.moved.new ≡ second.moved.old
    old = some_is (sym (moved_stands q v.places v2.places _ first.moved) ∙ second.moved.stands)

    known : (found : Map) × (found_from taken.state.state.durable.graph (offered_by (peers_of v2 q)) ≡ Some found)
    known = found_told v2 q taken.state all

    a : IsWorked known.0 (budget_of budget) taken.state second.moved.new (Worked came missing bad)
    a = work_end known.0 (peers_of v2 q) (budget_of budget) second.moved.old second.moved.new taken.state (Worked came missing bad) refl (ap state_at (sym old) ∙ taken.is_state) known.1 second.moved.holds

    closure : IsClosure (offers_of known.0) (taken_state taken.run (items_of kept) (head_cids (processed kept))).durable (wanted_in (taken_state taken.run (items_of kept) (head_cids (processed kept))).run) a.state.state.durable (wanted_in a.state.state.run)
    closure = subst (λ (st : State). IsClosure (offers_of known.0) st.durable (wanted_in st.run) a.state.state.durable (wanted_in a.state.state.run)) taken.is a.end.at_end.closure

    closed : (c : Cid) → IsClosed (offers_of known.0) [] (wanted (hear_all [] taken.run.queue (head_cids (processed kept)))) c ↔ (has c kept.order ≡ true)
    closed = arrives kept sound none taken.run taken.wants_none (offered_by (peers_of v2 q)) known.0 (subst (λ (st : State). found_from st.durable.graph (offered_by (peers_of v2 q)) ≡ Some known.0) taken.is known.1) lost
