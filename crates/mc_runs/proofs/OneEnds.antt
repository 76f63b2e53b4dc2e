-- Two works, or two repairs, of one world that have come to their ends leave the same.
use Rattle.std.proofs.Common.{◌≡◌, ℕ, zero, suc, ◌+◌, ◌-◌, ◌≤◌, ◌<◌, ◌^◌, ◌≢◌, Bool, true, false, true≢false, List, [], ◌∷◌, ◌++◌, length, map, Option, Some, None, Result, Ok, Err, refl, sym, ◌∙◌, ap, subst, inl, inr, arith}
use Rattle.std.specs.Prelude.{◌⊎◌, IfSome, is_some, slice_get}
use Rattle.std.specs.List.{AllByRecursion}
use Rattle.std.specs.Option.{option_map}
use Rattle.std.proofs.lemmas.List.{length-map}
use Rattle.mc_base.specs.Told.{Told}
use Rattle.mc_base.specs.declared.cid.Cid.{Cid}
use Rattle.mc_fetch.specs.Fits.{Map}
use Rattle.mc_fetch.specs.Offers.{first_offer, found_by}
use Rattle.mc_fetch.specs.Peers.{places_of}
use Rattle.mc_keep.specs.declared.fuse.Fuse.{Fuse}
use Rattle.mc_model.specs.Draining.{bytes_in, queue_in}
use Rattle.mc_model.specs.Draining as draining
use Rattle.mc_model.specs.Found.{PeerOffers}
use Rattle.mc_model.specs.Graph.{cids_in, has, times}
use Rattle.mc_model.specs.Kept.{Kept}
use Rattle.mc_model.specs.State.{IsSound, Running, blocks_of, durable_of, kept_of, wanted_in}
use Rattle.mc_model.specs.Wanted.{Queue, bad_cids, held, wanted}
use Rattle.mc_model.proofs.Counts.{cid_itself, has-append, times-append}
use Rattle.mc_model.proofs.Drains.{once_in}
use Rattle.mc_model.proofs.Takings.{taken_so_far}
use Rattle.mc_model.specs.Drain.{IsSoFar}
use Rattle.mc_model.specs.declared.block.Block.{Block}
use Rattle.mc_model.specs.Front.{gaps, same_cid}
use Rattle.mc_model.specs.SameMembers.{SameMembers}
use Rattle.mc_core.specs.Counted.{capped}
use Rattle.mc_core.specs.Events.{ReplicaState, state_of}
use Rattle.mc_core.specs.Walks.{gap_count, settled_with}
use Rattle.mc_core.specs.declared.Settled.{Settled}
use Rattle.mc_core.specs.declared.CoreError.{CoreError}
use Rattle.mc_core.specs.declared.CoreError.TheVariants as core
use Rattle.mc_drain.specs.Finds.{first_bytes, found_from}
use Rattle.mc_drain.specs.Leads.{count}
use Rattle.mc_drain.specs.Repairs.{RepairLeads, repair_start, repaired_of}
use Rattle.mc_drain.specs.Works.{IsAtEnd, IsBefore, WorkLeads, came_between, limit_of}
use Rattle.mc_drain.specs.declared.repairing.Repaired.{Repaired}
use Rattle.mc_drain.specs.declared.repairing.Repaired.TheVariants as repaired
use Rattle.mc_drain.specs.declared.working.Worked.{Worked}
use Rattle.mc_drain.specs.declared.working.Worked.TheVariants as worked
use Rattle.mc_script.specs.declared.command.Command.TheVariants.{Repair, Work}
use Rattle.mc_script.specs.declared.reply.Reply.{Reply}
use Rattle.mc_script.specs.declared.reply.Reply.TheVariants as replies
use Rattle.mc_seats.specs.declared.entry.LineEntry.{LineEntry}
use Rattle.mc_seats.specs.declared.error.ActError.{ActError}
use Rattle.mc_seats.specs.Asks.{is_named}
use Rattle.mc_seats.specs.Effects.{IsReply, RefusedAt}
use Rattle.mc_seats.specs.Step.{IsDone, Row, Step}
use Rattle.mc_seats.specs.Works.{RepairDone, RepairsTo, WorkDone, WorksTo, budget_of, finds_of, offered_by, repair_budget, repaired_reply, worked_reply}
use Rattle.mc_seats.specs.Worlds.{AtPlace, Place, WorldState, peer_row, peers_of, state_at}
use Rattle.mc_runs.specs.OneEnd.{AreSame, AreSameAt, AreTold, HasRoom, HaveSameBytes, SameBytes, is_end, is_worked}
use Rattle.mc_runs.proofs.OneBlocks.{same_blocks}
use Rattle.mc_runs.proofs.OneClosure.{IsStill, bad_one, before_end, closed_one, coming_one, length_one, missing_one, or_first}
use Rattle.mc_runs.proofs.OneEvents.{all_picked, no_some, offers_told, some_is}
use Rattle.mc_runs.proofs.WrittenFacts.{at_there, moved_stands, of_place}

-- two states that a drain has come to at its end

wanted_of : (run : Option Running) → wanted_in run ≡ wanted (queue_in run)
wanted_of None = refl
wanted_of (Some run) = refl

pub record IsEnd (map : Map) (start : List Cid) (s n : ReplicaState) : Type 0 where
  pub at_end : IsAtEnd map start s n
  pub sound : IsSound n.state
  pub still : IsStill (queue_in n.state.run)

module _ (map : Map) (start : List Cid) (s n n2 : ReplicaState) (a : IsEnd map start s n) (b : IsEnd map start s n2) where
  same_wanted : (c : Cid) → has c (wanted (queue_in n.state.run)) ≡ has c (wanted (queue_in n2.state.run))
  same_wanted c =
      sym (ap (has c) (wanted_of n.state.run))
      ∙ coming_one (draining.offers_of map) s.state.durable start n.state.durable n2.state.durable (wanted_in n.state.run) (wanted_in n2.state.run) a.at_end.closure b.at_end.closure c
      ∙ ap (has c) (wanted_of n2.state.run)

  ends_same : AreSame n n2
  ends_same = record {
    processed = closed_one (draining.offers_of map) s.state.durable start n.state.durable n2.state.durable (wanted_in n.state.run) (wanted_in n2.state.run) a.at_end.closure b.at_end.closure;
    missing = missing_one (draining.offers_of map) (queue_in n.state.run) (queue_in n2.state.run) a.still a.at_end.parts b.still b.at_end.parts same_wanted;
    bad = bad_one (draining.offers_of map) (queue_in n.state.run) (queue_in n2.state.run) a.still a.at_end.parts b.still b.at_end.parts same_wanted;
  }

  ends_count : count n ≡ count n2
  ends_count = length_one n.state.durable.order n2.state.durable.order a.sound.durable.order_once b.sound.durable.order_once ends_same.processed

once_parts : (n : ReplicaState) → IsSound n.state → (c : Cid) → times c (queue_in n.state.run).missing + times c (bad_cids (queue_in n.state.run).bad) ≤ 1
once_parts n sound c =
    let q = queue_in n.state.run in
    let once : held n.state.durable.order q c ≤ 1 = once_in n.state.durable n.state.run sound.durable sound.run c in
    omega (arith, once, times-append c q.waiting (q.flight ++ (q.missing ++ bad_cids q.bad)), times-append c q.flight (q.missing ++ bad_cids q.bad), times-append c q.missing (bad_cids q.bad))

module _ (map : Map) (start : List Cid) (s n n2 : ReplicaState) (a : IsEnd map start s n) (b : IsEnd map start s n2) where
  missing_count : length (queue_in n.state.run).missing ≡ length (queue_in n2.state.run).missing
  missing_count = length_one _ _ (λ c. omega (arith, once_parts n a.sound c)) (λ c. omega (arith, once_parts n2 b.sound c)) (ends_same map start s n n2 a b).missing

  bad_count : length (queue_in n.state.run).bad ≡ length (queue_in n2.state.run).bad
  bad_count =
      sym (length-map (queue_in n.state.run).bad (λ (b : Cid × ℕ). b.0))
      ∙ length_one (bad_cids (queue_in n.state.run).bad) (bad_cids (queue_in n2.state.run).bad) (λ c. omega (arith, once_parts n a.sound c)) (λ c. omega (arith, once_parts n2 b.sound c)) (ends_same map start s n n2 a b).bad
      ∙ length-map (queue_in n2.state.run).bad (λ (b : Cid × ℕ). b.0)

-- what is found is known

pub found_told : (w : WorldState) (r : ℕ) (s : ReplicaState) → AreTold w → (map : Map) × (found_from s.state.durable.graph (offered_by (peers_of w r)) ≡ Some map)
found_told w r s all =
    let told = offers_told (peers_of w r) (all_picked (λ (p : Place). is_some p.content ≡ true) (peer_row w.around.down r 0 w.places) w.places all) in (
      (λ c. first_bytes (bytes_in s.state.durable.graph c) (first_offer c (places_of told.0 c))),
      ap (λ (o : Option (List (Cid → PeerOffers))). found_from s.state.durable.graph (found_by (option_map places_of o))) told.1,
    )

-- a place that tells

told_place : (p : Place) → is_some p.content ≡ true → (s : ReplicaState) × (state_at p ≡ Some s)
told_place p told = over p.content p.fuse p.run told
  where
    over : (content : Option Kept) (fuse : Option Fuse) (run : Option Running) → is_some content ≡ true → (s : ReplicaState) × (state_of content fuse run ≡ Some s)
    over None fuse run told = absurd (true≢false (sym told))
    over (Some kept) fuse run told = (record { state = record { durable = durable_of kept; run = run }; fuse = fuse }, refl)

run_of_state : (p : Place) (s : ReplicaState) → state_at p ≡ Some s → p.run ≡ s.state.run
run_of_state p s e = over p.content p.fuse p.run e
  where
    over : (content : Option Kept) (fuse : Option Fuse) (run : Option Running) → state_of content fuse run ≡ Some s → run ≡ s.state.run
    over None fuse run e = absurd (no_some e)
    over (Some kept) fuse run e = let same : ◌≡◌ {A = ReplicaState} (record { state = record { durable = durable_of kept; run = run }; fuse = fuse }) s = some_is e in ap (λ (x : ReplicaState). x.state.run) same

pub told_after : (p q : Place) (s : ReplicaState) (P : ReplicaState → ReplicaState → Type 0) → state_at p ≡ Some s → Told (state_at p) (state_at q) P → (n : ReplicaState) × (state_at q ≡ Some n) × P s n
told_after p q s P is told = over (state_at q) (subst (λ (o : Option ReplicaState). Told o (state_at q) P) is told)
  where
    over : (o : Option ReplicaState) → Told (Some s) o P → (n : ReplicaState) × (o ≡ Some n) × P s n
    over None told = absurd told
    over (Some n) told = (n, refl, told)

told_at : (places : List Place) (r : ℕ) (p : Place) → AllByRecursion (λ (place : Place). is_some place.content ≡ true) places → slice_get places r ≡ Some p → is_some p.content ≡ true
told_at [] r p all is = absurd (no_some is)
told_at (x ∷ places) zero p all is = subst (λ (p : Place). is_some p.content ≡ true) (some_is is) all.0
told_at (x ∷ places) (suc r) p all is = told_at places r p all.1 is

-- what has come to its end is done

ends_reply : Result Reply ActError → Bool
ends_reply (Ok reply) = is_end reply
ends_reply (Err error) = false

no_end : (error : CoreError) (reply : Reply) → is_end reply ≡ true → IsReply error reply → ⊥
unfolding ends_reply
no_end core.KeeperFault reply end e = e
no_end core.Memory reply end e = e
no_end error reply end e = true≢false (sym end ∙ sym (ap ends_reply e))

pub work_done : (w : WorldState) (r workers : ℕ) (budget : Option ℕ) (entry : LineEntry) (reply : Reply) (w2 : WorldState) → is_end reply ≡ true → Step w (Work r workers budget) entry reply w2 → IsDone w (Work r workers budget) reply w2
work_done w r workers budget entry reply w2 end step = over step.row
  where
    over : Row w (Work r workers budget) (λ r. is_named entry.keepers r ≡ true) (λ r. is_named entry.own r ≡ true) (λ r. is_named entry.desks r ≡ true) reply w2 → IsDone w (Work r workers budget) reply w2
    over (inl (inl (inl refused))) = let found = at_there w r (λ p. RefusedAt w p (Work r workers budget) (Some reply)) step.there refused.cause in absurd (no_end found.2.0 reply end found.2.3)
    over (inl (inl (inr done))) = done
    over (inl (inr fault)) = absurd (true≢false (sym end ∙ ap is_end fault.says))
    over (inr peer) = absurd (true≢false (sym end ∙ ap is_end peer.says))

repair_done : (w : WorldState) (r workers : ℕ) (entry : LineEntry) (reply : Reply) (w2 : WorldState) → is_end reply ≡ true → Step w (Repair r workers) entry reply w2 → IsDone w (Repair r workers) reply w2
repair_done w r workers entry reply w2 end step = over step.row
  where
    over : Row w (Repair r workers) (λ r. is_named entry.keepers r ≡ true) (λ r. is_named entry.own r ≡ true) (λ r. is_named entry.desks r ≡ true) reply w2 → IsDone w (Repair r workers) reply w2
    over (inl (inl (inl refused))) = let found = at_there w r (λ p. RefusedAt w p (Repair r workers) (Some reply)) step.there refused.cause in absurd (no_end found.2.0 reply end found.2.3)
    over (inl (inl (inr done))) = done
    over (inl (inr fault)) = absurd (true≢false (sym end ∙ ap is_end fault.says))
    over (inr peer) = absurd (true≢false (sym end ∙ ap is_end peer.says))

-- the end of a work, or where its budget is used

pub record IsWorked (map : Map) (budget : ℕ) (s : ReplicaState) (q : Place) (reply : Reply) : Type 0 where
  pub state : ReplicaState
  pub is_state : state_at q ≡ Some state
  pub end : IsEnd map (wanted_in s.state.run) s state
  pub within : count state ≤ count s + budget
  pub says : reply ≡ replies.Worked (came_between s state) (length (queue_in state.state.run).missing) (length (queue_in state.state.run).bad)

record IsSpent (map : Map) (budget : ℕ) (s : ReplicaState) (q : Place) (reply : Reply) : Type 0 where
  pub state : ReplicaState
  pub before : IsBefore map (wanted_in s.state.run) s state
  pub sound : IsSound state.state
  pub waits : (queue_in state.state.run).waiting ≢ []
  pub within : count state ≤ count s + budget
  pub limit : limit_of budget s ≤ count state
  pub says : reply ≡ replies.Again (came_between s state)

work_cases : (map : Map) (peers : List Place) (budget : ℕ) (p q : Place) (s : ReplicaState) (reply : Reply) → state_at p ≡ Some s → found_from s.state.durable.graph (offered_by peers) ≡ Some map → WorkDone peers budget p q reply → IsWorked map budget s q reply ⊎ IsSpent map budget s q reply
work_cases map peers budget p q s reply is known done = over done.value done.says done.works
  where
    over : (value : Worked) → reply ≡ worked_reply value → WorksTo peers budget (Ok value) p q → IsWorked map budget s q reply ⊎ IsSpent map budget s q reply
    over (worked.Again processed) says works =
        let after = told_after p q s (WorkLeads budget (finds_of peers) (Ok (worked.Again processed))) is works.told in
        let run : q.run ≡ after.0.state.run = run_of_state q after.0 after.1 in
        inr (record {
          state = after.0;
          before = after.2.is map known;
          sound = after.2.sound;
          waits = subst (λ (x : Option Running). (queue_in x).waiting ≢ []) run works.wants.0;
          within = after.2.within;
          limit = after.2.counts.1;
          says = says ∙ ap replies.Again after.2.counts.0;
        })
    over (worked.Done processed missing bad) says works =
        let after = told_after p q s (WorkLeads budget (finds_of peers) (Ok (worked.Done processed missing bad))) is works.told in
        let run : q.run ≡ after.0.state.run = run_of_state q after.0 after.1 in
        let still : IsStill (queue_in after.0.state.run) = subst (λ (x : Option Running). IsStill (queue_in x)) run (works.wants.0, works.wants.1) in
        inl (record {
          state = after.0;
          is_state = after.1;
          end = record { at_end = after.2.is map known; sound = after.2.sound; still = still };
          within = after.2.within;
          says = says
              ∙ (λ i. replies.Worked (after.2.counts i) (works.wants.2 i) (works.wants.3 i))
              ∙ ap (λ (x : Option Running). replies.Worked (came_between s after.0) (length (queue_in x).missing) (length (queue_in x).bad)) run;
        })

pub work_end : (map : Map) (peers : List Place) (budget : ℕ) (p q : Place) (s : ReplicaState) (reply : Reply) → is_end reply ≡ true → state_at p ≡ Some s → found_from s.state.durable.graph (offered_by peers) ≡ Some map → WorkDone peers budget p q reply → IsWorked map budget s q reply
work_end map peers budget p q s reply end is known done = over (work_cases map peers budget p q s reply is known done)
  where
    over : IsWorked map budget s q reply ⊎ IsSpent map budget s q reply → IsWorked map budget s q reply
    over (inl a) = a
    over (inr spent) = absurd (true≢false (sym end ∙ ap is_end spent.says))

-- what is answered for a work

first_waits : (waiting : List Cid) → waiting ≢ [] → (c : Cid) × (has c waiting ≡ true)
first_waits [] some = absurd (some refl)
first_waits (c ∷ waiting) some = (c, or_first (same_cid c c) (has c waiting) (cid_itself c))

not_spent : (map : Map) (budget : ℕ) (s : ReplicaState) (q q2 : Place) (reply reply2 : Reply) → count s + budget < 2 ^ 64 → IsWorked map budget s q reply → IsSpent map budget s q2 reply2 → ⊥
not_spent map budget s q q2 reply reply2 room a b =
    let wants : Queue = queue_in b.state.state.run in
    let first = first_waits wants.waiting b.waits in
    let waits : has first.0 (wanted wants) ≡ true = has-append first.0 wants.waiting (wants.flight ++ (wants.missing ++ bad_cids wants.bad)) ∙ or_first (has first.0 wants.waiting) (has first.0 (wants.flight ++ (wants.missing ++ bad_cids wants.bad))) first.1 in
    let so_far = subst (λ (l : List Cid). IsSoFar (draining.offers_of map) s.state.durable (wanted_in s.state.run) b.state.state.durable l) (wanted_of b.state.state.run)
    (taken_so_far map (cids_in s.state.durable.graph) s.state.durable (wanted_in s.state.run) b.state.state b.sound b.before.drained) in
    let fewer = before_end (draining.offers_of map) s.state.durable (wanted_in s.state.run) a.state.state.durable b.state.state.durable (wanted_in a.state.state.run) wants first.0 a.end.at_end.closure a.end.sound.durable.order_once so_far
    (once_in b.state.state.durable b.state.state.run b.sound.durable b.sound.run) waits (b.before.good first.0 first.1) in
    omega (arith, fewer, a.within, b.limit, room)

worked_says : (map : Map) (budget budget2 : ℕ) (s : ReplicaState) (q q2 : Place) (reply reply2 : Reply) → IsWorked map budget s q reply → IsWorked map budget2 s q2 reply2 → reply ≡ reply2
worked_says map budget budget2 s q q2 reply reply2 a b =
    let start : List Cid = wanted_in s.state.run in
    let came : came_between s a.state ≡ came_between s b.state = ap (λ (n : ℕ). capped n - capped (count s)) (ends_count map start s a.state b.state a.end b.end) in
    a.says ∙ (λ i. replies.Worked (came i) (missing_count map start s a.state b.state a.end b.end i) (bad_count map start s a.state b.state a.end b.end i)) ∙ sym b.says

spent_says : (map : Map) (budget : ℕ) (s : ReplicaState) (q q2 : Place) (reply reply2 : Reply) → count s + budget < 2 ^ 64 → IsSpent map budget s q reply → IsSpent map budget s q2 reply2 → reply ≡ reply2
spent_says map budget s q q2 reply reply2 room a b =
    let same : count a.state ≡ count b.state = omega (arith, a.within, a.limit, b.within, b.limit, room) in
    a.says ∙ ap (λ (n : ℕ). replies.Again (capped n - capped (count s))) same ∙ sym b.says

-- what is answered for this many gaps
abbrev settled_reply : ReplicaState → Reply
settled_reply n = repaired_reply (repaired_of (settled_with (gap_count (kept_of n.state.durable))))

record IsRepaired (map : Map) (s : ReplicaState) (q : Place) (reply : Reply) : Type 0 where
  pub state : ReplicaState
  pub is_state : state_at q ≡ Some state
  pub end : IsEnd map (repair_start s) s state
  pub says : reply ≡ settled_reply state

repair_end : (map : Map) (peers : List Place) (p q : Place) (s : ReplicaState) (reply : Reply) → is_end reply ≡ true → state_at p ≡ Some s → found_from s.state.durable.graph (offered_by peers) ≡ Some map → RepairDone peers p q reply → IsRepaired map s q reply
repair_end map peers p q s reply end is known done = over done.value done.says done.repairs
  where
    over : (value : Repaired) → reply ≡ repaired_reply value → RepairsTo peers (Ok value) p q → IsRepaired map s q reply
    over (repaired.Again processed) says repairs = absurd (true≢false (sym end ∙ ap is_end says))
    over repaired.Clean says repairs =
        let after = told_after p q s (RepairLeads repair_budget (finds_of peers) (Ok repaired.Clean)) is repairs.told in
        let run : q.run ≡ after.0.state.run = run_of_state q after.0 after.1 in
        record {
          state = after.0;
          is_state = after.1;
          end = record { at_end = after.2.is map known; sound = after.2.sound; still = subst (λ (x : Option Running). IsStill (queue_in x)) run (repairs.wants.0, repairs.wants.1) };
          says = says ∙ ap (λ (is : Settled). repaired_reply (repaired_of is)) (sym after.2.counts);
        }
    over (repaired.Open gaps) says repairs =
        let after = told_after p q s (RepairLeads repair_budget (finds_of peers) (Ok (repaired.Open gaps))) is repairs.told in
        let run : q.run ≡ after.0.state.run = run_of_state q after.0 after.1 in
        record {
          state = after.0;
          is_state = after.1;
          end = record { at_end = after.2.is map known; sound = after.2.sound; still = subst (λ (x : Option Running). IsStill (queue_in x)) run (repairs.wants.0, repairs.wants.1) };
          says = says ∙ ap (λ (is : Settled). repaired_reply (repaired_of is)) (sym after.2.counts);
        }

-- two of one world

pub works_one : (w : WorldState) (r workers workers2 : ℕ) (budget budget2 : Option ℕ) (entry entry2 : LineEntry) (reply reply2 : Reply) (w2 w3 : WorldState) → AreTold w → is_end reply ≡ true → is_end reply2 ≡ true → Step w (Work r workers budget) entry reply w2 → Step w (Work r workers2 budget2) entry2 reply2 w3
    → (reply ≡ reply2) × AreSameAt r w2 w3
works_one w r workers workers2 budget budget2 entry entry2 reply reply2 w2 w3 all end end2 step step2 = (
  worked_says map (budget_of budget) (budget_of budget2) s.0 first.moved.new second.moved.new reply reply2 a b,
  record {
    place = first.moved.new;
    place_too = second.moved.new;
    stands = moved_stands r w.places w2.places _ first.moved;
    stands_too = moved_stands r w.places w3.places _ second.moved;
    state = a.state;
    state_too = b.state;
    is_state = a.is_state;
    is_state_too = b.is_state;
    same = ends_same map (wanted_in s.0.state.run) s.0 a.state b.state a.end b.end;
  },
)
  where
    first : IsDone w (Work r workers budget) reply w2
    first = work_done w r workers budget entry reply w2 end step

    second : IsDone w (Work r workers2 budget2) reply2 w3
    second = work_done w r workers2 budget2 entry2 reply2 w3 end2 step2

    old : second.moved.old ≡ first.moved.old
    old = some_is (sym second.moved.stands ∙ first.moved.stands)

    s : (s : ReplicaState) × (state_at first.moved.old ≡ Some s)
    s = told_place first.moved.old (told_at w.places r first.moved.old all first.moved.stands)

    map : Map
    map = (found_told w r s.0 all).0

    a : IsWorked map (budget_of budget) s.0 first.moved.new reply
    a = work_end map (peers_of w r) (budget_of budget) first.moved.old first.moved.new s.0 reply end s.1 (found_told w r s.0 all).1 first.moved.holds

    b : IsWorked map (budget_of budget2) s.0 second.moved.new reply2
    b = work_end map (peers_of w r) (budget_of budget2) first.moved.old second.moved.new s.0 reply2 end2 s.1 (found_told w r s.0 all).1 (subst (λ (p : Place). WorkDone (peers_of w r) (budget_of budget2) p second.moved.new reply2) old second.moved.holds)

-- as many gaps are left where the same blocks are processed
abbrev pub GapLaw : Type 0
GapLaw = (xs ys : List Block) → SameMembers xs ys → length (gaps xs) ≡ length (gaps ys)

settled_one : GapLaw → (w2 w3 : WorldState) (r : ℕ) (reply reply2 : Reply) (same : AreSameAt r w2 w3) → reply ≡ settled_reply same.state → reply2 ≡ settled_reply same.state_too → HaveSameBytes r w2 w3 → reply ≡ reply2
settled_one law w2 w3 r reply reply2 same says says2 have =
    let s = same.state in
    let t = same.state_too in
    let at : AtPlace w3 r (λ q. IfSome (state_at same.place) (λ s. IfSome (state_at q) (SameBytes s))) = of_place w2 r (λ p. AtPlace w3 r (λ q. IfSome (state_at p) (λ s. IfSome (state_at q) (SameBytes s)))) same.place same.stands have in
    let both : IfSome (state_at same.place) (λ s. IfSome (state_at same.place_too) (SameBytes s)) = of_place w3 r (λ q. IfSome (state_at same.place) (λ s. IfSome (state_at q) (SameBytes s))) same.place_too same.stands_too at in
    let bytes : SameBytes s t = subst (λ (o : Option ReplicaState). IfSome o (SameBytes s)) same.is_state_too (subst (λ (o : Option ReplicaState). IfSome o (λ s. IfSome (state_at same.place_too) (SameBytes s))) same.is_state both) in
    let many : gap_count (kept_of s.state.durable) ≡ gap_count (kept_of t.state.durable) = law (blocks_of s.state.durable) (blocks_of t.state.durable) (same_blocks s t same.same.processed bytes) in
    says ∙ ap (λ (n : ℕ). repaired_reply (repaired_of (settled_with n))) many ∙ sym says2

pub repairs_one : GapLaw → (w : WorldState) (r workers workers2 : ℕ) (entry entry2 : LineEntry) (reply reply2 : Reply) (w2 w3 : WorldState) → AreTold w → is_end reply ≡ true → is_end reply2 ≡ true → Step w (Repair r workers) entry reply w2 → Step w (Repair r workers2) entry2 reply2 w3
    → AreSameAt r w2 w3 × (HaveSameBytes r w2 w3 → reply ≡ reply2)
repairs_one law w r workers workers2 entry entry2 reply reply2 w2 w3 all end end2 step step2 = (both, settled_one law w2 w3 r reply reply2 both a.says b.says)
  where
    first : IsDone w (Repair r workers) reply w2
    first = repair_done w r workers entry reply w2 end step

    second : IsDone w (Repair r workers2) reply2 w3
    second = repair_done w r workers2 entry2 reply2 w3 end2 step2

    old : second.moved.old ≡ first.moved.old
    old = some_is (sym second.moved.stands ∙ first.moved.stands)

    s : (s : ReplicaState) × (state_at first.moved.old ≡ Some s)
    s = told_place first.moved.old (told_at w.places r first.moved.old all first.moved.stands)

    map : Map
    map = (found_told w r s.0 all).0

    a : IsRepaired map s.0 first.moved.new reply
    a = repair_end map (peers_of w r) first.moved.old first.moved.new s.0 reply end s.1 (found_told w r s.0 all).1 first.moved.holds

    b : IsRepaired map s.0 second.moved.new reply2
    b = repair_end map (peers_of w r) first.moved.old second.moved.new s.0 reply2 end2 s.1 (found_told w r s.0 all).1 (subst (λ (p : Place). RepairDone (peers_of w r) p second.moved.new reply2) old second.moved.holds)

    both : AreSameAt r w2 w3
    both = record {
      place = first.moved.new;
      place_too = second.moved.new;
      stands = moved_stands r w.places w2.places _ first.moved;
      stands_too = moved_stands r w.places w3.places _ second.moved;
      state = a.state;
      state_too = b.state;
      is_state = a.is_state;
      is_state_too = b.is_state;
      same = ends_same map (repair_start s.0) s.0 a.state b.state a.end b.end;
    }

-- and of one budget

abbrev says_worked : Result Reply ActError → Bool
says_worked (Ok reply) = is_worked reply
says_worked (Err error) = false

no_work : (error : CoreError) (reply : Reply) → is_worked reply ≡ true → IsReply error reply → ⊥
no_work core.KeeperFault reply work e = e
no_work core.Memory reply work e = e
no_work error reply work e = true≢false (sym work ∙ sym (ap says_worked e))

work_done_so : (w : WorldState) (r workers : ℕ) (budget : Option ℕ) (entry : LineEntry) (reply : Reply) (w2 : WorldState) → is_worked reply ≡ true → Step w (Work r workers budget) entry reply w2 → IsDone w (Work r workers budget) reply w2
work_done_so w r workers budget entry reply w2 work step = over step.row
  where
    over : Row w (Work r workers budget) (λ r. is_named entry.keepers r ≡ true) (λ r. is_named entry.own r ≡ true) (λ r. is_named entry.desks r ≡ true) reply w2 → IsDone w (Work r workers budget) reply w2
    over (inl (inl (inl refused))) = let found = at_there w r (λ p. RefusedAt w p (Work r workers budget) (Some reply)) step.there refused.cause in absurd (no_work found.2.0 reply work found.2.3)
    over (inl (inl (inr done))) = done
    over (inl (inr fault)) = absurd (true≢false (sym work ∙ ap is_worked fault.says))
    over (inr peer) = absurd (true≢false (sym work ∙ ap is_worked peer.says))

pub answers_one : (w : WorldState) (r workers workers2 : ℕ) (budget : Option ℕ) (entry entry2 : LineEntry) (reply reply2 : Reply) (w2 w3 : WorldState) → AreTold w → HasRoom r budget w → is_worked reply ≡ true → is_worked reply2 ≡ true → Step w (Work r workers budget) entry reply w2 → Step w (Work r workers2 budget) entry2 reply2 w3 → reply ≡ reply2
answers_one w r workers workers2 budget entry entry2 reply reply2 w2 w3 all room work work2 step step2 = over
    (work_cases map (peers_of w r) (budget_of budget) first.moved.old first.moved.new s.0 reply s.1 (found_told w r s.0 all).1 first.moved.holds)
    (work_cases map (peers_of w r) (budget_of budget) first.moved.old second.moved.new s.0 reply2 s.1 (found_told w r s.0 all).1 (subst (λ (p : Place). WorkDone (peers_of w r) (budget_of budget) p second.moved.new reply2) old second.moved.holds))
  where
    first : IsDone w (Work r workers budget) reply w2
    first = work_done_so w r workers budget entry reply w2 work step

    second : IsDone w (Work r workers2 budget) reply2 w3
    second = work_done_so w r workers2 budget entry2 reply2 w3 work2 step2

    old : second.moved.old ≡ first.moved.old
    old = some_is (sym second.moved.stands ∙ first.moved.stands)

    s : (s : ReplicaState) × (state_at first.moved.old ≡ Some s)
    s = told_place first.moved.old (told_at w.places r first.moved.old all first.moved.stands)

    map : Map
    map = (found_told w r s.0 all).0

    roomy : count s.0 + budget_of budget < 2 ^ 64
    roomy = subst (λ (o : Option ReplicaState). IfSome o (λ s. count s + budget_of budget < 2 ^ 64)) s.1 (subst (λ (o : Option Place). IfSome o (λ (place : Place). IfSome (state_at place) (λ s. count s + budget_of budget < 2 ^ 64))) first.moved.stands room)

    over : IsWorked map (budget_of budget) s.0 first.moved.new reply ⊎ IsSpent map (budget_of budget) s.0 first.moved.new reply → IsWorked map (budget_of budget) s.0 second.moved.new reply2 ⊎ IsSpent map (budget_of budget) s.0 second.moved.new reply2 → reply ≡ reply2
    over (inl a) (inl b) = worked_says map (budget_of budget) (budget_of budget) s.0 first.moved.new second.moved.new reply reply2 a b
    over (inl a) (inr b) = absurd (not_spent map (budget_of budget) s.0 first.moved.new second.moved.new reply reply2 roomy a b)
    over (inr a) (inl b) = absurd (not_spent map (budget_of budget) s.0 second.moved.new first.moved.new reply2 reply roomy b a)
    over (inr a) (inr b) = spent_says map (budget_of budget) s.0 first.moved.new second.moved.new reply reply2 roomy a b
