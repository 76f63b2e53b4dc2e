-- A worker's call of a sealed node, from its beginning to its end.
use Rattle.std.proofs.Common.{◌≡◌, ◌<◌, ◌≤◌, ◌^◌, ◌+◌, ℕ, Bool, true, false, List, [], ◌∷◌, ◌++◌, length, Option, Some, None, Result, Ok, Err, refl, sym, ap, ◌∙◌, subst}
use Rattle.std.specs.Prelude.{⊤, IfOk, IfSome}
use Rattle.std.proofs.lemmas.Bool.{false≢true}
use Rattle.mc_base.specs.Told.{Told}
use Rattle.mc_base.proofs.Telling.{told_weaker}
use Rattle.mc_base.specs.declared.cid.Cid.{Cid}
use Rattle.mc_base.specs.declared.counted.Counted as counted
use Rattle.mc_fetch.specs.Fits.{FoundHas, Map, NextFits, OwnFits}
use Rattle.mc_worker.specs.Lookups.{FoundFits}
use Rattle.mc_fetch.specs.Offers.{HasDigest}
use Rattle.mc_fetch.specs.declared.job.Delivered.{Delivered}
use Rattle.mc_fetch.specs.declared.job.Delivered.TheVariants.{Processed, Missing as Lost, Bad, Known}
use Rattle.mc_fetch.specs.declared.job.Job.{Job}
use Rattle.mc_fetch.specs.declared.job.Found.{Found}
use Rattle.mc_fetch.specs.declared.job.Found.TheVariants.{Bytes, Missing}
use Rattle.mc_keep.specs.declared.fuse.Fuse.{Fuse}
use Rattle.mc_keep.specs.declared.keeper.Keeper as keeper
use Rattle.mc_keep.specs.Plan.{Schedule}
use Rattle.mc_model.specs.Draining.{bytes_in, delivery}
use Rattle.mc_model.specs.Kept.{Kept, IsKept}
use Rattle.mc_core.specs.AnswersTo.{IsAnswerTo}
use Rattle.mc_core.specs.Counted.{capped, run_of}
use Rattle.mc_core.specs.Events.{ReplicaState, state_of}
use Rattle.mc_core.specs.Exact.{RunSame}
use Rattle.mc_core.specs.Jobs.{found_in}
use Rattle.mc_core.specs.Replica.{replica_state}
use Rattle.mc_core.specs.Words.{ContinuesAt}
use Rattle.mc_core.specs.declared.replica.Replica.{Replica}
use Rattle.mc_drain.specs.declared.end.DrainEnd.{DrainEnd}
use Rattle.mc_drain.specs.declared.end.DrainEnd.TheVariants as drain
use Rattle.mc_drain.specs.Leads.{Always, Leads, LeadsBy, all_processes, count}
use Rattle.mc_drain.specs.Words.{Begins, FoundFor, TakenFor, begin_failed}
use Rattle.mc_model.specs.Wanted.{Queue}
use Rattle.mc_drain.proofs.CallFacts.{own_fits, told_with}
use Rattle.mc_drain.proofs.TurnFacts.{at_state, room_told}
use Rattle.mc_worker.specs.declared.ends.ShopError.{ShopError}
use Rattle.mc_worker.specs.declared.ends.ShopError.TheVariants as shop
use Rattle.mc_node.specs.declared.entry.Entry.{Entry}
use Rattle.mc_worker.specs.declared.handover.Handover.{Handover}
use Rattle.mc_node.specs.declared.note.Note.{Note}
use Rattle.mc_node.specs.declared.note.Note.TheVariants.{Fetched}
use Rattle.mc_node.specs.Entries.{AddsEntry, is_sealed_log, items_at, shown_at}
use Rattle.mc_node.specs.Items.{Item, is_sealed, root, state_in}
use Rattle.mc_node.specs.Handovers.{AddsFetched, IfCommitted, IfQueued, IsBlock, is_of_fetched}
use Rattle.mc_node.specs.Jobs.{KeepsLimit, StopsWhere, hand_over, has_processed, note_if, shop_answer, shop_error}
use Rattle.mc_node.specs.Moves.{Adds, KeepsRun}
use Rattle.mc_node.specs.Ties.{Goes, IsTied}
use Rattle.mc_node.specs.Works.{Bounds, IsUnder}
use Rattle.mc_node.proofs.CallFacts.{BackLaw, adds_items, longer_grown, noted_halt}
use Rattle.mc_node.proofs.FrameFacts.{shown_goes}
use Rattle.mc_node.proofs.TieFacts.{IsLonger, told_state}
use Rattle.mc_node.proofs.WorkFacts.{Step, deliver_step, still_step}
use Rattle.mc_node.proofs.WorkTies.{tied_fetched, tied_worked, value_of}

-- what the calls that process nothing lead to
pub still_told : (limit : Bounds) (failed : Bool) (a b : Option ReplicaState) → Told a b (λ s new. Leads failed (count s) Always s new) → Told a b (Step limit failed)
still_told limit failed a b t = told_weaker (λ s new. Leads failed (count s) Always s new) (Step limit failed) (still_step limit failed) a b t

-- and a delivery below the limit
pub deliver_told : (limit : Bounds) (cap processed : ℕ) (failed : Bool) (c : Cid) (found : Found) (told : Option Kept) (fuse : Option Fuse) (stop : Bool) (run : _) (b : Option ReplicaState) → IsUnder limit.most cap → FoundFits limit.found c found
    → processed < cap → cap < 2 ^ 64 → IfSome told (λ kept. processed ≡ capped (length kept.order))
    → Told (state_of told fuse (run_of stop run)) b (λ s new. LeadsBy failed (count s + all_processes (delivery s.state.durable.graph c (found_in found))) (TakenFor c (found_in found)) (FoundFor c (found_in found)) s new)
    → Told (state_of told fuse (run_of stop run)) b (Step limit failed)
deliver_told limit cap processed failed c found told fuse stop run b under fits less small is t =
    told_with (λ s new. LeadsBy failed (count s + all_processes (delivery s.state.durable.graph c (found_in found))) (TakenFor c (found_in found)) (FoundFor c (found_in found)) s new) (λ s. count s < cap) (Step limit failed)
    (λ s new p q. deliver_step limit cap failed c found s new under fits q p) (state_of told fuse (run_of stop run)) b t
    (room_told processed cap (state_of told fuse (run_of stop run)) less small (at_state (λ kept. processed ≡ capped (length kept.order)) (λ s. processed ≡ capped (count s)) told fuse (run_of stop run) (λ kept e. e) is))

-- found bytes have the digest
pub found_has : (known : Option Map) (c : Cid) (found : Found) → FoundFits known c found → FoundHas c found
found_has known c (Bytes bytes) f = f.0
found_has known c Missing f = tt

module _ {K D : Type 0} {g : keeper.Ghosts K D} {h : counted.Ghosts K} {i : counted.Ghosts D} (told : K → Option Kept) (fuse : K → Option Fuse) (own faults : K → ℕ) (quiet : K → Bool) (schedule : K → Option Schedule) where
  pub sealed_items : (log first : List (Entry K D g h i)) → log ≡ first → is_sealed_log first ≡ true → is_sealed (items_at told fuse own faults quiet schedule log) ≡ true
  sealed_items log first is e = subst (λ (l : List (Entry K D g h i)). is_sealed (items_at told fuse own faults quiet schedule l) ≡ true) (sym is) (of_log first e)
    where
      of_log : (log : List (Entry K D g h i)) → is_sealed_log log ≡ true → is_sealed (items_at told fuse own faults quiet schedule log) ≡ true
      of_log [] e = e
      of_log (entry ∷ log) e = e

  -- the log stays tied
  pub job_ends : (back : BackLaw) (limit : Bounds) (old new : Replica K D g h i) (first log log' : List (Entry K D g h i)) (entry : Option Note) (failed fetched : Bool)
      → IsTied limit (shown_at told fuse own faults quiet schedule old) (items_at told fuse own faults quiet schedule log) → log ≡ first → is_sealed_log first ≡ true → old.stopped ≡ false → IfSome (told old.keeper) IsKept
      → ContinuesAt told fuse own faults quiet schedule failed old new → RunSame old new → Told (replica_state told fuse old) (replica_state told fuse new) (Step limit failed) → entry ≡ note_if failed fetched → AddsEntry entry new log log'
      → IsTied limit (shown_at told fuse own faults quiet schedule new) (items_at told fuse own faults quiet schedule log')
  job_ends back limit old new first log log' entry failed fetched tied is sealed runs sound continues rest step noted adds =
      over failed fetched (shown_goes told fuse own faults quiet schedule failed old new continues) step
      (adds_items told fuse own faults quiet schedule (note_if failed fetched) new log log log' refl (subst (λ (n : Option Note). AddsEntry n new log log') noted adds))
    where
      keeps : KeepsRun (shown_at told fuse own faults quiet schedule old) (shown_at told fuse own faults quiet schedule new)
      keeps = record { batch = rest.batch_same; walk = rest.walk_same; whole = rest.whole_same }

      longer : (b : Bool) → Told (replica_state told fuse old) (replica_state told fuse new) (Step limit b) → IsLonger (shown_at told fuse own faults quiet schedule old) (shown_at told fuse own faults quiet schedule new)
      longer b step = longer_grown back (told old.keeper) (told new.keeper) (fuse old.keeper) (fuse new.keeper) _ _ sound (told_weaker (Step limit b) _ (λ s new s1. s1.leads.grows) (replica_state told fuse old) (replica_state told fuse new) step)

      worked : Goes false (shown_at told fuse own faults quiet schedule old) (shown_at told fuse own faults quiet schedule new) → Told (replica_state told fuse old) (replica_state told fuse new) (Step limit false)
          → IsTied limit (shown_at told fuse own faults quiet schedule new) (items_at told fuse own faults quiet schedule log)
      worked goes step = tied_worked limit (items_at told fuse own faults quiet schedule log) (shown_at told fuse own faults quiet schedule old) (shown_at told fuse own faults quiet schedule new) tied (sealed_items log first is sealed) runs goes keeps (longer false step) step

      over : (b f : Bool) → Goes b (shown_at told fuse own faults quiet schedule old) (shown_at told fuse own faults quiet schedule new) → Told (replica_state told fuse old) (replica_state told fuse new) (Step limit b)
          → Adds (note_if b f) (shown_at told fuse own faults quiet schedule new) (items_at told fuse own faults quiet schedule log) (items_at told fuse own faults quiet schedule log')
          → IsTied limit (shown_at told fuse own faults quiet schedule new) (items_at told fuse own faults quiet schedule log')
      over false false goes step adds = subst (IsTied limit (shown_at told fuse own faults quiet schedule new)) (sym adds) (worked goes step)
      over false true goes step adds = subst (IsTied limit (shown_at told fuse own faults quiet schedule new)) (sym adds)
          (tied_fetched limit (items_at told fuse own faults quiet schedule log) (shown_at told fuse own faults quiet schedule new) (worked goes step) (goes.stops ∙ runs))
      over true f goes step adds = subst (IsTied limit (shown_at told fuse own faults quiet schedule new)) (sym adds)
          (noted_halt limit (shown_at told fuse own faults quiet schedule old) (shown_at told fuse own faults quiet schedule new) (items_at told fuse own faults quiet schedule log)
          (record { tied = tied; runs = runs; goes = goes; keeps = keeps; longer = longer true step; leads = λ s f. step }))

  -- a call that noted nothing and failed nowhere
  pub job_back : (back : BackLaw) (limit : Bounds) (old new : Replica K D g h i) (log log' : List (Entry K D g h i))
      → IsTied limit (shown_at told fuse own faults quiet schedule old) (items_at told fuse own faults quiet schedule log) → is_sealed_log log ≡ true → old.stopped ≡ false → IfSome (told old.keeper) IsKept
      → ContinuesAt told fuse own faults quiet schedule false old new → RunSame old new → Told (replica_state told fuse old) (replica_state told fuse new) (λ s new. Leads false (count s) Always s new) → log' ≡ log
      → IsTied limit (shown_at told fuse own faults quiet schedule new) (items_at told fuse own faults quiet schedule log')
  job_back back limit old new log log' tied sealed runs sound continues rest leads same =
      job_ends back limit old new log log log' None false false tied refl sealed runs sound continues rest (still_told limit false (replica_state told fuse old) (replica_state told fuse new) leads) refl same

  -- a job's own bytes fit
  next_fits : (limit : Bounds) (old : Replica K D g h i) (log : List Item) → IsTied limit (shown_at told fuse own faults quiet schedule old) log → is_sealed log ≡ true → old.stopped ≡ false → (job : Job) → IfSome job.own (HasDigest job.cid)
      → IfSome (replica_state told fuse old) (λ s. job.own ≡ bytes_in s.state.durable.graph job.cid) → (known : Option Map) → limit.found ≡ known → NextFits known limit.kept (Some job)
  next_fits limit old log t sealed runs job digest is None e = free job.own digest
    where
      free : (bytes : Option (List ℕ)) → IfSome bytes (HasDigest job.cid) → OwnFits None limit.kept job.cid bytes
      free None d = tt
      free (Some bytes) d = (d, tt)
  next_fits limit old log t sealed runs job digest is (Some known) e =
      let tells = t.known sealed known e in
      let m = value_of (state_in (shown_at told fuse own faults quiet schedule old)) (told_state (shown_at told fuse own faults quiet schedule old) ∙ t.telling ∙ tells) in
      let r = value_of (state_in (root log)) (told_state (root log) ∙ tells) in
      let drained = t.drains sealed runs known e r.0 m.0 r.1 m.1 in
      own_fits known limit.kept m.0.state.durable.graph job.cid job.own drained.stored drained.own (subst (λ (o : Option ReplicaState). IfSome o (λ s. job.own ≡ bytes_in s.state.durable.graph job.cid)) m.1 is) digest

  pub next_answer : (limit : Bounds) (old : Replica K D g h i) (first log : List (Entry K D g h i)) (result : Result (Option Job) DrainEnd) (answer : Result (Option Job) ShopError) → answer ≡ shop_answer result
      → IsTied limit (shown_at told fuse own faults quiet schedule old) (items_at told fuse own faults quiet schedule log) → log ≡ first → is_sealed_log first ≡ true → old.stopped ≡ false
      → IfOk result (λ job. IfSome job (λ (job : Job). IfSome job.own (HasDigest job.cid)))
      → IfSome (replica_state told fuse old) (λ s. IfOk result (λ job. IfSome job (λ (job : Job). job.own ≡ bytes_in s.state.durable.graph job.cid)))
      → IfOk answer (NextFits limit.found limit.kept)
  next_answer limit old first log result answer is t same sealed runs digest own_is = subst (λ (a : Result (Option Job) ShopError). IfOk a (NextFits limit.found limit.kept)) (sym is) (over result digest own_is)
    where
      over : (result : Result (Option Job) DrainEnd) → IfOk result (λ job. IfSome job (λ (job : Job). IfSome job.own (HasDigest job.cid)))
          → IfSome (replica_state told fuse old) (λ s. IfOk result (λ job. IfSome job (λ (job : Job). job.own ≡ bytes_in s.state.durable.graph job.cid)))
          → IfOk (shop_answer result) (NextFits limit.found limit.kept)
      over (Err end) d o = tt
      over (Ok None) d o = tt
      over (Ok (Some job)) d o = next_fits limit old (items_at told fuse own faults quiet schedule log) t (sealed_items log first same sealed) runs job d o limit.found refl

-- what the shop answers where the replica was called
pub answer_runs : {T : Type 0} (stopped : Bool) (result : Result T DrainEnd) (answer : Result T ShopError) → answer ≡ shop_answer result → stopped ≡ false → StopsWhere stopped answer
answer_runs {T} stopped result answer is runs = subst (StopsWhere stopped) (sym is) (over result)
  where
    failed : (end : DrainEnd) → StopsWhere {T = T} stopped (Err (shop_error end))
    failed drain.KeeperFault = runs
    failed drain.Memory = runs
    failed drain.Idle = runs
    failed drain.Spent = runs
    failed drain.PeerFault = runs

    over : (result : Result T DrainEnd) → StopsWhere stopped (shop_answer result)
    over (Ok value) = runs
    over (Err end) = failed end

pub answer_below : {T : Type 0} (told : Option Kept) (limit n : ℕ) (result : Result T DrainEnd) (answer : Result T ShopError) → answer ≡ shop_answer result → n < limit → IfSome told (λ kept. n ≡ capped (length kept.order))
    → IfSome told (λ kept. KeepsLimit limit (capped (length kept.order)) answer)
answer_below {T} None limit n result answer is less count = tt
answer_below {T} (Some kept) limit n result answer is less count = subst (KeepsLimit limit (capped (length kept.order))) (sym is) (over result)
  where
    below : capped (length kept.order) < limit
    below = subst (λ (m : ℕ). m < limit) count less

    failed : (end : DrainEnd) → KeepsLimit {T = T} limit (capped (length kept.order)) (Err (shop_error end))
    failed drain.KeeperFault = below
    failed drain.Memory = tt
    failed drain.Idle = tt
    failed drain.Spent = tt
    failed drain.PeerFault = tt

    over : (result : Result T DrainEnd) → KeepsLimit limit (capped (length kept.order)) (shop_answer result)
    over (Ok value) = below
    over (Err end) = failed end

-- and where the limit is reached
pub spent_at : (told : Option Kept) (limit n : ℕ) → limit ≤ n → IfSome told (λ kept. n ≡ capped (length kept.order)) → IfSome told (λ kept. limit ≤ capped (length kept.order))
spent_at None limit n more count = tt
spent_at (Some kept) limit n more count = subst (λ (m : ℕ). limit ≤ m) count more

pub said_nothing : {A : Type 0} (told : Option A) → IfSome told (λ x. ⊤)
said_nothing None = tt
said_nothing (Some x) = tt

-- no job began where nothing waited
pub idle_answer : (result : Result (Option Job) DrainEnd) (answer : Result (Option Job) ShopError) (q left : Queue) → answer ≡ shop_answer result → IfOk result (Begins q left) → answer ≡ Ok None → q.waiting ≡ []
idle_answer result answer q left is begins none = over result begins (sym is ∙ none)
  where
    over : (result : Result (Option Job) DrainEnd) → IfOk result (Begins q left) → shop_answer result ≡ Ok None → q.waiting ≡ []
    over (Ok None) b e = b.0
    over (Ok (Some job)) b e = absurd (cc e)
    over (Err end) b e = absurd (cc e)

-- nor was an answer of a call that went on spent
pub unspent : {T : Type 0} (result : Result T DrainEnd) (answer : Result T ShopError) → answer ≡ shop_answer result → answer ≡ Err shop.Spent → ⊥
unspent {T} result answer is e = over result (sym is ∙ e)
  where
    is_spent : ShopError → Bool
    is_spent shop.Spent = true
    is_spent shop.KeeperFault = false
    is_spent shop.Stopped = false
    is_spent shop.Memory = false

    spent_in : Result T ShopError → Bool
    spent_in (Ok value) = false
    spent_in (Err error) = is_spent error

    failed : (end : DrainEnd) → is_spent (shop_error end) ≡ false
    failed drain.KeeperFault = refl
    failed drain.Memory = refl
    failed drain.Idle = refl
    failed drain.Spent = refl
    failed drain.PeerFault = refl

    over : (result : Result T DrainEnd) → shop_answer result ≡ Err shop.Spent → ⊥
    over (Ok value) e = false≢true (ap spent_in e)
    over (Err end) e = false≢true (sym (failed end) ∙ ap spent_in e)

-- what is committed where the replica answers this adds the entries of its blocks, and nothing is queued
pub processed_alike : (result : Result Delivered DrainEnd) → has_processed result ≡ has_processed (shop_answer result)
processed_alike (Ok delivered) = refl
processed_alike (Err end) = refl

pub handed_queued : (result : Result Delivered DrainEnd) (answer : Result Delivered ShopError) (hand : Result Handover ShopError) → answer ≡ shop_answer result → hand ≡ hand_over answer → IfQueued hand (λ word. ⊥)
handed_queued result answer hand is by = subst (λ (h : Result Handover ShopError). IfQueued h (λ word. ⊥)) (sym (by ∙ ap hand_over is)) (over result)
  where
    over : (result : Result Delivered DrainEnd) → IfQueued (hand_over (shop_answer result)) (λ word. ⊥)
    over (Ok (Processed position)) = tt
    over (Ok Lost) = tt
    over (Ok (Bad damage)) = tt
    over (Ok Known) = tt
    over (Err end) = tt

-- what the answer says of what was found
pub handed_says : (cid : Cid) (found : Option (List ℕ)) (result : Result Delivered DrainEnd) (answer : Result Delivered ShopError) → answer ≡ shop_answer result → IfOk result (IsAnswerTo cid found) → IfOk answer (IsAnswerTo cid found)
handed_says cid found result answer is says = subst (λ (a : Result Delivered ShopError). IfOk a (IsAnswerTo cid found)) (sym is) (over result says)
  where
    over : (result : Result Delivered DrainEnd) → IfOk result (IsAnswerTo cid found) → IfOk (shop_answer result) (IsAnswerTo cid found)
    over (Ok delivered) s = s
    over (Err end) s = tt

-- nor was a block committed that is none
pub handed_blocks : (cid : Cid) (found : Option (List ℕ)) (result : Result Delivered DrainEnd) (answer : Result Delivered ShopError) (hand : Result Handover ShopError) → answer ≡ shop_answer result → hand ≡ hand_over answer → IfOk result (IsAnswerTo cid found) → IfCommitted hand (λ count. IsBlock cid found)
handed_blocks cid found result answer hand is by says = subst (λ (h : Result Handover ShopError). IfCommitted h (λ count. IsBlock cid found)) (sym (by ∙ ap hand_over is)) (over result says)
  where
    over : (result : Result Delivered DrainEnd) → IfOk result (IsAnswerTo cid found) → IfCommitted (hand_over (shop_answer result)) (λ count. IsBlock cid found)
    over (Ok (Processed position)) s = s
    over (Ok Lost) s = tt
    over (Ok (Bad damage)) s = tt
    over (Ok Known) s = tt
    over (Err end) s = tt

module _ {K D : Type 0} {g : keeper.Ghosts K D} {h : counted.Ghosts K} {i : counted.Ghosts D} where
  pub handed_adds : (result : Result Delivered DrainEnd) (answer : Result Delivered ShopError) (hand : Result Handover ShopError) (entry : Option Note) (replica : Replica K D g h i) (old mid new : List (Entry K D g h i))
      → answer ≡ shop_answer result → hand ≡ hand_over answer → entry ≡ note_if (begin_failed result) (has_processed result) → mid ≡ old → AddsEntry entry replica mid new → IfCommitted hand (AddsFetched is_of_fetched old new)
  handed_adds result answer hand entry replica old mid new is by noted m adds =
      subst (λ (h : Result Handover ShopError). IfCommitted h (AddsFetched is_of_fetched old new)) (sym (by ∙ ap hand_over is)) (over result (subst (λ (n : Option Note). AddsEntry n replica mid new) noted adds))
    where
      over : (result : Result Delivered DrainEnd) → AddsEntry (note_if (begin_failed result) (has_processed result)) replica mid new → IfCommitted (hand_over (shop_answer result)) (AddsFetched is_of_fetched old new)
      over (Ok (Processed position)) (about, shows, e) = record {
        entries = record { note = Fetched; replica = about } ∷ [];
        whole = e ∙ ap (λ (l : List (Entry K D g h i)). l ++ record { note = Fetched; replica = about } ∷ []) m;
        many = refl;
        kinds = refl;
      }
      over (Ok Lost) a = tt
      over (Ok (Bad damage)) a = tt
      over (Ok Known) a = tt
      over (Err end) a = tt
