-- What was found for a job comes in.
use Rattle.std.proofs.Common.{◌≡◌, ◌≤◌, ℕ, ◌+◌, Bool, true, false, cond, List, [], ◌∷◌, length, Option, Some, None, Result, Ok, Err, refl, sym, ◌∙◌, ap, subst, inl, inr, arith}
use Rattle.std.specs.Prelude.{IfSome, IfOk, IfErr}
use Rattle.mc_base.specs.Causes.{Rose}
use Rattle.mc_base.specs.Told.{Told}
use Rattle.mc_base.specs.declared.cid.Cid.{Cid}
use Rattle.mc_model.specs.declared.block.Block.{Block}
use Rattle.mc_model.specs.declared.block.Stored.{Stored}
use Rattle.mc_model.specs.Draining.{delivery, taken_up}
use Rattle.mc_model.specs.Events.{Event, Process, GiveBack, Bad as BadEvent}
use Rattle.mc_model.specs.Found.{damage_number}
use Rattle.mc_model.specs.Front.{is_among}
use Rattle.mc_model.specs.Graph.{has, in_graph, times}
use Rattle.mc_model.specs.Kept.{Kept, IsKept, bytes_at, is_stored}
use Rattle.mc_model.specs.Offer.{Damage, is_good, offer}
use Rattle.mc_model.specs.State.{IsSound, Running, durable_of}
use Rattle.mc_model.specs.Wanted.{Queue, give_back, to_missing, to_bad, wanted}
use Rattle.mc_model.proofs.Counts.{times_has}
use Rattle.mc_model.proofs.Held.{in_parts}
use Rattle.mc_keep.specs.declared.rows.Summary.{Summary}
use Rattle.mc_keep.specs.Causes.{IfTold}
use Rattle.mc_keep.specs.Changes.{no_changes}
use Rattle.mc_keep.specs.Tables.{IsSummary}
use Rattle.mc_keep.specs.declared.fuse.Fuse.{Fuse}
use Rattle.mc_fetch.specs.declared.job.Delivered.{Delivered}
use Rattle.mc_fetch.specs.declared.job.Delivered.TheVariants.{Processed, Missing, Bad, Known}
use Rattle.mc_plan.specs.declared.deliveries.Arrival.{Arrival}
use Rattle.mc_plan.specs.declared.deliveries.Taken.{Taken}
use Rattle.mc_plan.specs.declared.error.CoreError.{CoreError}
use Rattle.mc_plan.specs.declared.error.CoreError.TheVariants.{KeeperFault, Memory}
use Rattle.mc_plan.specs.Calls.{Call, Faults}
use Rattle.mc_plan.specs.Counted.{AreSound, run_of}
use Rattle.mc_plan.specs.Events.{ReplicaState, state_of, Goes}
use Rattle.mc_plan.specs.Jobs.{DeliversIn, DeliverEvents, DeliverShort, IsDelivered, IsTaken, TakesArrival}
use Rattle.mc_plan.specs.Uptakes.{IsNew, IsNoOther, IsUptake, IsSomeUptake, open_links, uptake_events, store_change, with_store}
use Rattle.mc_plan.specs.Reads.{read_refusal}
use Rattle.mc_plan.specs.Refusals.{Is, kind_of}
use Rattle.mc_plan.proofs.CallFacts.{at, nothing_done}
use Rattle.mc_plan.proofs.EventFacts.{breaks_rose, goes_nowhere}
use Rattle.mc_plan.proofs.JobFacts.{becomes, with_queue, back_goes, missing_goes, bad_goes, stored_good}
use Rattle.mc_plan.proofs.KindFacts.{by_kind}
use Rattle.mc_plan.proofs.RefusalFacts.{told_always}
use Rattle.mc_plan.proofs.SoundFacts.{goes_sound}

-- the law of what is stored
abbrev pub GraphLaw : Type 0
GraphLaw = (kept : Kept) (cid : Cid) → in_graph (durable_of kept).graph cid ≡ is_stored kept.graph cid

-- a good block is stored, unless it is, and processed
delivers_block : (law : GraphLaw) (kept : Kept) (cid : Cid) (bytes : List ℕ) (block : Block) → offer cid bytes ≡ Ok block
    → with_store (store_change kept.graph cid bytes) (Process (cid ∷ []) ∷ []) ≡ delivery (durable_of kept).graph cid (Some bytes)
delivers_block law kept cid bytes block good =
    elim (is_stored kept.graph cid) as (λ t. with_store (cond t None (Some (record no_changes { store = record { cid = cid; bytes = bytes } ∷ [] }))) (Process (cid ∷ []) ∷ []) ≡ taken_up t cid bytes (Ok block)) [
      | true ↦ refl
      | false ↦ refl
    ]
    ∙ ap (λ t. taken_up t cid bytes (Ok block)) (sym (law kept cid))
    ∙ ap (λ r. taken_up (in_graph (durable_of kept).graph cid) cid bytes r) (sym good)

-- a call that delivers
abbrev pub Calls : Cid → Option (List ℕ) → Type 0 → Result Delivered CoreError → ReplicaState → ReplicaState → Type 0
Calls cid found rose result s new = Call (Is (read_refusal s)) (DeliverEvents s cid found) (DeliverShort s cid) rose result s new

module _ (told told_new : Option Kept) (fuse fuse_new : Option Fuse) (stop : Bool) (run : Running) (cid : Cid) (rose : Type 0) (up : stop ≡ false) (same : told_new ≡ told) (same_fuse : fuse_new ≡ fuse) where
  -- where the block isn't in flight nothing happens
  pub deliver_known : (found : Option (List ℕ)) → has cid run.queue.flight ≡ false → Told (state_of told fuse (run_of stop run)) (state_of told_new fuse_new (run_of stop run)) (Calls cid found rose (Ok Known))
  deliver_known found out =
      subst (λ b. Told (state_of told fuse (run_of stop run)) (state_of told_new fuse_new (run_of b run)) (Calls cid found rose (Ok Known))) (sym up)
      (becomes (Calls cid found rose (Ok Known)) told told_new fuse fuse_new stop false run run up same same_fuse (told_always told _ (λ kept. record {
        allowed = refl;
        events = [];
        makes = subst (λ t. DeliversIn t (durable_of kept) cid found [] Known) (sym out) (refl, refl);
        goes = goes_nowhere (at kept fuse (Some run));
      })))

  module _ (there : has cid run.queue.flight ≡ true) where
    -- an event that changes only what is wanted
    one : (found : Option (List ℕ)) (q : Queue) (answer : Delivered) → ((kept : Kept) → Goes (delivery (durable_of kept).graph cid found) (at kept fuse (Some run)) (at kept fuse (Some (with_queue run q))))
        → ((kept : Kept) → IsDelivered (durable_of kept) cid found answer)
        → Told (state_of told fuse (run_of stop run)) (state_of told_new fuse_new (run_of stop (with_queue run q))) (Calls cid found rose (Ok answer))
    one found q answer goes is =
        subst (λ b. Told (state_of told fuse (run_of stop run)) (state_of told_new fuse_new (run_of b (with_queue run q))) (Calls cid found rose (Ok answer))) (sym up)
        (becomes (Calls cid found rose (Ok answer)) told told_new fuse fuse_new stop false run (with_queue run q) up same same_fuse (told_always told _ (λ kept. record {
          allowed = refl;
          events = delivery (durable_of kept).graph cid found;
          makes = subst (λ t. DeliversIn t (durable_of kept) cid found (delivery (durable_of kept).graph cid found) answer) (sym there) (refl, is kept);
          goes = goes kept;
        })))

    in_place : (q then : Queue) → q ≡ cond (has cid run.queue.flight) then run.queue → q ≡ then
    in_place q then is = is ∙ ap (λ t. cond t then run.queue) there

    pub deliver_missing : (q : Queue) → q ≡ cond (has cid run.queue.flight) (to_missing run.queue cid) run.queue
        → Told (state_of told fuse (run_of stop run)) (state_of told_new fuse_new (run_of stop (with_queue run q))) (Calls cid None rose (Ok Missing))
    deliver_missing q is = one None q Missing (λ kept. subst (λ r. Goes (delivery (durable_of kept).graph cid None) (at kept fuse (Some run)) (at kept fuse (Some (with_queue run r)))) (sym (in_place q (to_missing run.queue cid) is)) (missing_goes kept fuse run cid there)) (λ kept. refl)

    pub deliver_bad : (q : Queue) (bytes : List ℕ) (why : Damage) (damage : ℕ) → offer cid bytes ≡ Err why → damage ≡ damage_number why → q ≡ cond (has cid run.queue.flight) (to_bad run.queue cid damage) run.queue
        → Told (state_of told fuse (run_of stop run)) (state_of told_new fuse_new (run_of stop (with_queue run q))) (Calls cid (Some bytes) rose (Ok (Bad damage)))
    deliver_bad q bytes why damage damaged number is =
        one (Some bytes) q (Bad damage)
        (λ kept. subst (λ r. Goes (taken_up (in_graph (durable_of kept).graph cid) cid bytes r) (at kept fuse (Some run)) (at kept fuse (Some (with_queue run q)))) (sym damaged)
        (subst (λ r. Goes (BadEvent cid (damage_number why) ∷ []) (at kept fuse (Some run)) (at kept fuse (Some (with_queue run r)))) (sym (in_place q (to_bad run.queue cid damage) is ∙ ap (to_bad run.queue cid) number))
        (bad_goes kept fuse run cid (damage_number why) there)))
        (λ kept. (bytes, why, refl, damaged, number))

    -- after a want of memory the block waits again
    pub deliver_short : (found : Option (List ℕ)) (q : Queue) → q ≡ cond (has cid run.queue.flight) (give_back run.queue cid) run.queue
        → Told (state_of told fuse (run_of stop run)) (state_of told_new fuse_new (run_of stop (with_queue run q))) (Calls cid found rose (Err Memory))
    deliver_short found q is =
        subst (λ b. Told (state_of told fuse (run_of stop run)) (state_of told_new fuse_new (run_of b (with_queue run q))) (Calls cid found rose (Err Memory))) (sym up)
        (becomes (Calls cid found rose (Err Memory)) told told_new fuse fuse_new stop false run (with_queue run q) up same same_fuse (told_always told _ (λ kept. (
          there,
          subst (λ r. Goes (GiveBack cid ∷ []) (at kept fuse (Some run)) (at kept fuse (Some (with_queue run r)))) (sym (in_place q (give_back run.queue cid) is)) (back_goes kept fuse run cid there),
        ))))

  -- the keeper failed before the first commit
  pub deliver_failed : (found : Option (List ℕ)) (q : Queue) → rose → Told (state_of told fuse (run_of stop run)) (state_of told_new fuse_new None) (Calls cid found rose (Err KeeperFault))
  deliver_failed found q r =
      becomes (Calls cid found rose (Err KeeperFault)) told told_new fuse fuse_new stop true run run up same same_fuse
      (told_always told _ (λ kept. nothing_done (DeliverEvents (at kept fuse (Some run)) cid found) rose (at kept fuse (Some run)) r))

-- the commits of a block that was found are its delivery
pub arrival_call : (law : GraphLaw) (told mid : Option Kept) (fuse fuse_mid : Option Fuse) (stop : Bool) (run : Running) (new : Option ReplicaState) (cid : Cid) (bytes : List ℕ) (block : Block) (arrival : Arrival) (own own_mid own_new : ℕ)
    (result : Result Delivered CoreError) → stop ≡ false → mid ≡ told → fuse_mid ≡ fuse → own ≤ own_mid → has cid run.queue.flight ≡ true → offer cid bytes ≡ Ok block → arrival.uptake.after.cid ≡ cid
    → IfSome told (λ kept. uptake_events arrival.uptake ≡ with_store (store_change kept.graph cid bytes) (Process (cid ∷ []) ∷ [])) → IfSome told (λ kept. arrival.position ≡ length kept.order)
    → IfOk result (λ answer. answer ≡ Processed arrival.position)
    → Told (state_of mid fuse_mid (run_of stop run)) new (TakesArrival arrival.uptake (Rose own_mid own_new) result)
    → Told (state_of told fuse (run_of stop run)) new (Calls cid (Some bytes) (Rose own own_new) result)
arrival_call law told mid fuse fuse_mid stop run new cid bytes block arrival own own_mid own_new result up e f later there good same events position says takes =
    subst (λ b. Told (state_of told fuse (run_of b run)) new (Calls cid (Some bytes) (Rose own own_new) result)) (sym up)
    (over told new events position (subst (λ b. Told (state_of told fuse (run_of b run)) new (TakesArrival arrival.uptake (Rose own_mid own_new) result)) up
    (subst (λ x. Told (state_of told x (run_of stop run)) new (TakesArrival arrival.uptake (Rose own_mid own_new) result)) f
    (subst (λ t. Told (state_of t fuse_mid (run_of stop run)) new (TakesArrival arrival.uptake (Rose own_mid own_new) result)) e takes))))
  where
    planned : (kept : Kept) → uptake_events arrival.uptake ≡ with_store (store_change kept.graph cid bytes) (Process (cid ∷ []) ∷ []) → arrival.position ≡ length kept.order
        → DeliverEvents (at kept fuse (Some run)) cid (Some bytes) (uptake_events arrival.uptake) (Processed arrival.position)
    planned kept is place =
        subst (λ t. DeliversIn t (durable_of kept) cid (Some bytes) (uptake_events arrival.uptake) (Processed arrival.position)) (sym there)
        (is ∙ delivers_block law kept cid bytes block good, (bytes, block, refl, good, place))

    ends : (kept : Kept) (after : ReplicaState) (result : Result Delivered CoreError) → IfOk result (λ answer. answer ≡ Processed arrival.position)
        → DeliverEvents (at kept fuse (Some run)) cid (Some bytes) (uptake_events arrival.uptake) (Processed arrival.position)
        → TakesArrival arrival.uptake (Rose own_mid own_new) result (at kept fuse (Some run)) after → Calls cid (Some bytes) (Rose own own_new) result (at kept fuse (Some run)) after
    ends kept after (Ok answer) says uptake takes =
        record { allowed = refl; events = uptake_events arrival.uptake; makes = subst (DeliverEvents (at kept fuse (Some run)) cid (Some bytes) (uptake_events arrival.uptake)) (sym says) uptake; goes = takes }
    ends kept after (Err error) says uptake takes =
        by_kind (kind_of error) (λ never. absurd never)
        (λ breaks. record {
          events = uptake_events arrival.uptake;
          begins = inr (Processed arrival.position, uptake);
          breaks = breaks_rose (uptake_events arrival.uptake) (Rose own_mid own_new) (Rose own own_new) (at kept fuse (Some run)) after (λ r. omega (arith, r, later)) breaks;
        })
        (λ back. (there, subst (λ c. Goes (GiveBack c ∷ []) (at kept fuse (Some run)) after) same back)) takes

    over : (told : Option Kept) (new : Option ReplicaState) → IfSome told (λ kept. uptake_events arrival.uptake ≡ with_store (store_change kept.graph cid bytes) (Process (cid ∷ []) ∷ [])) → IfSome told (λ kept. arrival.position ≡ length kept.order)
        → Told (state_of told fuse (run_of false run)) new (TakesArrival arrival.uptake (Rose own_mid own_new) result) → Told (state_of told fuse (run_of false run)) new (Calls cid (Some bytes) (Rose own own_new) result)
    over None new events position takes = tt
    over (Some kept) None events position takes = absurd takes
    over (Some kept) (Some after) events position takes = ends kept after result says (planned kept events position) takes

-- a block is planned to be taken up

pub some_told : {E : Type 0} (told : Option Kept) (whole : Bool) (block : Block) (bytes : List ℕ)
    (result : Result Arrival E) → IfTold told result (λ kept arrival. IsUptake kept whole block bytes arrival.uptake)
    → IfTold told result (λ kept arrival. IsSomeUptake kept whole arrival.uptake)
some_told None whole block bytes result is = tt
some_told (Some kept) whole block bytes (Err error) is = tt
some_told (Some kept) whole block bytes (Ok arrival) is = record { block = block; bytes = bytes; plans = is }

pub new_told : (told : Option Kept) (cid : Cid) (taken : Taken) (known : Bool) → IsTaken cid taken
    → IfSome told (λ kept. is_among kept.order cid ≡ false) → IfSome told (λ kept. known ≡ is_stored kept.graph cid)
    → IfSome told (λ kept. known ≡ is_stored kept.graph cid → IsNoOther (bytes_at kept.graph cid) taken.bytes)
    → IfSome told (λ kept. IsNew kept taken.block taken.bytes (open_links kept taken.block))
new_told None cid taken known good new stored other = tt
new_told (Some kept) cid taken known good new stored other = record {
  good = ap (λ c. offer c taken.bytes) good.1 ∙ good.0;
  new = ap (is_among kept.order) good.1 ∙ new;
  known = subst (λ c. IsNoOther (bytes_at kept.graph c) taken.bytes) (sym good.1) (other stored);
  linked = refl;
}

pub with_links : (told : Option Kept) (block : Block) (bytes : List ℕ) (links : List Cid)
    → IfSome told (λ kept. IsNew kept block bytes (open_links kept block))
    → IfSome told (λ kept. links ≡ open_links kept block) → IfSome told (λ kept. IsNew kept block bytes links)
with_links None block bytes links new linked = tt
with_links (Some kept) block bytes links new linked = record {
  good = new.good;
  new = new.new;
  known = new.known;
  linked = linked;
}

pub known_told : (told : Option Kept) (cid : Cid) (taken : Taken) (known : Bool) → IsTaken cid taken → IfSome told (λ kept. known ≡ is_stored kept.graph cid) → IfSome told (λ kept. known ≡ is_stored kept.graph taken.block.cid)
known_told None cid taken known good stored = tt
known_told (Some kept) cid taken known good stored = stored ∙ ap (is_stored kept.graph) (sym good.1)

same_store : (graph : List Stored) (cid : Cid) (bytes other : List ℕ) (known : Bool) → known ≡ is_stored graph cid → (known ≡ false → other ≡ bytes) → store_change graph cid other ≡ store_change graph cid bytes
same_store graph cid bytes other true known found =
    ap (λ t. cond t None (Some (record no_changes { store = record { cid = cid; bytes = other } ∷ [] }))) (sym known)
    ∙ ap (λ t. cond t None (Some (record no_changes { store = record { cid = cid; bytes = bytes } ∷ [] }))) known
same_store graph cid bytes other false known found = ap (store_change graph cid) (found refl)

pub events_told : {E : Type 0} (told : Option Kept) (whole : Bool) (cid : Cid) (bytes : List ℕ) (taken : Taken)
    (known : Bool) (result : Result Arrival E) → IsTaken cid taken
    → IfSome told (λ kept. known ≡ is_stored kept.graph cid) → (known ≡ false → taken.bytes ≡ bytes)
    → IfTold told result (λ kept arrival. IsUptake kept whole taken.block taken.bytes arrival.uptake)
    → IfTold told result (λ kept arrival. uptake_events arrival.uptake
    ≡ with_store (store_change kept.graph cid bytes) (Process (cid ∷ []) ∷ []))
events_told None whole cid bytes taken known result good stored found is = tt
events_told (Some kept) whole cid bytes taken known (Err error) good stored found is = tt
events_told (Some kept) whole cid bytes taken known (Ok arrival) good stored found is =
    ap (λ store. with_store store (Process arrival.uptake.process.marks ∷ [])) is.store
    ∙ ap (λ (marks : List Cid). with_store (store_change kept.graph taken.block.cid taken.bytes) (Process marks ∷ [])) is.process.marks
    ∙ ap (λ (c : Cid). with_store (store_change kept.graph c taken.bytes) (Process (c ∷ []) ∷ [])) good.1
    ∙ ap (λ store. with_store store (Process (cid ∷ []) ∷ [])) (same_store kept.graph cid bytes taken.bytes known stored found)

pub place_told : (told : Option Kept) (summary : Summary) → IfSome told (λ kept. IsSummary kept summary) → IfSome told (λ kept. summary.processed ≡ length kept.order)
place_told None summary is = tt
place_told (Some kept) summary is = is.0

-- what is in flight is not processed
pub not_processed : (told : Option Kept) (stop : Bool) (run : Running) (cid : Cid) → AreSound stop told run → stop ≡ false → has cid run.queue.flight ≡ true → IfSome told (λ kept. is_among kept.order cid ≡ false)
not_processed None stop run cid sound up there = tt
not_processed (Some kept) stop run cid sound up there =
    let once : times cid kept.order + times cid (wanted run.queue) ≤ 1 = sound.once kept refl up cid in
    elim (is_among kept.order cid) as (λ t. is_among kept.order cid ≡ t → t ≡ false) [
      | true ↦ λ e. absurd (omega (arith, once, in_parts run.queue cid, times_has cid kept.order e, times_has cid run.queue.flight there))
      | false ↦ λ e. refl
    ] refl

-- stored bytes
pub other_told : (told : Option Kept) (cid : Cid) (bytes taken : List ℕ) → IfSome told IsKept → IfSome told (λ kept. Some bytes ≡ bytes_at kept.graph cid) → (is_good cid bytes ≡ true → taken ≡ bytes)
    → IfSome told (λ kept. IsNoOther (bytes_at kept.graph cid) taken)
other_told None cid bytes taken sound row same = tt
other_told (Some kept) cid bytes taken sound row same = subst (λ found. IsNoOther found taken) row (sym (same (stored_good kept.graph cid bytes sound.good (sym row))))

-- a want of memory gives the block back
pub deliver_short_sound : (cid : Cid) (s left : ReplicaState) → DeliverShort s cid left → IsSound s.state → IsSound left.state
deliver_short_sound cid s left p sound = goes_sound (GiveBack cid ∷ []) s left p.1 sound

pub gives_back : (told : Option Kept) (fuse : Option Fuse) (stop : Bool) (run : Running) (cid : Cid) (q : Queue) → stop ≡ false → has cid run.queue.flight ≡ true → q ≡ cond (has cid run.queue.flight) (give_back run.queue cid) run.queue
    → Told (state_of told fuse (run_of stop run)) (state_of told fuse (run_of stop (with_queue run q))) (Goes (GiveBack cid ∷ []))
gives_back told fuse stop run cid q up there is =
    subst (λ b. Told (state_of told fuse (run_of stop run)) (state_of told fuse (run_of b (with_queue run q))) (Goes (GiveBack cid ∷ []))) (sym up)
    (becomes (Goes (GiveBack cid ∷ [])) told told fuse fuse stop false run (with_queue run q) up refl refl (told_always told _ (λ kept.
    subst (λ r. Goes (GiveBack cid ∷ []) (at kept fuse (Some run)) (at kept fuse (Some (with_queue run r)))) (sym (is ∙ ap (λ t. cond t (give_back run.queue cid) run.queue) there)) (back_goes kept fuse run cid there))))

pub read_told : (told : Option Kept) (cid : Cid) (bytes : List ℕ) {E : Type 0} (result : Result Taken E) → IfSome told IsKept → IfSome told (λ kept. Some bytes ≡ bytes_at kept.graph cid)
    → (is_good cid bytes ≡ true → IfOk result (λ taken. taken.bytes ≡ bytes)) → IfSome told (λ kept. IfOk result (λ taken. IsNoOther (bytes_at kept.graph cid) taken.bytes))
read_told None cid bytes result sound row same = tt
read_told (Some kept) cid bytes (Ok taken) sound row same = other_told (Some kept) cid bytes taken.bytes sound row same
read_told (Some kept) cid bytes (Err error) sound row same = tt
