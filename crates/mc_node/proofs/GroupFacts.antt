-- A group that a worker takes in, from its beginning to its end.
use Rattle.std.proofs.Common.{◌≡◌, ◌≤◌, ◌<◌, ◌+◌, ◌-◌, ◌^◌, ℕ, Bool, true, false, List, length, take, Option, Some, None, Result, Ok, Err, refl, sym, ap, ◌∙◌, subst, arith}
use Rattle.std.specs.Prelude.{⊤, IfErr, IfOk, IfSome, OnOk, is_some, unwrap_or}
use Rattle.std.proofs.lemmas.Bool.{false≢true}
use Rattle.std.proofs.lemmas.List.{length-drop, length-take}
use Rattle.mc_base.specs.Told.{Told}
use Rattle.mc_base.specs.declared.counted.Counted as counted
use Rattle.mc_fetch.specs.Fits.{Map}
use Rattle.mc_keep.specs.declared.fuse.Fuse.{Fuse}
use Rattle.mc_keep.specs.declared.keeper.Keeper as keeper
use Rattle.mc_keep.specs.Plan.{Schedule}
use Rattle.mc_model.specs.Kept.{Kept}
use Rattle.mc_model.specs.State.{Running}
use Rattle.mc_model.specs.Wanted.{Queue}
use Rattle.mc_model.specs.declared.block.Stored.{Stored}
use Rattle.mc_inbox.specs.Groups.{AreOffered}
use Rattle.mc_group.specs.Inboxes.{CountsGroup}
use Rattle.mc_group.specs.declared.grouped.Grouped.{Grouped}
use Rattle.mc_queue.specs.Views.{shown as shown_queue}
use Rattle.mc_core.specs.Counted.{capped, run_of}
use Rattle.mc_core.specs.Events.{ReplicaState, state_of}
use Rattle.mc_core.specs.declared.CoreError.{CoreError}
use Rattle.mc_core.specs.declared.CoreError.TheVariants as core
use Rattle.mc_core.specs.Exact.{DecidesAlone, RunSame, front_of, stop_front}
use Rattle.mc_core.specs.Refusals.{is_fault}
use Rattle.mc_core.specs.declared.replica.Replica.{Replica}
use Rattle.mc_drain.specs.declared.end.DrainEnd.{DrainEnd}
use Rattle.mc_drain.specs.declared.end.DrainEnd.TheVariants as drain
use Rattle.mc_drain.specs.Groups.{InboxTaken, OfferedFor, TakenWants}
use Rattle.mc_drain.specs.Leads.{Leads, count}
use Rattle.mc_drain.specs.Words.{begin_failed}
use Rattle.mc_drain.specs.Words.{IsBroken as IsEnd}
use Rattle.mc_drain.proofs.CallFacts.{told_with}
use Rattle.mc_drain.proofs.TurnFacts.{at_state}
use Rattle.mc_worker.specs.declared.ends.ShopError.{ShopError}
use Rattle.mc_node.specs.Entries.{shown_at}
use Rattle.mc_node.specs.Jobs.{IsBroken, note_if, shop_answer, shop_error}
use Rattle.mc_node.specs.Moves.{BeginsNot}
use Rattle.mc_node.specs.Pieces.{AreRight, GroupWants}
use Rattle.mc_node.specs.Works.{Bounds, IsUnder, bound_of}
use Rattle.mc_node.proofs.PieceFacts.{dropped_right}
use Rattle.mc_node.proofs.WorkFacts.{Step}

-- what a replica shows is the same where its inbox alone changed
pub shown_same : {K D : Type 0} {g : keeper.Ghosts K D} {h : counted.Ghosts K} {i : counted.Ghosts D} (told : K → Option Kept) (fuse : K → Option Fuse) (own faults : K → ℕ) (quiet : K → Bool) (schedule : K → Option Schedule) (old new : Replica K D g h i)
    → new.keeper ≡ old.keeper → new.queue ≡ old.queue → new.stopped ≡ old.stopped → RunSame old new → shown_at told fuse own faults quiet schedule new ≡ shown_at told fuse own faults quiet schedule old
shown_same told fuse own faults quiet schedule old new same queue stops rest = λ j. record {
  told = told (same j);
  fuse = fuse (same j);
  own = own (same j);
  faults = faults (same j);
  quiet = quiet (same j);
  schedule = schedule (same j);
  stopped = stops j;
  run = record { queue = shown_queue (queue j); walk = rest.walk_same j; batch = rest.batch_same j; whole = rest.whole_same j };
}

-- why there is no room for an inbox
pub begins_not : {T : Type 0} (result : Result T CoreError) (stopped : Bool) → front_of result ≡ stop_front stopped None → is_fault result ≡ false → IfErr result DecidesAlone → IfErr result (BeginsNot stopped)
begins_not (Ok value) stopped front calm alone = tt
begins_not (Err error) true front calm alone = stopped_error error front
  where
    stopped_error : (error : CoreError) → front_of {T = ⊤} (Err error) ≡ Some core.Stopped → error ≡ core.Stopped
    stopped_error core.Stopped f = refl
    stopped_error core.Memory f = absurd (cc f)
    stopped_error error f = ap (λ o. unwrap_or o error) f
begins_not (Err core.Memory) false front calm alone = refl
begins_not (Err core.KeeperFault) false front calm alone = absurd (false≢true (sym calm))
begins_not (Err (core.BlockTooLarge len)) false front calm alone = absurd (false≢true (sym alone))
begins_not (Err core.PriorityFull) false front calm alone = absurd (false≢true (sym alone))
begins_not (Err (core.Clash cid)) false front calm alone = absurd (false≢true (sym alone))
begins_not (Err error) false front calm alone = absurd (false≢true (sym (ap is_some front)))

-- what a group leads to, below a limit

right_known : (found : Option Map) (known : Map) (items : List Stored) → found ≡ Some known → AreRight found items → AreOffered known items
right_known found known items is right = subst (λ (m : Option Map). AreRight m items) is right

within_more : (most : Option ℕ) (cap b : ℕ) → IsUnder most cap → b ≤ cap → b ≤ bound_of most b
within_more None cap b under le = omega arith
within_more (Some n) cap b under le = let u = under n refl in omega (arith, u, le)

group_step : (limit : Bounds) (cap most : ℕ) (failed : Bool) (items : List Stored) (s new : ReplicaState) → IsUnder limit.most cap → AreRight limit.found items → count s + most ≤ cap → Leads failed (count s + most) (OfferedFor items) s new → Step limit failed s new
group_step limit cap most failed items s new under right fits a = record {
  leads = record {
    grows = a.grows;
    few = omega arith;
    fuse = a.fuse;
    goes = λ e known kept k. a.goes e known kept (right_known limit.found known items k.0 right);
    parts = λ e known kept k. a.parts e known kept (right_known limit.found known items k.0 right);
    breaks = λ e known kept k. a.breaks e known kept (right_known limit.found known items k.0 right);
    whatever = a.whatever;
  };
  few = λ in_bound. let f = a.few in within_more limit.most cap (count new) under (omega (arith, f, fits));
}

room_left : (processed most limit : ℕ) (a : Option ReplicaState) → processed < limit → most ≤ limit - processed → limit < 2 ^ 64 → IfSome a (λ s. processed ≡ capped (count s)) → IfSome a (λ s. count s + most ≤ limit)
room_left processed most limit None less few small is = tt
room_left processed most limit (Some s) less few small is = omega (arith, less, few, small, is)

pub group_told : (limit : Bounds) (cap processed most : ℕ) (failed : Bool) (items : List Stored) (told : Option Kept) (fuse : Option Fuse) (stop : Bool) (run : Running) (b : Option ReplicaState) → IsUnder limit.most cap → AreRight limit.found items
    → processed < cap → most ≤ cap - processed → cap < 2 ^ 64 → IfSome told (λ kept. processed ≡ capped (length kept.order))
    → Told (state_of told fuse (run_of stop run)) b (λ s new. Leads failed (count s + most) (OfferedFor items) s new) → Told (state_of told fuse (run_of stop run)) b (Step limit failed)
group_told limit cap processed most failed items told fuse stop run b under right less few small is t =
    told_with (λ s new. Leads failed (count s + most) (OfferedFor items) s new) (λ s. count s + most ≤ cap) (Step limit failed)
    (λ s new p q. group_step limit cap most failed items s new under right q p) (state_of told fuse (run_of stop run)) b t
    (room_left processed most cap (state_of told fuse (run_of stop run)) less few small (at_state (λ kept. processed ≡ capped (length kept.order)) (λ s. processed ≡ capped (count s)) told fuse (run_of stop run) (λ kept e. e) is))

-- the inbox after a group

pub taken_right : {T : Type 0} (taker : Option T) (found : Option Map) (result : Result Grouped DrainEnd) (most : ℕ) (old new : List Stored) → InboxTaken result most old new → IfSome taker (λ end. AreRight found old) → IfSome taker (λ end. AreRight found new)
taken_right taker found (Ok grouped) most old new is right = dropped_right taker found most old new is right
taken_right {T} taker found (Err end) most old new is right = ended end is
  where
    ended : (end : DrainEnd) → InboxTaken (Err end) most old new → IfSome taker (λ end. AreRight found new)
    ended drain.KeeperFault is = dropped_right taker found is.0 old new is.1 right
    ended drain.Memory is = subst (λ (l : List Stored). IfSome taker (λ end. AreRight found l)) (sym is) right
    ended drain.Idle is = absurd is
    ended drain.Spent is = absurd is
    ended drain.PeerFault is = absurd is

pub group_left : (result : Result Grouped DrainEnd) (answer : Result Grouped ShopError) (most : ℕ) (old new : List Stored) → answer ≡ shop_answer result → 1 ≤ most → length old ≤ 64 → InboxTaken result most old new → OnOk answer (length new < 64)
group_left result answer most old new is some few after = subst (λ (a : Result Grouped ShopError). OnOk a (length new < 64)) (sym is) (over result after)
  where
    over : (result : Result Grouped DrainEnd) → InboxTaken result most old new → OnOk (shop_answer result) (length new < 64)
    over (Ok grouped) after = let l = ap length after ∙ length-drop most old in omega (arith, l, some, few)
    over (Err end) after = tt

-- what is answered
pub ok_answer : {T : Type 0} (P : T → Type 0) (result : Result T DrainEnd) (answer : Result T ShopError) → answer ≡ shop_answer result → IfOk result P → IfOk answer P
ok_answer {T} P result answer is p = subst (λ (a : Result T ShopError). IfOk a P) (sym is) (over result p)
  where
    over : (result : Result T DrainEnd) → IfOk result P → IfOk (shop_answer result) P
    over (Ok value) p = p
    over (Err end) p = tt

pub ok_weaker : {T : Type 0} (P Q : T → Type 0) (answer : Result T ShopError) → ((value : T) → P value → Q value) → IfOk answer P → IfOk answer Q
ok_weaker P Q (Ok value) each p = each value p
ok_weaker P Q (Err error) each p = tt

pub ok_both : {T : Type 0} (P Q : T → Type 0) (R : Type 0) (answer : Result T ShopError) → ((value : T) → P value → R → Q value) → IfOk answer P → OnOk answer R → IfOk answer Q
ok_both P Q R (Ok value) each p r = each value p r
ok_both P Q R (Err error) each p r = tt

-- no entry of a halt is noted for an Ok
pub ok_unnoted : {T : Type 0} (result : Result T DrainEnd) (answer : Result T ShopError) (P : Type 0) → answer ≡ shop_answer result → (note_if (begin_failed result) false ≡ None → P) → OnOk answer P
ok_unnoted {T} result answer P is p = subst (λ (a : Result T ShopError). OnOk a P) (sym is) (over result p)
  where
    over : (result : Result T DrainEnd) → (note_if (begin_failed result) false ≡ None → P) → OnOk (shop_answer result) P
    over (Ok value) p = p refl
    over (Err end) p = tt

pub broken_answer : {T : Type 0} (result : Result T DrainEnd) (answer : Result T ShopError) → answer ≡ shop_answer result → IfErr result IsEnd → IfErr answer IsBroken
broken_answer {T} result answer is broken = subst (λ (a : Result T ShopError). IfErr a IsBroken) (sym is) (over result broken)
  where
    ended : (end : DrainEnd) → IsEnd end → IsBroken (shop_error end)
    ended drain.KeeperFault b = tt
    ended drain.Memory b = tt
    ended drain.Idle b = absurd b
    ended drain.Spent b = absurd b
    ended drain.PeerFault b = absurd b

    over : (result : Result T DrainEnd) → IfErr result IsEnd → IfErr (shop_answer result) IsBroken
    over (Ok value) b = tt
    over (Err end) b = ended end b

pub counted_few : (items : List Stored) (n : ℕ) (q : Queue) (grouped : Grouped) → CountsGroup q (take n items) grouped → grouped.processed ≤ n
counted_few items n q grouped counts = let o = counts.others in let l = length-take n items in omega (arith, o, l)

pub group_wants : (items : List Stored) (result : Result Grouped DrainEnd) (stopped : Bool) (q left : Queue) → IfOk result (CountsGroup q items) → TakenWants result items q left → GroupWants items (shop_answer result) stopped q left
group_wants items (Ok grouped) stopped q left counts wants = (wants, counts)
group_wants items (Err end) stopped q left counts wants = ended end wants
  where
    ended : (end : DrainEnd) → TakenWants (Err end) items q left → GroupWants items (shop_answer (Err end)) stopped q left
    ended drain.KeeperFault w = tt
    ended drain.Memory w = w
    ended drain.Idle w = absurd w
    ended drain.Spent w = absurd w
    ended drain.PeerFault w = absurd w
