-- How a drain of the caller's ends.
use Rattle.std.proofs.Common.{◌≡◌, ◌≢◌, ◌≤◌, ℕ, Bool, true, false, List, [], Option, Some, None, refl, sym, ap, subst, arith, inl, inr}
use Rattle.std.proofs.lemmas.Bool.{false≢true}
use Rattle.std.specs.Prelude.{IfSome}
use Rattle.mc_base.specs.Told.{Told}
use Rattle.mc_base.specs.declared.cid.Cid.{Cid}
use Rattle.mc_fetch.specs.Fits.{Map}
use Rattle.mc_keep.specs.declared.fuse.Fuse.{Fuse}
use Rattle.mc_model.specs.Drain.{AllDamaged, AllNothing, PartsFit}
use Rattle.mc_model.specs.Draining.{HasDrained, offers_of, queue_in}
use Rattle.mc_model.specs.Events.{GoesOn}
use Rattle.mc_model.specs.Graph.{has}
use Rattle.mc_model.specs.Kept.{Kept}
use Rattle.mc_model.specs.State.{Durable, Running}
use Rattle.mc_model.specs.Wanted.{Queue, requeue}
use Rattle.mc_model.proofs.Prefix.{goes_on_then}
use Rattle.mc_core.specs.Counted.{run_of}
use Rattle.mc_core.specs.Events.{ReplicaState, state_of}
use Rattle.mc_drain.specs.declared.end.DrainEnd.{DrainEnd}
use Rattle.mc_drain.specs.declared.end.DrainEnd.TheVariants.{Spent}
use Rattle.mc_drain.specs.Leads.{Always, Leads, count, up_to}
use Rattle.mc_drain.specs.Words.{AllGood, DrainLeads, Fetched, HasRested, NothingStuck, are_enough, is_keeper}
use Rattle.mc_drain.proofs.CallFacts.{leads_then, leads_weaker}
use Rattle.mc_drain.proofs.FuseFacts.{burns_then, longer}
use Rattle.mc_drain.proofs.StoredFacts.{drains_then}

-- where no number is enough, turns rest at the limit
pub at_limit : (limit : ℕ) (s : ReplicaState) (q : Queue) → HasRested limit None s q → limit ≤ count s
at_limit limit s q (inl at) = at
at_limit limit s q (inr enough) = absurd (false≢true enough)

pub rests_at : (P : Type 0) (limit : ℕ) (enough : Option ℕ) (q : Queue) (a : Option ReplicaState) → IfSome a (λ s. limit ≤ count s) → IfSome a (λ s. P → HasRested limit enough s q)
rests_at P limit enough q None at = tt
rests_at P limit enough q (Some s) at = λ p. inl at

pub rests_by : (P : Type 0) (limit : ℕ) (enough : Option ℕ) (q : Queue) (a : Option ReplicaState) → are_enough enough q.waiting ≡ true → IfSome a (λ s. P → HasRested limit enough s q)
rests_by P limit enough q None are = tt
rests_by P limit enough q (Some s) are = λ p. inr are

-- after a requeue nothing is stuck
pub nothing_stuck : (told : Option Kept) (fuse : Option Fuse) (stop : Bool) (run : Running) (q : Queue) → stop ≡ false → run.queue ≡ requeue q → IfSome (state_of told fuse (run_of stop run)) NothingStuck
nothing_stuck None fuse stop run q up is = tt
nothing_stuck (Some kept) fuse stop run q up is =
    subst (λ (b : Bool). ((queue_in (run_of b run)).missing ≡ []) × ((queue_in (run_of b run)).bad ≡ [])) (sym up) (ap (λ (x : Queue). x.missing) is, ap (λ (x : Queue). x.bad) is)

-- what waits, as the replica and as its state have it
pub waiting_shown : (told : Option Kept) (fuse : Option Fuse) (stop : Bool) (run : Running) → stop ≡ false → IfSome (state_of told fuse (run_of stop run)) (λ s. (queue_in s.state.run).waiting ≡ run.queue.waiting)
waiting_shown None fuse stop run up = tt
waiting_shown (Some kept) fuse stop run up = subst (λ (b : Bool). (queue_in (run_of b run)).waiting ≡ run.queue.waiting) (sym up) refl

stuck_fits : (map : Map) (q : Queue) → q.missing ≡ [] → q.bad ≡ [] → PartsFit (offers_of map) q
stuck_fits map q missing bad = (subst (λ (cids : List Cid). AllNothing (offers_of map) cids) (sym missing) tt, subst (λ (bad : List (Cid × ℕ)). AllDamaged (offers_of map) bad) (sym bad) tt)

-- turns after all waits again
pub begun_told : (failed : Bool) (limit : ℕ) (offers : Option Map) (a m b : Option ReplicaState) → Told a m (λ s mid. Leads false (count s) Always s mid) → Told m b (λ s new. Leads failed (up_to limit s) (Fetched offers) s new)
    → Told a b (λ s new. Leads failed (up_to limit s) (Fetched offers) s new)
begun_told failed limit offers None m b first next = tt
begun_told failed limit offers (Some s) None b first next = absurd first
begun_told failed limit offers (Some s) (Some mid) None first next = absurd next
begun_told failed limit offers (Some s) (Some mid) (Some new) first next =
    leads_weaker failed (up_to limit mid) (up_to limit s) (Fetched offers) (Fetched offers) s new
    (leads_then failed (count s) (up_to limit mid) Always (Fetched offers) (Fetched offers) s mid new first next (λ known kept old start f h. (tt, f))) (let few = first.few in omega (arith, few)) (λ known kept f. f)

-- it came to an end before the limit
pub drain_ended : (end : DrainEnd) (limit : ℕ) (offers : Option Map) (a m b : Option ReplicaState) → end ≢ Spent → Told a m (λ s mid. Leads false (count s) Always s mid) → IfSome m NothingStuck
    → Told m b (λ s new. Leads (is_keeper end) (up_to limit s) (Fetched offers) s new) → Told a b (λ s new. DrainLeads end limit (Fetched offers) s new)
drain_ended end limit offers None m b unspent first stuck next = tt
drain_ended end limit offers (Some s) None b unspent first stuck next = absurd first
drain_ended end limit offers (Some s) (Some mid) None unspent first stuck next = absurd next
drain_ended end limit offers (Some s) (Some mid) (Some new) unspent first stuck next = record {
  grows = goes_on_then s.state.durable mid.state.durable new.state.durable first.grows next.grows;
  within = let more = longer s mid first.grows in omega (arith, first.few, more, next.few);
  fuse = burns_then (is_keeper end) s mid new (longer s mid first.grows) (longer mid new next.grows) first.fuse next.fuse;
  spent = λ e. absurd (unspent e);
  goes = λ e map kept f old start h. next.goes e map kept f old start (first.goes refl map kept tt old start h);
  parts = λ e map kept f old start h. next.parts e map kept f old start (first.goes refl map kept tt old start h) (stuck_fits map (queue_in mid.state.run) stuck.0 stuck.1);
  breaks = λ e map kept f old start h. next.breaks e map kept f old start (first.goes refl map kept tt old start h);
  good = λ e. absurd (unspent e);
  whatever = λ e. drains_then s mid new next.grows (first.whatever refl) (next.whatever e);
}

-- it came to the limit, and what waits was parted
pub drain_parted : (end : DrainEnd) (limit : ℕ) (offers : Option Map) (waiting : List Cid) (a m n b : Option ReplicaState) → Told a m (λ s mid. Leads false (count s) Always s mid) → IfSome m NothingStuck
    → Told m n (λ s new. Leads false (up_to limit s) (Fetched offers) s new) → IfSome n (λ s. limit ≤ count s) → Told n b (λ s new. Leads (is_keeper end) (count s) (Fetched offers) s new)
    → IfSome n (λ s. end ≡ Spent → AllGood (Fetched offers) s waiting) → (end ≡ Spent → IfSome b (λ s. (queue_in s.state.run).waiting ≡ waiting)) → Told a b (λ s new. DrainLeads end limit (Fetched offers) s new)
drain_parted end limit offers waiting None m n b first stuck next spent last good shown = tt
drain_parted end limit offers waiting (Some s) None n b first stuck next spent last good shown = absurd first
drain_parted end limit offers waiting (Some s) (Some mid) None b first stuck next spent last good shown = absurd next
drain_parted end limit offers waiting (Some s) (Some mid) (Some now) None first stuck next spent last good shown = absurd last
drain_parted end limit offers waiting (Some s) (Some mid) (Some now) (Some new) first stuck next spent last good shown = record {
  grows = goes_on_then s.state.durable now.state.durable new.state.durable come_on last.grows;
  within = let more = longer s mid first.grows in omega (arith, first.few, more, next.few, last.few);
  fuse = burns_then (is_keeper end) s now new (longer s now come_on) (longer now new last.grows)
      (burns_then false s mid now (longer s mid first.grows) (longer mid now next.grows) first.fuse next.fuse) last.fuse;
  spent = λ e. let more = longer now new last.grows in omega (arith, spent, more);
  goes = λ e map kept f old start h. last.goes e map kept f old start (come map kept f old start h);
  parts = λ e map kept f old start h. last.parts e map kept f old start (come map kept f old start h)
      (next.parts refl map kept f old start (first.goes refl map kept tt old start h) (stuck_fits map (queue_in mid.state.run) stuck.0 stuck.1));
  breaks = λ e map kept f old start h. last.breaks e map kept f old start (come map kept f old start h);
  good = λ e map kept f old start h c w. good e map kept f old start (come map kept f old start h) c (subst (λ (cids : List Cid). has c cids ≡ true) (shown e) w);
  whatever = λ e. drains_then s now new last.grows (drains_then s mid now next.grows (first.whatever refl) (next.whatever refl)) (last.whatever e);
}
  where
    come_on : GoesOn s.state.durable now.state.durable
    come_on = goes_on_then s.state.durable mid.state.durable now.state.durable first.grows next.grows

    come : (map : Map) (kept : List Cid) → Fetched offers map kept → (old : Durable) (start : List Cid) → HasDrained map kept old start s.state → HasDrained map kept old start now.state
    come map kept f old start h = next.goes refl map kept f old start (first.goes refl map kept tt old start h)
