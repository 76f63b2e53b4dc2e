-- What workers lead to, in both its forms, and with one call more.
use Rattle.std.proofs.Common.{◌≡◌, ◌≤◌, ◌<◌, ◌+◌, ℕ, Bool, true, false, ◌⊎◌, inl, inr, List, [], ◌∷◌, ◌++◌, take, drop, length, Option, Some, None, Result, Ok, Err, refl, sym, ap, ◌∙◌, subst, arith}
use Rattle.std.specs.Prelude.{is_some, unwrap_or}
use Rattle.std.proofs.lemmas.Bool.{false≢true}
use Rattle.std.proofs.lemmas.List.{take-append-drop}
use Rattle.std.proofs.Math.Seq.{take-append_seam}
use Rattle.mc_base.specs.declared.cid.Cid.{Cid}
use Rattle.mc_fetch.specs.Fits.{Map}
use Rattle.mc_worker.specs.Lookups.{FoundFits}
use Rattle.mc_fetch.specs.declared.job.Found.{Found}
use Rattle.mc_fetch.specs.declared.job.Found.TheVariants.{Bytes, Missing}
use Rattle.mc_keep.specs.Causes.{Kind, Refusal, Fault, Shortage, is_fault_kind}
use Rattle.mc_keep.specs.declared.fuse.Fuse.{Fuse}
use Rattle.mc_model.specs.Draining.{IsFoundFor, delivery, offers_of, queue_in}
use Rattle.mc_model.specs.Events.{Event}
use Rattle.mc_model.specs.Kept.{Kept}
use Rattle.mc_model.proofs.Prefix.{goes_on_then}
use Rattle.mc_core.specs.Calls.{Call, Faults, IsRefused, Stays}
use Rattle.mc_core.specs.Events.{ReplicaState, IsCutShort, all_happen, stopped}
use Rattle.mc_core.specs.Jobs.{found_in}
use Rattle.mc_core.specs.Reads.{OnlyReads}
use Rattle.mc_core.specs.Refusals.{ByKind, is_fault, kind_of}
use Rattle.mc_core.specs.declared.CoreError.{CoreError}
use Rattle.mc_core.proofs.GrowthFacts.{same_goes}
use Rattle.mc_drain.specs.Leads.{Always, FuseGoes, Leads, LeadsBy, all_processes, commits_between, count}
use Rattle.mc_drain.specs.Words.{FoundFor}
use Rattle.mc_drain.proofs.CallFacts.{delivery_processes}
use Rattle.mc_drain.proofs.EventFacts.{broken_at}
use Rattle.mc_drain.proofs.FuseFacts.{burns_none, burns_then, fuse_stays, longer}
use Rattle.mc_drain.proofs.StoredFacts.{drains_itself, drains_then}
use Rattle.mc_node.specs.Ties.{IsWithin}
use Rattle.mc_node.specs.Works.{Bounds, HasLed, IsBurnt, IsFired, IsKnown, IsUnder, WorkersLead, bound_of}
use Rattle.mc_node.proofs.StuckFacts.{parts_from, stuck_from}

some_is : {A : Type 0} (a b : A) → Some a ≡ Some b → a ≡ b
some_is a b e = ap (λ o. unwrap_or o a) e

some_not : {A : Type 0} (x : A) → Some x ≡ None → ⊥
some_not x e = false≢true (sym (ap is_some e))

-- of a fuse
kept_none : (failed : Bool) (most : ℕ) (old new : Option Fuse) → FuseGoes failed most old new → old ≡ None → new ≡ None
kept_none failed most None new f e = f
kept_none failed most (Some x) new f e = absurd (some_not x e)

is_fired : (failed : Bool) (most : ℕ) (old new : Option Fuse) → FuseGoes failed most old new → (x : Fuse) → old ≡ Some x → new ≡ None → IsFired failed most x
is_fired failed most None new f x e n = absurd (some_not x (sym e))
is_fired failed most (Some y) None f x e n = subst (IsFired failed most) (some_is y x e) (record { broke = f.0; reached = f.1 })
is_fired failed most (Some y) (Some z) f x e n = absurd (some_not z n)

is_burnt : (failed : Bool) (most : ℕ) (old new : Option Fuse) → FuseGoes failed most old new → (x y : Fuse) → old ≡ Some x → new ≡ Some y → IsBurnt most x y
is_burnt failed most None new f x y e n = absurd (some_not x (sym e))
is_burnt failed most (Some v) None f x y e n = absurd (some_not y (sym n))
is_burnt failed most (Some v) (Some w) f x y e n = subst (λ (b : Fuse). IsBurnt most x b) (some_is w y n) (subst (λ (a : Fuse). IsBurnt most a w) (some_is v x e) (record { same = f.0; fewer = f.1; near = f.2 }))

fuse_of : (failed : Bool) (most : ℕ) (old new : Option Fuse) → (old ≡ None → new ≡ None) → ((x : Fuse) → old ≡ Some x → new ≡ None → IsFired failed most x) → ((x y : Fuse) → old ≡ Some x → new ≡ Some y → IsBurnt most x y) → FuseGoes failed most old new
fuse_of failed most None new none fired burnt = none refl
fuse_of failed most (Some x) None none fired burnt = let f = fired x refl refl in (f.broke, f.reached)
fuse_of failed most (Some x) (Some y) none fired burnt = let b = burnt x y refl refl in (b.same, b.fewer, b.near)

first_is : {A : Type 0} (xs ys more : List A) → ys ≡ xs ++ more → take (length xs) ys ≡ xs
first_is xs ys more e = ap (take (length xs)) e ∙ take-append_seam xs more

goes_of : {A : Type 0} (xs ys : List A) → take (length xs) ys ≡ xs → ys ≡ xs ++ drop (length xs) ys
goes_of xs ys e = sym (take-append-drop (length xs) ys) ∙ ap (λ l. l ++ drop (length xs) ys) e

-- from one form to the other
pub led_of : (limit : Bounds) (failed : Bool) (s new : ReplicaState) → WorkersLead limit failed s new → HasLed limit failed s new
led_of limit failed s new w = record {
  order = first_is s.state.durable.order new.state.durable.order w.grows.processed w.grows.order;
  graph = first_is s.state.durable.graph new.state.durable.graph w.grows.stored w.grows.graph;
  few = w.few;
  no_fuse = kept_none failed (commits_between failed s new) s.fuse new.fuse w.fuse;
  fired = is_fired failed (commits_between failed s new) s.fuse new.fuse w.fuse;
  burnt = is_burnt failed (commits_between failed s new) s.fuse new.fuse w.fuse;
  goes = w.goes;
  parts = λ e map kept known old start h p. stuck_from (offers_of map) (queue_in new.state.run) (w.parts e map kept known old start h (parts_from (offers_of map) (queue_in s.state.run) p));
  breaks = w.breaks;
  whatever = w.whatever;
}

pub lead_of : (limit : Bounds) (failed : Bool) (s new : ReplicaState) → HasLed limit failed s new → WorkersLead limit failed s new
lead_of limit failed s new h = record {
  grows = record {
    processed = drop (length s.state.durable.order) new.state.durable.order;
    stored = drop (length s.state.durable.graph) new.state.durable.graph;
    order = goes_of s.state.durable.order new.state.durable.order h.order;
    graph = goes_of s.state.durable.graph new.state.durable.graph h.graph;
  };
  few = h.few;
  fuse = fuse_of failed (commits_between failed s new) s.fuse new.fuse h.no_fuse h.fired h.burnt;
  goes = h.goes;
  parts = λ e map kept known old start drained p. parts_from (offers_of map) (queue_in new.state.run) (h.parts e map kept known old start drained (stuck_from (offers_of map) (queue_in s.state.run) p));
  breaks = h.breaks;
  whatever = h.whatever;
}

-- what one call more of a worker leads to
pub record Step (limit : Bounds) (failed : Bool) (s new : ReplicaState) : Type 0 where
  pub leads : Leads failed (count new) (IsKnown limit) s new
  pub few : count s ≤ bound_of limit.most (count s) → count new ≤ bound_of limit.most (count new)

pub step_then : (limit : Bounds) (failed : Bool) (s mid new : ReplicaState) → WorkersLead limit false s mid → Step limit failed mid new → WorkersLead limit failed s new
step_then limit failed s mid new a b = record {
  grows = goes_on_then s.state.durable mid.state.durable new.state.durable a.grows b.leads.grows;
  few = b.few a.few;
  fuse = burns_then failed s mid new (longer s mid a.grows) (longer mid new b.leads.grows) a.fuse b.leads.fuse;
  goes = λ e known kept k old start h. b.leads.goes e known kept k old start (a.goes refl known kept k old start h);
  parts = λ e known kept k old start h p. b.leads.parts e known kept k old start (a.goes refl known kept k old start h) (a.parts refl known kept k old start h p);
  breaks = λ e known kept k old start h. b.leads.breaks e known kept k old start (a.goes refl known kept k old start h);
  whatever = λ e. drains_then s mid new b.leads.grows (a.whatever refl) (b.leads.whatever e);
}

-- within the bounds
bound_still : (most : Option ℕ) (a b : ℕ) → b ≤ a → a ≤ bound_of most a → b ≤ bound_of most b
bound_still None a b le in_bound = omega arith
bound_still (Some n) a b le in_bound = omega (arith, le, in_bound)

bound_more : (most : Option ℕ) (cap a b : ℕ) → IsUnder most cap → a < cap → b ≤ a + 1 → b ≤ bound_of most b
bound_more None cap a b under less le = omega arith
bound_more (Some n) cap a b under less le = let u = under n refl in omega (arith, u, less, le)

pub bound_first : (most : Option ℕ) (s : ReplicaState) → IsWithin most (Some s) → count s ≤ bound_of most (count s)
bound_first None s within = omega arith
bound_first (Some n) s within = within n refl s refl

-- nothing was done yet
pub none_leads : (limit : Bounds) (s : ReplicaState) → count s ≤ bound_of limit.most (count s) → WorkersLead limit false s s
none_leads limit s few = record {
  grows = same_goes s.state.durable;
  few = few;
  fuse = burns_none false s s refl;
  goes = λ e known kept k old start h. h;
  parts = λ e known kept k old start h p. p;
  breaks = λ e. absurd (false≢true e);
  whatever = λ e. drains_itself s;
}

-- a call that processes nothing
pub still_step : (limit : Bounds) (failed : Bool) (s new : ReplicaState) → Leads failed (count s) Always s new → Step limit failed s new
still_step limit failed s new a = record {
  leads = record {
    grows = a.grows;
    few = omega arith;
    fuse = a.fuse;
    goes = λ e known kept k. a.goes e known kept tt;
    parts = λ e known kept k. a.parts e known kept tt;
    breaks = λ e known kept k. a.breaks e known kept tt;
    whatever = a.whatever;
  };
  few = bound_still limit.most (count s) (count new) a.few;
}

fits_known : (limit : Bounds) (known : Map) (c : Cid) (found : Found) → limit.found ≡ Some known → FoundFits limit.found c found → IsFoundFor known c (found_in found)
fits_known limit known c found is fits = go found (subst (λ (m : Option Map). FoundFits m c found) is fits)
  where
    go : (found : Found) → FoundFits (Some known) c found → IsFoundFor known c (found_in found)
    go (Bytes bytes) f = f.1
    go Missing f = tt

found_known : (limit : Bounds) (known : Map) (c : Cid) (found : Found) → limit.found ≡ Some known → FoundFits limit.found c found → known c ≡ found_in found
found_known limit known c found is fits = go found (subst (λ (m : Option Map). FoundFits m c found) is fits)
  where
    go : (found : Found) → FoundFits (Some known) c found → known c ≡ found_in found
    go (Bytes bytes) f = f.1
    go Missing f = f

-- a delivery
pub deliver_step : (limit : Bounds) (cap : ℕ) (failed : Bool) (c : Cid) (found : Found) (s new : ReplicaState) → IsUnder limit.most cap → FoundFits limit.found c found → count s < cap
    → LeadsBy failed (count s + all_processes (delivery s.state.durable.graph c (found_in found))) (λ known kept. IsFoundFor known c (found_in found)) (FoundFor c (found_in found)) s new → Step limit failed s new
deliver_step limit cap failed c found s new under fits less a = record {
  leads = record {
    grows = a.grows;
    few = omega arith;
    fuse = a.fuse;
    goes = λ e known kept k. a.goes e known kept (fits_known limit known c found k.0 fits);
    parts = λ e known kept k. a.parts e known kept (found_known limit known c found k.0 fits);
    breaks = λ e known kept k. a.breaks e known kept (fits_known limit known c found k.0 fits);
    whatever = a.whatever;
  };
  few = λ in_bound. let d = delivery_processes s.state.durable.graph c (found_in found) in let f = a.few in bound_more limit.most cap (count s) (count new) under less (omega (arith, d, f));
}

-- a replica that has stopped between two commits
halt_step : (limit : Bounds) (s : ReplicaState) → Step limit true s (stopped s)
halt_step limit s = record {
  leads = record {
    grows = same_goes s.state.durable;
    few = omega arith;
    fuse = fuse_stays true (commits_between true s (stopped s)) s.fuse;
    goes = λ e. absurd (false≢true (sym e));
    parts = λ e. absurd (false≢true (sym e));
    breaks = λ e known kept k old start h. broken_at known kept old start s.state h;
    whatever = λ e. absurd (false≢true (sym e));
  };
  few = λ in_bound. in_bound;
}

-- a read that failed
read_breaks : {T : Type 0} (P : Kept → T → Type 0) (limit : Bounds) (rose : Type 0) (s new : ReplicaState) → Faults (OnlyReads P s) rose s new → Step limit true s new
read_breaks {T} P limit rose s new f = subst (λ (x : ReplicaState). Step limit true s x) (sym (ends f.breaks.so_far f.breaks.rest (sym (none f.begins) ∙ f.breaks.split) f.breaks.fate)) (halt_step limit s)
  where
    none : (f.events ≡ []) ⊎ ((value : T) × OnlyReads P s f.events value) → f.events ≡ []
    none (inl e) = e
    none (inr (value, plan)) = plan.0

    ends : (so_far rest : List Event) → [] ≡ so_far ++ rest → IsCutShort rest rose (all_happen s so_far) new → new ≡ stopped s
    ends [] [] e cut = cut.1
    ends [] (x ∷ xs) e cut = absurd (cc e)
    ends (x ∷ xs) rest e cut = absurd (cc e)

pub read_step : {T : Type 0} (Refused : ReplicaState → Option CoreError → Type 0) (P : Kept → T → Type 0) (limit : Bounds) (rose : Type 0) (result : Result T CoreError) (s new : ReplicaState) → is_fault result ≡ true
    → Call (Refused s) (OnlyReads P s) (Stays s) rose result s new → Step limit true s new
read_step Refused P limit rose (Ok value) s new e call = absurd (false≢true e)
read_step Refused P limit rose (Err error) s new e call = over (kind_of error) e call
  where
    over : (kind : Kind) → is_fault_kind kind ≡ true → ByKind (IsRefused (Refused s) error s new) (Faults (OnlyReads P s) rose s new) (Stays s new) kind → Step limit true s new
    over Refusal e call = absurd (false≢true e)
    over Fault e call = read_breaks P limit rose s new call
    over Shortage e call = absurd (false≢true e)
