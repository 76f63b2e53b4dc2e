-- Blocks that are stored, and roots that are heard after them.
use Rattle.std.proofs.Common.{◌≡◌, ◌∙◌, ℕ, ◌+◌, ◌-◌, ◌≤◌, true, false, cond, ◌||◌, List, [], ◌∷◌, ◌++◌, length, Option, Some, None, Result, Ok, Err, refl, sym, subst, inl, inr, ap, arith}
use Rattle.mc_base.specs.Told.{Told}
use Rattle.mc_base.specs.declared.cid.Cid.{Cid}
use Rattle.mc_keep.specs.Causes.{Kind, Refusal, Fault, Shortage}
use Rattle.mc_keep.specs.declared.fuse.Fuse.{Fuse}
use Rattle.mc_model.specs.declared.block.Stored.{Stored}
use Rattle.mc_model.specs.Draining.{queue_in}
use Rattle.mc_model.specs.Events.{Event, Hear}
use Rattle.mc_model.specs.Graph.{has}
use Rattle.mc_model.specs.State.{Durable, Running}
use Rattle.mc_model.specs.Wanted.{Queue, bad_cids, hear, hear_all, out_of_stuck, to_waiting, want, wanted}
use Rattle.mc_inbox.specs.Groups.{store_events}
use Rattle.mc_group.specs.Storing.{KeepEvents, unstored}
use Rattle.mc_plan.specs.declared.error.CoreError.{CoreError}
use Rattle.mc_plan.specs.declared.hears.Heard.{Heard}
use Rattle.mc_plan.specs.Calls.{Begins, Call, Faults, IsRefused, Stays}
use Rattle.mc_plan.specs.Events.{ReplicaState, Breaks, Goes, all_happen}
use Rattle.mc_plan.specs.Hears.{AreSome, HearEvents, HearWants, IsQueued, cast_refusal, hear_refusal}
use Rattle.mc_plan.specs.Reads.{read_refusal}
use Rattle.mc_plan.specs.Refusals.{ByKind, Is, kind_of, running_refusal}
use Rattle.mc_plan.proofs.EventFacts.{breaks_after, breaks_more, breaks_rose, goes_then}
use Rattle.mc_files.specs.Files.{TakeEvents, TakeShort, TakesRoots}
use Rattle.mc_files.specs.Steps.{NamesJust}
use Rattle.mc_files.specs.declared.taking.Imported.{Imported}

-- ---- blocks that are stored leave all else

-- neither what is processed nor what is wanted, nor whether the replica runs
record Still (s now : ReplicaState) : Type 0 where
  pub queue_same : queue_in now.state.run ≡ queue_in s.state.run
  pub order_same : now.state.durable.order ≡ s.state.durable.order
  pub refusal_same : read_refusal now ≡ read_refusal s

stores_over : (item : Stored) (items : List Stored) (durable : Durable) (run : Option Running) (fuse : Option Fuse) → Still (record { state = record { durable = durable; run = run }; fuse = fuse }) (all_happen (record { state = record { durable = durable; run = run }; fuse = fuse }) (store_events (item ∷ items)))
stores_over item items durable None fuse = record { queue_same = refl; order_same = refl; refusal_same = refl }
stores_over item items durable (Some run) fuse = record { queue_same = refl; order_same = refl; refusal_same = refl }

stores_still : (items : List Stored) (s : ReplicaState) → Still s (all_happen s (store_events items))
stores_still [] s = record { queue_same = refl; order_same = refl; refusal_same = refl }
stores_still (item ∷ items) s = stores_over item items s.state.durable s.state.run s.fuse

-- ---- nothing leaves waiting where roots are heard

one_more : (xs : List Cid) (c : Cid) → length xs ≤ length (xs ++ c ∷ [])
one_more [] c = omega arith
one_more (x ∷ xs) c = omega (arith, one_more xs c)

waits_more : (order : List Cid) (q : Queue) (c : Cid) → length q.waiting ≤ length (hear order q c).waiting
waits_more order q c =
    elim (has c q.missing || has c (bad_cids q.bad)) as (λ t. length q.waiting ≤ length (cond t (to_waiting (out_of_stuck q c) c) (want order q c)).waiting) [
      | true ↦ one_more q.waiting c
      | false ↦ elim (has c order || has c (wanted q)) as (λ t. length q.waiting ≤ length (cond t q (to_waiting q c)).waiting) [ true ↦ omega arith | false ↦ one_more q.waiting c ]
    ]

all_wait_more : (order : List Cid) (q : Queue) (cids : List Cid) → length q.waiting ≤ length (hear_all order q cids).waiting
all_wait_more order q [] = omega arith
all_wait_more order q (c ∷ cids) = omega (arith, waits_more order q c, all_wait_more order (hear order q c) cids)

-- so their number is there
abbrev count_of : (order : List Cid) (q : Queue) (cids : List Cid) → ℕ
count_of order q cids = length (hear_all order q cids).waiting - length q.waiting

adds_up : (a b : ℕ) → a ≤ b → a + (b - a) ≡ b
adds_up a b less = omega (arith, less)

counted : (order : List Cid) (q : Queue) (cids : List Cid) → IsQueued q (hear_all order q cids) (count_of order q cids)
counted order q cids = adds_up (length q.waiting) (length (hear_all order q cids).waiting) (all_wait_more order q cids)

-- ---- the two calls together

abbrev Keeps : List Stored → Type 0 → Result ℕ CoreError → ReplicaState → ReplicaState → Type 0
Keeps items rose result s new = Call (Is (read_refusal s)) (KeepEvents s items) (Stays s) rose result s new

abbrev HearsOf : List ℕ → Type 0 → Result Heard CoreError → ReplicaState → ReplicaState → Type 0
HearsOf message rose result s new = Call (Is (hear_refusal s message)) (HearEvents s message) (Stays s) rose result s new

abbrev pub Takes : List Cid → List Stored → Type 0 → Result Imported CoreError → ReplicaState → ReplicaState → Type 0
Takes roots items rose result s new = Call (Is (read_refusal s)) (TakeEvents s roots items) (TakeShort s items) rose result s new

module _ (roots : List Cid) (items : List Stored) (s : ReplicaState) where
  -- so many roots come to waiting
  abbrev whole : ℕ → Imported
  whole stored = record { stored = stored; queued = count_of s.state.durable.order (queue_in s.state.run) roots }

  makes_whole : (events : List Event) (stored : ℕ) → KeepEvents s items events stored → TakeEvents s roots items (events ++ Hear roots ∷ []) (whole stored)
  makes_whole events stored keeps = record {
    store = events;
    keeps = keeps;
    are = refl;
    heard = counted s.state.durable.order (queue_in s.state.run) roots;
  }

-- the first one failed

keep_faults : (roots : List Cid) (items : List Stored) (rose : Type 0) (s new : ReplicaState) → Faults (KeepEvents s items) rose s new → Faults (TakeEvents s roots items) rose s new
keep_faults roots items rose s new f = by_begin f.events f.begins f.breaks
  where
    by_begin : (events : List Event) → Begins (KeepEvents s items) events → Breaks events rose s new → Faults (TakeEvents s roots items) rose s new
    by_begin events (inl none) breaks = record { events = events; begins = inl none; breaks = breaks }
    by_begin events (inr keeps) breaks = record {
      events = events ++ Hear roots ∷ [];
      begins = inr (whole roots items s keeps.0, makes_whole roots items s events keeps.0 keeps.1);
      breaks = breaks_more events (Hear roots ∷ []) rose s new breaks;
    }

keep_kinds : (kind : Kind) (error : CoreError) (roots : List Cid) (items : List Stored) (rose : Type 0) (s new : ReplicaState)
    → ByKind (IsRefused (Is (read_refusal s)) error s new) (Faults (KeepEvents s items) rose s new) (new ≡ s) kind
    → ByKind (IsRefused (Is (read_refusal s)) error s new) (Faults (TakeEvents s roots items) rose s new) (TakeShort s items new) kind
keep_kinds Refusal error roots items rose s new p = p
keep_kinds Fault error roots items rose s new p = keep_faults roots items rose s new p
keep_kinds Shortage error roots items rose s new p = inl p

pub keep_fails : (roots : List Cid) (items : List Stored) (rose : Type 0) (error : CoreError) (old new : Option ReplicaState) → Told old new (Keeps items rose (Err error)) → Told old new (Takes roots items rose (Err error))
keep_fails roots items rose error None new p = tt
keep_fails roots items rose error (Some s) None p = p
keep_fails roots items rose error (Some s) (Some after) p = keep_kinds (kind_of error) error roots items rose s after p

-- both have come

module _ (roots : List Cid) (items : List Stored) (message : List ℕ) (names : NamesJust message roots) where
  pub both_come : (rose first last : Type 0) (stored : ℕ) (heard : Heard) (old mid new : Option ReplicaState) → Told old mid (Keeps items first (Ok stored)) → Told mid new (HearsOf message last (Ok heard))
      → Told old new (Takes roots items rose (Ok (record { stored = stored; queued = heard.queued })))
  both_come rose first last stored heard None mid new p q = tt
  both_come rose first last stored heard (Some s) None new p q = absurd p
  both_come rose first last stored heard (Some s) (Some m) None p q = q
  both_come rose first last stored heard (Some s) (Some m) (Some after) p q =
      let still : Still s m = subst (Still s) (sym (p.goes.ends ∙ ap (all_happen s) p.makes.are)) (stores_still (unstored s.state.durable.graph items) s) in
      let are : q.makes.cids ≡ roots = names q.makes.cids q.makes.named in
      record {
        allowed = p.allowed;
        events = p.events ++ q.events;
        makes = record {
          store = p.events;
          keeps = p.makes;
          are = ap (λ (l : List Event). p.events ++ l) (q.makes.only ∙ ap (λ (cids : List Cid). Hear cids ∷ []) are);
          heard = subst (λ (cids : List Cid). IsQueued (queue_in s.state.run) (hear_all s.state.durable.order (queue_in s.state.run) cids) heard.queued) are
              (subst (λ (order : List Cid). IsQueued (queue_in s.state.run) (hear_all order (queue_in s.state.run) q.makes.cids) heard.queued) still.order_same
              (subst (λ (r : Queue). IsQueued r (hear_all m.state.durable.order r q.makes.cids) heard.queued) still.queue_same q.makes.queued));
        };
        goes = goes_then p.events q.events s m after p.goes q.goes;
      }

  -- the second one failed, after the first

  hear_breaks : (rose : Type 0) (m new : ReplicaState) → Faults (HearEvents m message) rose m new → Breaks (Hear roots ∷ []) rose m new
  hear_breaks rose m new f = by_begin f.events f.begins f.breaks
    where
      by_begin : (events : List Event) → Begins (HearEvents m message) events → Breaks events rose m new → Breaks (Hear roots ∷ []) rose m new
      by_begin events (inl none) breaks = breaks_more [] (Hear roots ∷ []) rose m new (subst (λ (l : List Event). Breaks l rose m new) none breaks)
      by_begin events (inr hears) breaks = subst (λ (l : List Event). Breaks l rose m new) (hears.1.only ∙ ap (λ (cids : List Cid). Hear cids ∷ []) (names hears.1.cids hears.1.named)) breaks

  never : {P : Type 0} (error : CoreError) (s m : ReplicaState) → cast_refusal message ≡ None → None ≡ read_refusal s → Still s m → Some error ≡ hear_refusal m message → P
  never error s m allowed up still due = absurd (let e : Some error ≡ None = due ∙ ap (λ (r : Option CoreError). running_refusal m.state.run (λ run. r)) allowed ∙ still.refusal_same ∙ sym up in cc)

  hear_kinds : (kind : Kind) (error : CoreError) (rose last : Type 0) (stored : ℕ) (events : List Event) (s m new : ReplicaState) → (last → rose) → cast_refusal message ≡ None → None ≡ read_refusal s → KeepEvents s items events stored → Goes events s m → Still s m
      → ByKind (IsRefused (Is (hear_refusal m message)) error m new) (Faults (HearEvents m message) last m new) (new ≡ m) kind
      → ByKind (IsRefused (Is (read_refusal s)) error s new) (Faults (TakeEvents s roots items) rose s new) (TakeShort s items new) kind
  hear_kinds Refusal error rose last stored events s m new f allowed up keeps goes still p = never error s m allowed up still p.0
  hear_kinds Fault error rose last stored events s m new f allowed up keeps goes still p = record {
    events = events ++ Hear roots ∷ [];
    begins = inr (whole roots items s stored, makes_whole roots items s events stored keeps);
    breaks = breaks_after events (Hear roots ∷ []) rose s m new goes (breaks_rose (Hear roots ∷ []) last rose m new f (hear_breaks last m new p));
  }
  hear_kinds Shortage error rose last stored events s m new f allowed up keeps goes still p =
      inr (subst (λ (l : List Event). Goes l s new) keeps.are (subst (Goes events s) (sym p) goes))

  pub hear_fails : (rose first last : Type 0) (stored : ℕ) (error : CoreError) (old mid new : Option ReplicaState) → (last → rose) → cast_refusal message ≡ None → Told old mid (Keeps items first (Ok stored)) → Told mid new (HearsOf message last (Err error))
      → Told old new (Takes roots items rose (Err error))
  hear_fails rose first last stored error None mid new f allowed p q = tt
  hear_fails rose first last stored error (Some s) None new f allowed p q = absurd p
  hear_fails rose first last stored error (Some s) (Some m) None f allowed p q = q
  hear_fails rose first last stored error (Some s) (Some m) (Some after) f allowed p q =
      let still : Still s m = subst (Still s) (sym (p.goes.ends ∙ ap (all_happen s) p.makes.are)) (stores_still (unstored s.state.durable.graph items) s) in
      hear_kinds (kind_of error) error rose last stored p.events s m after f allowed (p.allowed) p.makes p.goes still q

  -- what is wanted then, over every keeper
  pub takes_roots : (count stored : ℕ) (heard : Heard) (q mid left : Queue) → stored ≤ count → mid ≡ q → HearWants message (Ok heard) mid left → IsQueued mid left heard.queued
      → TakesRoots roots count (record { stored = stored; queued = heard.queued }) q left
  takes_roots count stored heard q mid left few same wants queued = record {
    some = wants.0;
    are_some = subst (λ (cids : List Cid). AreSome cids wants.0) (names wants.1.cids wants.1.named) wants.1.are_some;
    heard = wants.2 ∙ ap (λ (r : Queue). hear_all [] r wants.0) same;
    queued = subst (λ (r : Queue). IsQueued r left heard.queued) same queued;
    few = few;
  }
