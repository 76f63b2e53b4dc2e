-- One commit of the keeper as an event of the replica.
use Rattle.std.proofs.Common.{◌≡◌, ◌≢◌, Bool, true, false, List, [], ◌∷◌, ◌++◌, Option, Some, None, refl, sym, ◌∙◌, ap, subst, inl, inr}
use Rattle.std.specs.Prelude.{unwrap_or, IfSome}
use Rattle.mc_base.specs.Told.{Told}
use Rattle.mc_base.specs.declared.cid.Cid.{Cid}
use Rattle.mc_model.specs.Events.{Event, Store, Process, MayRun, runs, processed_mark, processed_queue}
use Rattle.mc_model.specs.Kept.{Kept, IsKept}
use Rattle.mc_model.specs.State.{Running, durable_of, vertices}
use Rattle.mc_keep.specs.declared.changes.Changes.{Changes}
use Rattle.mc_keep.specs.declared.fuse.Fuse.{Fuse}
use Rattle.mc_keep.specs.Causes.{burnt, fires, CommitFails}
use Rattle.mc_keep.specs.Changes.{changed}
use Rattle.mc_keep.specs.Tables.{StoreFits, MarksFit, ChangesFit}
use Rattle.mc_model.specs.Wanted.{Queue, without}
use Rattle.mc_plan.specs.declared.uptakes.After.{After}
use Rattle.mc_plan.specs.Events.{ReplicaState, state_of, Goes, CommitBreaks, Breaks}
use Rattle.mc_plan.specs.Uptakes.{IsReady, wants}
use Rattle.mc_plan.specs.Counted.{run_of}

-- a commit that only stores is this event
abbrev pub StoreLaw : Type 0
StoreLaw = (kept : Kept) (changes : Changes) (run : Running) → IsKept kept → StoreFits kept changes → changes.marks ≡ [] → changes.mark ≡ None
    → MayRun (durable_of kept) run (Store (vertices changes.store))
    × ((runs (durable_of kept) run (Store (vertices changes.store))).durable ≡ durable_of (changed kept changes))

-- one that only processes is this
abbrev pub ProcessLaw : Type 0
ProcessLaw = (kept : Kept) (changes : Changes) (run : Running) → IsKept kept → MarksFit kept changes → changes.store ≡ [] → changes.marks ≢ []
    → unwrap_or changes.mark kept.mark ≡ processed_mark run.whole (durable_of kept) (kept.order ++ changes.marks)
    → MayRun (durable_of kept) run (Process changes.marks)
    × ((runs (durable_of kept) run (Process changes.marks)).durable ≡ durable_of (changed kept changes))

abbrev at : Kept → Option Fuse → Running → ReplicaState
at kept fuse run = record { state = record { durable = durable_of kept; run = Some run }; fuse = fuse }

pub fails_as : {X Y : Type 0} (f : X → Y) (fire : Option Bool) (rose : Type 0) (old whole new : X) → CommitFails fire rose old whole new → CommitFails fire rose (f old) (f whole) (f new)
fails_as f None rose old whole new (r, inl e) = (r, inl (ap f e))
fails_as f None rose old whole new (r, inr e) = (r, inr (ap f e))
fails_as f (Some false) rose old whole new e = ap f e
fails_as f (Some true) rose old whole new (inl e) = inl (ap f e)
fails_as f (Some true) rose old whole new (inr (r, e)) = inr (r, ap f e)

-- one event breaks
pub breaks_at : (event : Event) (rose : Type 0) (s new : ReplicaState) → CommitBreaks event rose s new → Breaks (event ∷ []) rose s new
breaks_at event rose s new b = record { so_far = []; rest = event ∷ []; split = refl; may = tt; fate = inr b }

pub store_goes : (law : StoreLaw) (old new : Option Kept) (fuse fuse_new : Option Fuse) (run : Running) (changes : Changes)
    → fires fuse ≡ None → fuse_new ≡ burnt fuse → IfSome old IsKept → IfSome old (λ kept. ChangesFit kept changes) → changes.marks ≡ [] → changes.mark ≡ None
    → Told old new (λ kept after. after ≡ changed kept changes)
    → Told (state_of old fuse (Some run)) (state_of new fuse_new (Some run)) (λ s after. Goes (Store (vertices changes.store) ∷ []) s after)
store_goes law None new fuse fuse_new run changes lasts is_burnt sound fits marks mark told = tt
store_goes law (Some kept) None fuse fuse_new run changes lasts is_burnt sound fits marks mark told = absurd told
store_goes law (Some kept) (Some after) fuse fuse_new run changes lasts is_burnt sound fits marks mark told =
    let is = law kept changes run sound fits.store marks mark in
    record {
      may = (is.0, lasts, tt);
      ends = λ i. record { state = record { durable = (ap durable_of told ∙ sym is.1) i; run = Some run }; fuse = is_burnt i };
    }

pub store_breaks : (law : StoreLaw) (old new : Option Kept) (fuse fuse_new : Option Fuse) (run : Running) (changes : Changes) (rose : Type 0)
    → fuse_new ≡ burnt fuse → IfSome old IsKept → IfSome old (λ kept. ChangesFit kept changes) → changes.marks ≡ [] → changes.mark ≡ None
    → Told old new (λ kept after. CommitFails (fires fuse) rose kept (changed kept changes) after)
    → Told (state_of old fuse (Some run)) (state_of new fuse_new None) (λ s after. Breaks (Store (vertices changes.store) ∷ []) rose s after)
store_breaks law None new fuse fuse_new run changes rose is_burnt sound fits marks mark told = tt
store_breaks law (Some kept) None fuse fuse_new run changes rose is_burnt sound fits marks mark told = absurd told
store_breaks law (Some kept) (Some after) fuse fuse_new run changes rose is_burnt sound fits marks mark told =
    let is = law kept changes run sound fits.store marks mark in
    breaks_at _ rose _ _ (record {
      commit = refl;
      may = is.0;
      left = durable_of after;
      fails = subst (λ whole. CommitFails (fires fuse) rose (durable_of kept) whole (durable_of after)) (sym is.1) (fails_as durable_of (fires fuse) rose kept (changed kept changes) after told);
      ends = λ i. record { state = record { durable = durable_of after; run = None }; fuse = is_burnt i };
    })

pub process_goes : (law : ProcessLaw) (old new : Option Kept) (fuse fuse_new : Option Fuse) (run : Running) (queue : Queue) (changes : Changes)
    → fires fuse ≡ None → fuse_new ≡ burnt fuse → IfSome old IsKept → IfSome old (λ kept. ChangesFit kept changes) → changes.store ≡ [] → changes.marks ≢ []
    → IfSome old (λ kept. unwrap_or changes.mark kept.mark ≡ processed_mark run.whole (durable_of kept) (kept.order ++ changes.marks))
    → IfSome old (λ kept. queue ≡ processed_queue (durable_of kept) run.queue changes.marks)
    → Told old new (λ kept after. after ≡ changed kept changes)
    → Told (state_of old fuse (Some run)) (state_of new fuse_new (Some (record run { queue = queue }))) (λ s after. Goes (Process changes.marks ∷ []) s after)
process_goes law None new fuse fuse_new run queue changes lasts is_burnt sound fits store marks mark links told = tt
process_goes law (Some kept) None fuse fuse_new run queue changes lasts is_burnt sound fits store marks mark links told = absurd told
process_goes law (Some kept) (Some after) fuse fuse_new run queue changes lasts is_burnt sound fits store marks mark links told =
    let is = law kept changes run sound fits.marks store marks mark in
    record {
      may = (is.0, lasts, tt);
      ends = λ i. record { state = record { durable = (ap durable_of told ∙ sym is.1) i; run = Some (record run { queue = links i }) }; fuse = is_burnt i };
    }

pub process_breaks : (law : ProcessLaw) (old new : Option Kept) (fuse fuse_new : Option Fuse) (run : Running) (changes : Changes) (rose : Type 0)
    → fuse_new ≡ burnt fuse → IfSome old IsKept → IfSome old (λ kept. ChangesFit kept changes) → changes.store ≡ [] → changes.marks ≢ []
    → IfSome old (λ kept. unwrap_or changes.mark kept.mark ≡ processed_mark run.whole (durable_of kept) (kept.order ++ changes.marks))
    → Told old new (λ kept after. CommitFails (fires fuse) rose kept (changed kept changes) after)
    → Told (state_of old fuse (Some run)) (state_of new fuse_new None) (λ s after. Breaks (Process changes.marks ∷ []) rose s after)
process_breaks law None new fuse fuse_new run changes rose is_burnt sound fits store marks mark told = tt
process_breaks law (Some kept) None fuse fuse_new run changes rose is_burnt sound fits store marks mark told = absurd told
process_breaks law (Some kept) (Some after) fuse fuse_new run changes rose is_burnt sound fits store marks mark told =
    let is = law kept changes run sound fits.marks store marks mark in
    breaks_at _ rose _ _ (record {
      commit = refl;
      may = is.0;
      left = durable_of after;
      fails = subst (λ whole. CommitFails (fires fuse) rose (durable_of kept) whole (durable_of after)) (sym is.1) (fails_as durable_of (fires fuse) rose kept (changed kept changes) after told);
      ends = λ i. record { state = record { durable = durable_of after; run = None }; fuse = is_burnt i };
    })

-- what is ready, where it is told

pub ready_fits : (told : Option Kept) (whole : Bool) (changes : Changes) (after : After) → IfSome told (λ kept. IsReady kept whole changes after) → IfSome told (λ kept. ChangesFit kept changes)
ready_fits None whole changes after p = tt
ready_fits (Some kept) whole changes after p = p.fits

pub ready_mark : (told : Option Kept) (whole : Bool) (changes : Changes) (after : After) → IfSome told (λ kept. IsReady kept whole changes after)
    → IfSome told (λ kept. unwrap_or changes.mark kept.mark ≡ processed_mark whole (durable_of kept) (kept.order ++ changes.marks))
ready_mark None whole changes after p = tt
ready_mark (Some kept) whole changes after p = p.mark

-- the same of a replica that has not stopped

pub store_done : (law : StoreLaw) (old new : Option Kept) (fuse fuse_new : Option Fuse) (stopped : Bool) (run : Running) (changes : Changes)
    → stopped ≡ false → fires fuse ≡ None → fuse_new ≡ burnt fuse → IfSome old IsKept → IfSome old (λ kept. ChangesFit kept changes) → changes.marks ≡ [] → changes.mark ≡ None
    → Told old new (λ kept after. after ≡ changed kept changes)
    → Told (state_of old fuse (run_of stopped run)) (state_of new fuse_new (run_of stopped run)) (λ s after. Goes (Store (vertices changes.store) ∷ []) s after)
store_done law old new fuse fuse_new stopped run changes up lasts is_burnt sound fits marks mark told =
    subst (λ b. Told (state_of old fuse (run_of b run)) (state_of new fuse_new (run_of b run)) (λ s after. Goes (Store (vertices changes.store) ∷ []) s after)) (sym up)
    (store_goes law old new fuse fuse_new run changes lasts is_burnt sound fits marks mark told)

pub store_failed : (law : StoreLaw) (old new : Option Kept) (fuse fuse_new : Option Fuse) (stopped : Bool) (run : Running) (changes : Changes) (rose : Type 0)
    → stopped ≡ false → fuse_new ≡ burnt fuse → IfSome old IsKept → IfSome old (λ kept. ChangesFit kept changes) → changes.marks ≡ [] → changes.mark ≡ None
    → Told old new (λ kept after. CommitFails (fires fuse) rose kept (changed kept changes) after)
    → Told (state_of old fuse (run_of stopped run)) (state_of new fuse_new None) (λ s after. Breaks (Store (vertices changes.store) ∷ []) rose s after)
store_failed law old new fuse fuse_new stopped run changes rose up is_burnt sound fits marks mark told =
    subst (λ b. Told (state_of old fuse (run_of b run)) (state_of new fuse_new None) (λ s after. Breaks (Store (vertices changes.store) ∷ []) rose s after)) (sym up)
    (store_breaks law old new fuse fuse_new run changes rose is_burnt sound fits marks mark told)

-- one block has a mark
abbrev is_nil : List Cid → Bool
is_nil [] = true
is_nil (c ∷ cids) = false

some_marks : (marks : List Cid) (cid : Cid) → marks ≡ cid ∷ [] → marks ≢ []
some_marks marks cid e none = absurd (let f : false ≡ true = ap is_nil (sym e ∙ none) in cc)

-- the wanted set once it is processed
queue_then : (told : Option Kept) (whole : Bool) (changes : Changes) (after : After) (q r : Queue) → changes.marks ≡ after.cid ∷ [] → r ≡ wants (without q (after.cid ∷ [])) after.links
    → IfSome told (λ kept. IsReady kept whole changes after) → IfSome told (λ kept. r ≡ processed_queue (durable_of kept) q changes.marks)
queue_then None whole changes after q r marks is ready = tt
queue_then (Some kept) whole changes after q r marks is ready = is ∙ ap (λ cids. wants (without q cids) after.links) (sym marks) ∙ sym (ready.wanted q)

pub process_done : (law : ProcessLaw) (old new : Option Kept) (fuse fuse_new : Option Fuse) (stopped : Bool) (run : Running) (queue : Queue) (changes : Changes) (after : After)
    → stopped ≡ false → fires fuse ≡ None → fuse_new ≡ burnt fuse → IfSome old IsKept → IfSome old (λ kept. IsReady kept run.whole changes after) → changes.store ≡ [] → changes.marks ≡ after.cid ∷ []
    → queue ≡ wants (without run.queue (after.cid ∷ [])) after.links
    → Told old new (λ kept now. now ≡ changed kept changes)
    → Told (state_of old fuse (run_of stopped run)) (state_of new fuse_new (run_of stopped (record run { queue = queue }))) (λ s now. Goes (Process changes.marks ∷ []) s now)
process_done law old new fuse fuse_new stopped run queue changes after up lasts is_burnt sound ready store marks is told =
    subst (λ b. Told (state_of old fuse (run_of b run)) (state_of new fuse_new (run_of b (record run { queue = queue }))) (λ s now. Goes (Process changes.marks ∷ []) s now)) (sym up)
    (process_goes law old new fuse fuse_new run queue changes lasts is_burnt sound (ready_fits old run.whole changes after ready) store (some_marks changes.marks after.cid marks) (ready_mark old run.whole changes after ready)
    (queue_then old run.whole changes after run.queue queue marks is ready) told)

pub process_failed : (law : ProcessLaw) (old new : Option Kept) (fuse fuse_new : Option Fuse) (stopped : Bool) (run : Running) (changes : Changes) (after : After) (rose : Type 0)
    → stopped ≡ false → fuse_new ≡ burnt fuse → IfSome old IsKept → IfSome old (λ kept. IsReady kept run.whole changes after) → changes.store ≡ [] → changes.marks ≡ after.cid ∷ []
    → Told old new (λ kept now. CommitFails (fires fuse) rose kept (changed kept changes) now)
    → Told (state_of old fuse (run_of stopped run)) (state_of new fuse_new None) (λ s now. Breaks (Process changes.marks ∷ []) rose s now)
process_failed law old new fuse fuse_new stopped run changes after rose up is_burnt sound ready store marks told =
    subst (λ b. Told (state_of old fuse (run_of b run)) (state_of new fuse_new None) (λ s now. Breaks (Process changes.marks ∷ []) rose s now)) (sym up)
    (process_breaks law old new fuse fuse_new run changes rose is_burnt sound (ready_fits old run.whole changes after ready) store (some_marks changes.marks after.cid marks) (ready_mark old run.whole changes after ready) told)
