-- The commit that processes a group is one event.
use Rattle.std.proofs.Common.{◌≡◌, ◌≢◌, ℕ, Bool, true, false, List, [], ◌∷◌, length, Option, Some, None, refl, sym, ◌∙◌, ap, subst}
use Rattle.std.specs.Prelude.{IfSome}
use Rattle.mc_base.specs.Told.{Told}
use Rattle.mc_base.specs.declared.cid.Cid.{Cid}
use Rattle.mc_model.specs.Events.{Process, processed_queue}
use Rattle.mc_model.specs.Kept.{Kept, IsKept, processed}
use Rattle.mc_model.specs.State.{Running, durable_of}
use Rattle.mc_model.specs.Wanted.{Queue, without}
use Rattle.mc_keep.specs.declared.changes.Changes.{Changes}
use Rattle.mc_keep.specs.declared.fuse.Fuse.{Fuse}
use Rattle.mc_keep.specs.Causes.{burnt, fires, CommitFails}
use Rattle.mc_keep.specs.Changes.{changed}
use Rattle.mc_plan.specs.Counted.{is_count, run_of}
use Rattle.mc_plan.specs.declared.counting.Numbers.{Numbers}
use Rattle.mc_plan.proofs.CountFacts.{gaps_planned}
use Rattle.mc_model.specs.Front.{gaps}
use Rattle.mc_plan.specs.Events.{Goes, Breaks, state_of}
use Rattle.mc_plan.specs.Uptakes.{IsReady, wants}
use Rattle.mc_plan.proofs.CommitFacts.{ProcessLaw, process_breaks, process_goes, ready_fits, ready_mark}
use Rattle.mc_group.specs.Planning.{AreReady}

-- a group is ready as one block is, of any name

some_ready : (told : Option Kept) (whole : Bool) (changes : Changes) (links : List Cid) (count : ℕ) (c : Cid) → IfSome told (λ kept. AreReady kept whole changes links count)
    → IfSome told (λ kept. IsReady kept whole changes (record { cid = c; links = links; gaps = count }))
some_ready None whole changes links count c r = tt
some_ready (Some kept) whole changes links count c r = r c

queue_then : (told : Option Kept) (whole : Bool) (changes : Changes) (cids links : List Cid) (count : ℕ) (c : Cid) (q r : Queue) → changes.marks ≡ cids → r ≡ wants (without q cids) links
    → IfSome told (λ kept. AreReady kept whole changes links count) → IfSome told (λ kept. r ≡ processed_queue (durable_of kept) q changes.marks)
queue_then None whole changes cids links count c q r marks is ready = tt
queue_then (Some kept) whole changes cids links count c q r marks is ready = is ∙ ap (λ cids. wants (without q cids) links) (sym marks) ∙ sym ((ready c).wanted q)

module _ (law : ProcessLaw) (old new : Option Kept) (fuse fuse_new : Option Fuse) (stopped : Bool) (run : Running) (changes : Changes) (cids links : List Cid) (count : ℕ) (up : stopped ≡ false) (is_burnt : fuse_new ≡ burnt fuse) (sound : IfSome old IsKept)
    (ready : IfSome old (λ kept. AreReady kept run.whole changes links count)) (store : changes.store ≡ []) (marks : changes.marks ≡ cids) (some : cids ≢ []) where
  some_marks : changes.marks ≢ []
  some_marks none = some (sym marks ∙ none)

  done_at : (c : Cid) (queue : Queue) → fires fuse ≡ None → queue ≡ wants (without run.queue cids) links → Told old new (λ kept now. now ≡ changed kept changes)
      → Told (state_of old fuse (run_of stopped run)) (state_of new fuse_new (run_of stopped (record run { queue = queue }))) (λ s now. Goes (Process changes.marks ∷ []) s now)
  done_at c queue lasts is told =
      subst (λ b. Told (state_of old fuse (run_of b run)) (state_of new fuse_new (run_of b (record run { queue = queue }))) (λ s now. Goes (Process changes.marks ∷ []) s now)) (sym up)
      (process_goes law old new fuse fuse_new run queue changes lasts is_burnt sound (ready_fits old run.whole changes _ (some_ready old run.whole changes links count c ready)) store some_marks (ready_mark old run.whole changes _ (some_ready old run.whole changes links count c ready))
      (queue_then old run.whole changes cids links count c run.queue queue marks is ready) told)

  failed_at : (c : Cid) (rose : Type 0) → Told old new (λ kept now. CommitFails (fires fuse) rose kept (changed kept changes) now)
      → Told (state_of old fuse (run_of stopped run)) (state_of new fuse_new None) (λ s now. Breaks (Process changes.marks ∷ []) rose s now)
  failed_at c rose told =
      subst (λ b. Told (state_of old fuse (run_of b run)) (state_of new fuse_new None) (λ s now. Breaks (Process changes.marks ∷ []) rose s now)) (sym up)
      (process_breaks law old new fuse fuse_new run changes rose is_burnt sound (ready_fits old run.whole changes _ (some_ready old run.whole changes links count c ready)) store some_marks (ready_mark old run.whole changes _ (some_ready old run.whole changes links count c ready)) told)

  -- any block of the group names it
  pub group_done : (queue : Queue) → fires fuse ≡ None → queue ≡ wants (without run.queue cids) links → Told old new (λ kept now. now ≡ changed kept changes)
      → Told (state_of old fuse (run_of stopped run)) (state_of new fuse_new (run_of stopped (record run { queue = queue }))) (λ s now. Goes (Process changes.marks ∷ []) s now)
  group_done = by_first cids some
    where
      by_first : (cs : List Cid) → cs ≢ [] → (queue : Queue) → fires fuse ≡ None → queue ≡ wants (without run.queue cids) links → Told old new (λ kept now. now ≡ changed kept changes)
          → Told (state_of old fuse (run_of stopped run)) (state_of new fuse_new (run_of stopped (record run { queue = queue }))) (λ s now. Goes (Process changes.marks ∷ []) s now)
      by_first [] none = absurd (none refl)
      by_first (c ∷ cs) some = done_at c

  pub group_failed : (rose : Type 0) → Told old new (λ kept now. CommitFails (fires fuse) rose kept (changed kept changes) now)
      → Told (state_of old fuse (run_of stopped run)) (state_of new fuse_new None) (λ s now. Breaks (Process changes.marks ∷ []) rose s now)
  group_failed = by_first cids some
    where
      by_first : (cs : List Cid) → cs ≢ [] → (rose : Type 0) → Told old new (λ kept now. CommitFails (fires fuse) rose kept (changed kept changes) now)
          → Told (state_of old fuse (run_of stopped run)) (state_of new fuse_new None) (λ s now. Breaks (Process changes.marks ∷ []) rose s now)
      by_first [] none = absurd (none refl)
      by_first (c ∷ cs) some = failed_at c

-- the gaps that are left then
pub group_counts : (told : Option Kept) (whole : Bool) (changes : Changes) (numbers : Numbers) (cids links : List Cid) (count : ℕ) → cids ≢ [] → IfSome told (λ kept. AreReady kept whole changes links count)
    → IfSome told (λ kept. is_count kept numbers ≡ true → count ≡ length (gaps (processed (changed kept changes))))
group_counts told whole changes numbers [] links count some ready = absurd (some refl)
group_counts told whole changes numbers (c ∷ cids) links count some ready = gaps_planned told changes numbers count (some_ready told whole changes links count c ready) (λ kept r. r.gaps_left)
