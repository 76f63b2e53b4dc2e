-- Jobs that begin ahead, one right after another.
use Rattle.std.proofs.Common.{zero, suc, ◌≡◌, ◌+◌, arith, All, Bool, false, List, [], ◌∷◌, ◌++◌, Option, Some, None, Result, Ok, ℕ, refl}
use Rattle.mc_fetch.specs.declared.job.Job.{Job}
use Rattle.mc_turn.specs.declared.view.View.{View}
use Rattle.std.proofs.lemmas.List.Elements.{All-push}
use Rattle.mc_base.specs.declared.cid.Cid.{Cid}
use Rattle.mc_fetch.specs.Fits.{JobFits, Map, NextFits}
use Rattle.mc_worker.specs.declared.ends.ShopError.{ShopError}
use Rattle.mc_node.specs.Ahead.{BeginsAll, BeginsJobs, BeginsMore, Looks, last_fails}
use Rattle.mc_node.specs.Views.{Turned}
use Rattle.mc_node.specs.Items.{Item, Shown}
use Rattle.mc_node.specs.Pieces.{NextsAt}
use Rattle.mc_node.specs.Serves.{NextAt}
use Rattle.std.proofs.Common.{subst, sym}

-- one more began
begins_on_with : (limit : ℕ) (jobs : List Job) (job : Job) (old : List Item) (before : Shown) (mid : List Item) (there : Shown) (new : List Item) (after : Shown) → BeginsAll limit jobs old before mid there → NextAt limit (Ok (Some job)) mid there new after → BeginsAll limit (jobs ++ job ∷ []) old before new after
begins_on_with limit [] job old before mid there new after (log, now) next =
    (new, after, subst (λ (l : List Item). NextAt limit (Ok (Some job)) l before new after) log (subst (λ (s : Shown). NextAt limit (Ok (Some job)) mid s new after) now next), (refl, refl))
begins_on_with limit (x ∷ jobs) job old before mid there new after (log, now, begins, rest) next =
    (log, now, begins, begins_on_with limit jobs job log now mid there new after rest next)

pub begins_push : (limit : ℕ) (jobs : List Job) (job : Job) (more : List Job) (old : List Item) (before : Shown) (mid : List Item) (there : Shown) (new : List Item) (after : Shown) → more ≡ jobs ++ job ∷ [] → BeginsAll limit jobs old before mid there → NextAt limit (Ok (Some job)) mid there new after → BeginsAll limit more old before new after
begins_push limit jobs job more old before mid there new after is begins next = subst (λ (l : List Job). BeginsAll limit l old before new after) (sym is) (begins_on_with limit jobs job old before mid there new after begins next)

-- nothing more was asked for; or one more was, and none began
pub begins_end : (limit : ℕ) (ahead : List Job) (old : List Item) (before : Shown) (new : List Item) (after : Shown) → BeginsAll limit ahead old before new after → BeginsMore limit false ahead old before new after
begins_end limit ahead old before new after begins = record { mid = new; there = after; last = None; begins = begins; ends = (refl, refl); says = refl }

pub begins_last : (limit : ℕ) (failed : Bool) (answer : Result (Option Job) ShopError) (ahead : List Job) (old : List Item) (before : Shown) (mid : List Item) (there : Shown) (new : List Item) (after : Shown) → failed ≡ last_fails (Some answer) → BeginsAll limit ahead old before mid there → NextAt limit answer mid there new after → BeginsMore limit failed ahead old before new after
begins_last limit failed answer ahead old before mid there new after says begins next = record { mid = mid; there = there; last = Some answer; begins = begins; ends = next; says = says }

-- what is fit stays so with one more
pub fits_push : (found : Option Map) (kept : List Cid) (ahead : List Job) (job : Job) (more : List Job) → more ≡ ahead ++ job ∷ [] → All (JobFits found kept) ahead → JobFits found kept job → All (JobFits found kept) more
fits_push found kept ahead job more is all fit = subst (All (JobFits found kept)) (sym is) (All-push (JobFits found kept) ahead job all fit)

pub job_fits : (found : Option Map) (kept : List Cid) (answer : Option Job) (job : Job) → answer ≡ Some job → NextFits found kept answer → JobFits found kept job
job_fits found kept answer job is fits = subst (NextFits found kept) is fits

-- an answer that is known by its form
pub nexts_as : (limit : ℕ) (job named : Option Job) (old : List Item) (before : Shown) (new : List Item) (after : Shown) → job ≡ named → NextsAt limit (Ok job) old before new after → NextsAt limit (Ok named) old before new after
nexts_as limit job named old before new after is next = subst (λ (j : Option Job). NextsAt limit (Ok j) old before new after) is next

-- one more look
pub looks_push : {E : Type 0} (read : List E → List Item) (limit count : ℕ) (before mid after : View E) → Looks read limit count before mid → Turned mid after (λ old new. BeginsJobs limit (Ok None) [] (read old) (read new)) → Looks read limit (suc count) before after
looks_push {E} read limit zero before mid after same turned = (after, subst (λ (v : View E). Turned v after (λ old new. BeginsJobs limit (Ok None) [] (read old) (read new))) same turned, refl)
looks_push read limit (suc count) before mid after (there, turned, looks) last = (there, turned, looks_push read limit count there mid after looks last)

pub looks_next : {E : Type 0} (read : List E → List Item) (limit count : ℕ) (before mid after : View E) (result : Result (Option Job) ShopError) (ahead : List Job) → result ≡ Ok None → ahead ≡ [] → Looks read limit count before mid → Turned mid after (λ old new. BeginsJobs limit result ahead (read old) (read new)) → Looks read limit (count + 1) before after
looks_next {E} read limit count before mid after result ahead none empty looks turned =
    let next : suc count ≡ count + 1 = omega arith in
    let as_none : Turned mid after (λ old new. BeginsJobs limit (Ok None) ahead (read old) (read new)) = subst (λ (r : Result (Option Job) ShopError). Turned mid after (λ old new. BeginsJobs limit r ahead (read old) (read new))) none turned in
    let as_empty : Turned mid after (λ old new. BeginsJobs limit (Ok None) [] (read old) (read new)) = subst (λ (a : List Job). Turned mid after (λ old new. BeginsJobs limit (Ok None) a (read old) (read new))) empty as_none in
    subst (λ (n : ℕ). Looks read limit n before after) next (looks_push read limit count before mid after looks as_empty)
