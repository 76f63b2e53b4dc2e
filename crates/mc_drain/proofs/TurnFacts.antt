-- Parts of a turn, one after another, where the keeper tells.
use Rattle.std.proofs.Common.{◌≡◌, ◌≤◌, ◌<◌, ◌+◌, ◌^◌, ◌||◌, ℕ, Bool, true, false, List, Option, Some, None, Result, Ok, Err, refl, sym, ap, ◌∙◌, subst, arith}
use Rattle.std.specs.Prelude.{⊤, IfSome, is_some}
use Rattle.std.proofs.lemmas.Bool.{false≢true}
use Rattle.mc_base.specs.Told.{Told}
use Rattle.mc_base.specs.declared.cid.Cid.{Cid}
use Rattle.mc_fetch.specs.Fits.{FetchFits, Map}
use Rattle.mc_fetch.specs.Offers.{HasDigest}
use Rattle.mc_fetch.specs.declared.error.FetchError.{FetchError}
use Rattle.mc_fetch.specs.declared.error.FetchError.TheVariants as fetch
use Rattle.mc_fetch.specs.declared.job.Delivered.{Delivered}
use Rattle.mc_fetch.specs.declared.job.Delivered.TheVariants.{Processed, Missing, Bad, Known}
use Rattle.mc_fetch.specs.declared.job.Found.{Found}
use Rattle.mc_fetch.specs.declared.job.Found.TheVariants.{Bytes, Missing as NotFound}
use Rattle.mc_fetch.specs.declared.job.Job.{Job}
use Rattle.mc_keep.specs.declared.fuse.Fuse.{Fuse}
use Rattle.mc_model.specs.declared.block.Block.{Block}
use Rattle.mc_model.specs.Draining.{HasDrained, bytes_in, delivery, queue_in}
use Rattle.mc_model.specs.Events.{Event}
use Rattle.mc_model.specs.Graph.{has}
use Rattle.mc_model.specs.Offer.{offer}
use Rattle.mc_model.specs.Wanted.{Queue}
use Rattle.mc_model.specs.Kept.{Kept}
use Rattle.mc_model.specs.State.{Durable, IsSound, Running, durable_of}
use Rattle.mc_worker.specs.Lookups.{LooksUp, bytes_of}
use Rattle.mc_core.specs.declared.CoreError.{CoreError}
use Rattle.mc_core.specs.declared.report.Report.{Report}
use Rattle.mc_core.specs.Calls.{Call}
use Rattle.mc_core.specs.Counted.{capped, run_of}
use Rattle.mc_core.specs.Events.{ReplicaState, state_of}
use Rattle.mc_core.specs.Jobs.{DeliverEvents, DeliverShort, DeliversIn, NextEvents, NextShort, WantsAfter, found_in}
use Rattle.mc_core.specs.Reads.{read_refusal}
use Rattle.mc_core.specs.Refusals.{Is, is_fault}
use Rattle.mc_core.specs.Reports.{IsReport}
use Rattle.mc_core.proofs.GrowthFacts.{GrowLaw}
use Rattle.mc_drain.specs.Leads.{Always, Leads, LeadsBy, all_processes, count, up_to}
use Rattle.mc_drain.specs.declared.end.DrainEnd.{DrainEnd}
use Rattle.mc_drain.specs.Words.{Fetched, FetchedFor, FoundFor, TakenFor, IsNoBlock, end_by, is_keeper, keeper_failed}
use Rattle.mc_drain.proofs.EventFacts.{GoesLaw, StayLaw, stays_leads}
use Rattle.mc_drain.proofs.CallFacts.{SaysLaw, TakesLaw, bytes_same, deliver_by, found_for, leads_alike, leads_then, leads_weaker, next_leads, own_fits, told_with}

-- a replica that has not stopped runs
pub runs_where : (told : Option Kept) (fuse : Option Fuse) (stop : Bool) (run : Running) → stop ≡ false → IfSome (state_of told fuse (run_of stop run)) (λ s. is_some s.state.run ≡ true)
runs_where None fuse stop run up = tt
runs_where (Some kept) fuse stop run up = ap (λ b. is_some (run_of b run)) up

-- what holds of what is told holds of the state
pub at_state : (P : Kept → Type 0) (Q : ReplicaState → Type 0) (told : Option Kept) (fuse : Option Fuse) (run : Option Running) → ((kept : Kept) → P kept → Q (record { state = record { durable = durable_of kept; run = run }; fuse = fuse })) → IfSome told P
    → IfSome (state_of told fuse run) Q
at_state P Q None fuse run each p = tt
at_state P Q (Some kept) fuse run each p = each kept p

-- the number of processed blocks in a report
pub report_count : (told : Option Kept) (fuse : Option Fuse) (run : Option Running) (whole : Bool) (report : Report) → IfSome told (λ kept. IsReport kept whole report) → IfSome (state_of told fuse run) (λ s. report.processed ≡ capped (count s))
report_count told fuse run whole report is = at_state (λ kept. IsReport kept whole report) (λ s. report.processed ≡ capped (count s)) told fuse run (λ kept r. r.processed) is

abbrev Bound : Type 0
Bound = ReplicaState → ℕ

-- for less, with more allowed
pub weaker_told : (failed : Bool) (low high : Bound) (P Q : Map → List Cid → Type 0) (a b : Option ReplicaState) → ((s : ReplicaState) → low s ≤ high s) → ((known : Map) (kept : List Cid) → Q known kept → P known kept)
    → Told a b (λ s new. Leads failed (low s) P s new) → Told a b (λ s new. Leads failed (high s) Q s new)
weaker_told failed low high P Q None b more weaker t = tt
weaker_told failed low high P Q (Some s) None more weaker t = absurd t
weaker_told failed low high P Q (Some s) (Some new) more weaker t = leads_weaker failed (low s) (high s) P Q s new t (more s) weaker

-- after a part that processes nothing
pub then_told : (failed : Bool) (bound : Bound) (Q R : Map → List Cid → Type 0) (Facts : ReplicaState → Type 0) (a m b : Option ReplicaState) → ((s mid : ReplicaState) → count mid ≤ count s → bound mid ≤ bound s)
    → ((s : ReplicaState) → Facts s → (known : Map) (kept : List Cid) (old : Durable) (start : List Cid) → R known kept → HasDrained known kept old start s.state → Q known kept)
    → Told a m (λ s mid. Leads false (count s) Always s mid) → Told m b (λ mid new. Leads failed (bound mid) Q mid new) → IfSome a Facts → Told a b (λ s new. Leads failed (bound s) R s new)
then_told failed bound Q R Facts None m b mono join p q k = tt
then_told failed bound Q R Facts (Some s) None b mono join p q k = absurd p
then_told failed bound Q R Facts (Some s) (Some mid) None mono join p q k = absurd q
then_told failed bound Q R Facts (Some s) (Some mid) (Some new) mono join p q k =
    leads_weaker failed (bound mid) (bound s) R R s new (leads_then failed (count s) (bound mid) Always Q R s mid new p q (λ known kept old start r h. (tt, join s k known kept old start r h))) (mono s mid p.few) (λ known kept r. r)

some_nothing : (a : Option ReplicaState) → IfSome a (λ s. ⊤)
some_nothing None = tt
some_nothing (Some s) = tt

-- the same where nothing has to be known
pub quiet_told : (failed : Bool) (P : Map → List Cid → Type 0) (a m b : Option ReplicaState) → Told a m (λ s mid. Leads false (count s) Always s mid) → Told m b (λ mid new. Leads failed (count mid) P mid new) → Told a b (λ s new. Leads failed (count s) P s new)
quiet_told failed P a m b p q = then_told failed count P P (λ s. ⊤) a m b (λ s mid e. e) (λ s k known kept old start r h. r) p q (some_nothing a)

-- the job that began, and then what it came to
pub turn_told : (failed : Bool) (bound : Bound) (offers : Option Map) (cid : Cid) (own : Option (List ℕ)) (a m b : Option ReplicaState) → ((s mid : ReplicaState) → count mid ≤ count s → bound mid ≤ bound s) → IfSome own (HasDigest cid)
    → Told a m (λ s mid. Leads false (count s) Always s mid) → Told m b (λ mid new. Leads failed (bound mid) (FetchedFor offers cid own) mid new) → IfSome a (λ s. own ≡ bytes_in s.state.durable.graph cid)
    → Told a b (λ s new. Leads failed (bound s) (Fetched offers) s new)
turn_told failed bound offers cid own a m b mono digest p q is =
    then_told failed bound (FetchedFor offers cid own) (Fetched offers) (λ s. own ≡ bytes_in s.state.durable.graph cid) a m b mono
    (λ s is known kept old start f h. (f, own_fits known kept s.state.durable.graph cid own h.stored h.own is digest)) p q is

pub found_same : (found : Found) → bytes_of found ≡ found_in found
found_same (Bytes bytes) = refl
found_same NotFound = refl

-- what is found where the fetch and the job's own bytes fit
pub looked : (offers : Option Map) (cid cid_now : Cid) (own : Option (List ℕ)) (found : Found) → cid_now ≡ cid → LooksUp offers cid own found → (known : Map) (kept : List Cid) → FetchedFor offers cid own known kept → FoundFor cid_now (found_in found) known kept
looked offers cid cid_now own found same looks known kept fits = ap known same ∙ looks.is known kept fits.0 fits.1 ∙ found_same found

-- what was looked up for a job, and then what it came to
pub job_told : (failed : Bool) (low high : Bound) (offers : Option Map) (cid cid_now : Cid) (own : Option (List ℕ)) (found : Found) (a b : Option ReplicaState) → ((s : ReplicaState) → low s ≤ high s) → cid_now ≡ cid → LooksUp offers cid own found
    → Told a b (λ s new. Leads failed (low s) (FoundFor cid_now (found_in found)) s new) → Told a b (λ s new. Leads failed (high s) (FetchedFor offers cid own) s new)
job_told failed low high offers cid cid_now own found a b more same looks t =
    weaker_told failed low high (FoundFor cid_now (found_in found)) (FetchedFor offers cid own) a b more (looked offers cid cid_now own found same looks) t

-- the calls of a replica, where the keeper tells

pub next_told : (grow_law : GrowLaw) (goes_law : GoesLaw) (stay_law : StayLaw) (rose : Type 0) (result : Result (Option Job) CoreError) (failed : Bool) (a b : Option ReplicaState) → is_fault result ≡ failed → IfSome a (λ s. IsSound s.state) → IfSome a (λ s. is_some s.state.run ≡ true)
    → Told a b (λ s new. Call (Is (read_refusal s)) (NextEvents s) (NextShort s) rose result s new) → Told a b (λ s new. Leads failed (count s) Always s new)
next_told grow_law goes_law stay_law rose result failed None b flag sound up t = tt
next_told grow_law goes_law stay_law rose result failed (Some s) None flag sound up t = absurd t
next_told grow_law goes_law stay_law rose result failed (Some s) (Some new) flag sound up t = subst (λ (f : Bool). Leads f (count s) Always s new) flag (next_leads grow_law goes_law stay_law rose result s new up sound t)

pub deliver_told : (grow_law : GrowLaw) (goes_law : GoesLaw) (stay_law : StayLaw) (takes_law : TakesLaw) (says_law : SaysLaw) (cid : Cid) (found : Option (List ℕ)) (rose : Type 0) (result : Result Delivered CoreError) (failed : Bool) (a b : Option ReplicaState) → is_fault result ≡ failed
    → IfSome a (λ s. IsSound s.state) → Told a b (λ s new. Call (Is (read_refusal s)) (DeliverEvents s cid found) (DeliverShort s cid) rose result s new)
    → Told a b (λ s new. LeadsBy failed (count s + all_processes (delivery s.state.durable.graph cid found)) (TakenFor cid found) (FoundFor cid found) s new)
deliver_told grow_law goes_law stay_law takes_law says_law cid found rose result failed None b flag sound t = tt
deliver_told grow_law goes_law stay_law takes_law says_law cid found rose result failed (Some s) None flag sound t = absurd t
deliver_told grow_law goes_law stay_law takes_law says_law cid found rose result failed (Some s) (Some new) flag sound t =
    subst (λ (f : Bool). LeadsBy f (count s + all_processes (delivery s.state.durable.graph cid found)) (TakenFor cid found) (FoundFor cid found) s new) flag
    (deliver_by grow_law goes_law stay_law takes_law says_law cid found (all_processes (delivery s.state.durable.graph cid found)) rose result s new sound (omega arith) t)

-- the same where all is known that is found
pub alike_told : (failed : Bool) (bound : Bound) (cid : Cid) (found : Option (List ℕ)) (a b : Option ReplicaState) → Told a b (λ s new. LeadsBy failed (bound s) (TakenFor cid found) (FoundFor cid found) s new) → Told a b (λ s new. Leads failed (bound s) (FoundFor cid found) s new)
alike_told failed bound cid found None b t = tt
alike_told failed bound cid found (Some s) None t = absurd t
alike_told failed bound cid found (Some s) (Some new) t = leads_alike failed (bound s) (TakenFor cid found) (FoundFor cid found) s new t (λ known kept is. found_for known cid found is)

-- a call that takes no memory, where the keeper tells
pub plain_told : (P : ReplicaState → ReplicaState → Type 0) (a b : Option ReplicaState) → ((s new : ReplicaState) → P s new → IsSound s.state → Leads false (count s) Always s new) → IfSome a (λ s. IsSound s.state) → Told a b P → Told a b (λ s new. Leads false (count s) Always s new)
plain_told P a b each sound t = told_with P (λ s. IsSound s.state) (λ s new. Leads false (count s) Always s new) (λ s new p q. each s new p q) a b t sound

-- own bytes are the stored ones
pub own_told : (job : Option Job) (a b : Option ReplicaState) → Told a b (λ s new. Call (Is (read_refusal s)) (NextEvents s) (NextShort s) ⊤ (Ok job) s new) → IfSome a (λ s. IfSome job (λ (j : Job). j.own ≡ bytes_in s.state.durable.graph j.cid))
own_told job None b t = tt
own_told job (Some s) None t = absurd t
own_told None (Some s) (Some new) t = tt
own_told (Some job) (Some s) (Some new) t = t.makes.1 ∙ bytes_same s.state.durable.graph job.cid

no_block_found : (cid : Cid) (found : Option (List ℕ)) (bytes : List ℕ) (block : Block) → found ≡ Some bytes → offer cid bytes ≡ Ok block → IsNoBlock cid found → ⊥
no_block_found cid None bytes block is good none = cc is
no_block_found cid (Some other) bytes block is good none = let same : other ≡ bytes = cc is in let bad : offer cid bytes ≡ Err none.0 = subst (λ (x : List ℕ). offer cid x ≡ Err none.0) same none.1 in cc (good, bad)

-- bytes that are no block are not processed
not_processed : (inside : Bool) (durable : Durable) (cid : Cid) (found : Option (List ℕ)) (events : List Event) (position : ℕ) → DeliversIn inside durable cid found events (Processed position) → IsNoBlock cid found → ⊥
not_processed true durable cid found events position plan none = no_block_found cid found plan.1.0 plan.1.1 plan.1.2 plan.1.3 none
not_processed false durable cid found events position plan none = cc plan.0

pub stuck_told : (cid : Cid) (found : Option (List ℕ)) (delivered : Delivered) (q left : Queue) (a b : Option ReplicaState) → Told a b (λ s new. Call (Is (read_refusal s)) (DeliverEvents s cid found) (DeliverShort s cid) ⊤ (Ok delivered) s new) → WantsAfter delivered q left cid
    → IfSome a (λ s. IsNoBlock cid found → left.waiting ≡ q.waiting)
stuck_told cid found delivered q left None b t after = tt
stuck_told cid found delivered q left (Some s) None t after = absurd t
stuck_told cid found (Processed position) q left (Some s) (Some new) t after = λ none. absurd (not_processed (has cid (queue_in s.state.run).flight) s.state.durable cid found t.events position t.makes none)
stuck_told cid found Missing q left (Some s) (Some new) t after = λ none. ap (λ (x : Queue). x.waiting) after
stuck_told cid found (Bad damage) q left (Some s) (Some new) t after = λ none. ap (λ (x : Queue). x.waiting) after
stuck_told cid found Known q left (Some s) (Some new) t after = λ none. ap (λ (x : Queue). x.waiting) after

-- what was recalled afterwards
pub recalled_told : (bound : Bound) (P : Map → List Cid → Type 0) (a m b : Option ReplicaState) → Told a m (λ s mid. Leads false (bound s) P s mid) → Told m b (λ mid new. Leads false (count mid) Always mid new) → Told a b (λ s new. Leads false (bound s) P s new)
recalled_told bound P None m b p q = tt
recalled_told bound P (Some s) None b p q = absurd p
recalled_told bound P (Some s) (Some mid) None p q = absurd q
recalled_told bound P (Some s) (Some mid) (Some new) p q =
    leads_weaker false (count mid) (bound s) P P s new (leads_then false (bound s) (count mid) P Always P s mid new p q (λ known kept old start r h. (r, tt))) p.few (λ known kept r. r)

-- the same of a part that may have failed, and did not
pub recalled_end : (failed : Bool) (bound : Bound) (P : Map → List Cid → Type 0) (a m b : Option ReplicaState) → failed ≡ false → Told a m (λ s mid. Leads failed (bound s) P s mid) → Told m b (λ mid new. Leads false (count mid) Always mid new)
    → Told a b (λ s new. Leads failed (bound s) P s new)
recalled_end true bound P a m b well p q = absurd (false≢true (sym well))
recalled_end false bound P a m b well p q = recalled_told bound P a m b p q

-- where the fetch gave no answer
end_flag : (error : FetchError) (end : DrainEnd) → end ≡ end_by error → is_keeper end ≡ false
end_flag fetch.Failed end is = ap is_keeper is
end_flag fetch.Memory end is = ap is_keeper is

pub fetch_told : (error : FetchError) (end : DrainEnd) (high : Bound) (P : Map → List Cid → Type 0) (a b : Option ReplicaState) → end ≡ end_by error → ((s : ReplicaState) → count s ≤ high s) → Told a b (λ s new. Leads false (count s) Always s new)
    → Told a b (λ s new. Leads (is_keeper end) (high s) P s new)
fetch_told error end high P a b is more t =
    subst (λ (f : Bool). Told a b (λ s new. Leads f (high s) P s new)) (sym (end_flag error end is)) (weaker_told false count high Always P a b more (λ known kept p. tt) t)

-- nothing has happened yet
pub itself_told : (grow_law : GrowLaw) (goes_law : GoesLaw) (stay_law : StayLaw) (bound : Bound) (P : Map → List Cid → Type 0) (a : Option ReplicaState) → ((s : ReplicaState) → count s ≤ bound s) → Told a a (λ s new. Leads false (bound s) P s new)
itself_told grow_law goes_law stay_law bound P None more = tt
itself_told grow_law goes_law stay_law bound P (Some s) more = stays_leads grow_law goes_law stay_law P s s (bound s) refl (more s)

-- there is room below the limit
pub room_told : (processed limit : ℕ) (a : Option ReplicaState) → processed < limit → limit < 2 ^ 64 → IfSome a (λ s. processed ≡ capped (count s)) → IfSome a (λ s. count s < limit)
room_told processed limit None less small is = tt
room_told processed limit (Some s) less small is = omega (arith, less, small, is)

pub spent_told : (processed limit : ℕ) (a : Option ReplicaState) → limit ≤ processed → IfSome a (λ s. processed ≡ capped (count s)) → IfSome a (λ s. limit ≤ count s)
spent_told processed limit None more is = tt
spent_told processed limit (Some s) more is = omega (arith, more, is)

-- one turn after others
pub loop_told : (failed : Bool) (limit : ℕ) (offers now : Option Map) (a m b : Option ReplicaState) → now ≡ offers → IfSome m (λ s. count s < limit) → Told a m (λ s mid. Leads false (up_to limit s) (Fetched offers) s mid)
    → Told m b (λ mid new. Leads failed (count mid + 1) (Fetched now) mid new) → Told a b (λ s new. Leads failed (up_to limit s) (Fetched offers) s new)
loop_told failed limit offers now None m b same room p q = tt
loop_told failed limit offers now (Some s) None b same room p q = absurd p
loop_told failed limit offers now (Some s) (Some mid) None same room p q = absurd q
loop_told failed limit offers now (Some s) (Some mid) (Some new) same room p q =
    leads_weaker failed (count mid + 1) (up_to limit s) (Fetched offers) (Fetched offers) s new
    (leads_then failed (up_to limit s) (count mid + 1) (Fetched offers) (Fetched now) (Fetched offers) s mid new p q (λ known kept old start f h. (f, subst (FetchFits (Some known) kept) (sym same) f)))
    (omega (arith, room)) (λ known kept f. f)

-- the same of turns that process nothing
pub sort_told : (failed : Bool) (offers now : Option Map) (a m b : Option ReplicaState) → now ≡ offers → Told a m (λ s mid. Leads false (count s) (Fetched offers) s mid)
    → Told m b (λ mid new. Leads failed (count mid) (Fetched now) mid new) → Told a b (λ s new. Leads failed (count s) (Fetched offers) s new)
sort_told failed offers now None m b same p q = tt
sort_told failed offers now (Some s) None b same p q = absurd p
sort_told failed offers now (Some s) (Some mid) None same p q = absurd q
sort_told failed offers now (Some s) (Some mid) (Some new) same p q =
    leads_weaker failed (count mid) (count s) (Fetched offers) (Fetched offers) s new
    (leads_then failed (count s) (count mid) (Fetched offers) (Fetched now) (Fetched offers) s mid new p q (λ known kept old start f h. (f, subst (FetchFits (Some known) kept) (sym same) f)))
    p.few (λ known kept f. f)

-- a turn that did not end
pub still_runs : (turn : Option DrainEnd) (before after : Bool) → turn ≡ None → after ≡ (keeper_failed turn || before) → before ≡ false → after ≡ false
still_runs turn before after none is up = is ∙ ap (λ (t : Option DrainEnd). keeper_failed t || before) none ∙ up
