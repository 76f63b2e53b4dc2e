-- Steps of the repair walk as events.
use Rattle.std.proofs.Common.{◌≡◌, ℕ, ◌<◌, ◌==◌, Bool, true, false, not, cond, ◌&&◌, List, [], ◌∷◌, length, take, drop, filter, Option, Some, None, Ok, Err, refl, sym, ◌∙◌, ap, subst, get_or, inl, inr}
use Rattle.std.specs.Prelude.{IfOk, IfSome, Result, nat_lt, find, is_some, slice_get, unwrap_or}
use Rattle.std.specs.Option.{option_map}
use Rattle.std.proofs.lemmas.Bool.{and_parts, eqb-true, ltb-true}
use Rattle.std.proofs.lemmas.List.{append-nil, drop_all, drop_more}
use Rattle.std.proofs.lemmas.Option.{slice_get_cases, slice_get_within, unwrap_or-slice_get}
use Rattle.mc_base.specs.Told.{Told}
use Rattle.mc_base.specs.declared.cid.Cid.{Cid}
use Rattle.mc_model.specs.declared.block.Stored.{Stored}
use Rattle.mc_model.specs.Events.{Event, WalkBegin, WalkVisit, WalkEnd, IsVisiting, IsVisited, ended_mark, links_at, runs}
use Rattle.mc_model.specs.Front.{gaps, same_cid}
use Rattle.mc_model.specs.Graph.{Vertex, all_links, has, links_in, links_of, no_gaps}
use Rattle.mc_model.specs.Kept.{Kept, IsKept, block_in, block_under, bytes_at, is_stored, processed}
use Rattle.mc_model.specs.Offer.{is_good, block_of}
use Rattle.mc_model.specs.State.{Running, Walk, durable_of, vertex_of, vertices}
use Rattle.mc_model.specs.Wanted.{Queue, want_all, want_unless}
use Rattle.mc_keep.specs.Causes.{IfTold, burnt, fires, CommitFails}
use Rattle.mc_keep.specs.declared.error.KeepError.{KeepError}
use Rattle.mc_keep.specs.Changes.{changed, no_changes}
use Rattle.mc_keep.specs.declared.fuse.Fuse.{Fuse}
use Rattle.mc_walk.specs.Walks.{begun, next_of, after_visit}
use Rattle.mc_plan.specs.declared.error.CoreError.TheVariants.{KeeperFault}
use Rattle.mc_plan.specs.declared.counting.Numbers.{Numbers}
use Rattle.mc_plan.specs.declared.walks.WalkStep.{WalkStep}
use Rattle.mc_plan.specs.declared.walks.WalkStep.TheVariants.{Begun}
use Rattle.mc_plan.specs.Calls.{Call, Stays}
use Rattle.mc_plan.specs.Counted.{capped, is_count, is_counted, is_mark, run_of}
use Rattle.mc_plan.specs.Events.{ReplicaState, state_of, commits, burnt_by, fires_by, Goes, Breaks}
use Rattle.mc_plan.specs.Uptakes.{wants}
use Rattle.mc_plan.specs.Reads.{read_refusal}
use Rattle.mc_plan.specs.Refusals.{Is}
use Rattle.mc_plan.specs.Walks.{WalkEvents, clearing, clears, gap_count, open_links_at, step_due, step_events, step_to}
use Rattle.mc_plan.proofs.CallFacts.{at}
use Rattle.mc_plan.proofs.CommitFacts.{breaks_at, fails_as}
use Rattle.mc_plan.proofs.JobFacts.{becomes, stored_good, told_both, told_with}
use Rattle.mc_plan.proofs.RefusalFacts.{told_always}

-- a walk begins
begin_goes : (kept : Kept) (fuse : Option Fuse) (run : Running) (walk : Walk) → run.whole ≡ false → run.walk ≡ None → walk ≡ begun (length kept.order)
    → Goes (WalkBegin ∷ []) (at kept fuse (Some run)) (at kept fuse (Some (record run { walk = Some walk })))
begin_goes kept fuse run walk whole none is = record { may = ((whole, none), refl, tt); ends = λ i. at kept fuse (Some (record run { walk = Some (is i) })) }

-- a walk visits

wants_open : (order : List Cid) (q : Queue) (cids : List Cid) → want_all order q cids ≡ wants q (filter (λ c. not (has c order)) cids)
wants_open order q [] = refl
wants_open order q (c ∷ cids) =
    elim (has c order) as (λ t. want_all order (want_unless t q c) cids ≡ wants q (cond (not t) (c ∷ filter (λ d. not (has d order)) cids) (filter (λ d. not (has d order)) cids))) [
      | true ↦ wants_open order q cids
      | false ↦ wants_open order (want_unless false q c) cids
    ]

visit_goes : (kept : Kept) (fuse : Option Fuse) (run : Running) (walk new : Walk) (q : Queue) → run.walk ≡ Some walk → IsVisiting (Some walk) → new ≡ after_visit walk → q ≡ wants run.queue (open_links_at kept walk.1)
    → Goes (WalkVisit ∷ []) (at kept fuse (Some run)) (at kept fuse (Some (record run { queue = q; walk = Some new })))
visit_goes kept fuse run (end, next) new q is visiting then wanted =
    let queue : q ≡ want_all kept.order run.queue (links_at (durable_of kept) next) = wanted ∙ sym (wants_open kept.order run.queue (links_at (durable_of kept) next)) in
    subst (λ (w : Option Walk). Goes (WalkVisit ∷ []) (at kept fuse (Some (record run { walk = w }))) (at kept fuse (Some (record run { queue = q; walk = Some new })))) (sym is)
    (record { may = (visiting, refl, tt); ends = λ i. at kept fuse (Some (record run { queue = queue i; walk = Some (then i) })) })

-- a walk ends

abbrev pub NoGapsLaw : Type 0
NoGapsLaw = (kept : Kept) → IsKept kept → no_gaps (durable_of kept).graph kept.order ≡ (length (gaps (processed kept)) == 0)

abbrev pub ClearLaw : Type 0
ClearLaw = (kept : Kept) (run : Running) → no_gaps (durable_of kept).graph kept.order ≡ true → (runs (durable_of kept) run WalkEnd).durable ≡ durable_of (changed kept clearing)

abbrev ended : Running → Running
ended run = record run { walk = None; whole = true }

and_not : (b : Bool) → b && not b ≡ false
and_not true = refl
and_not false = refl

-- the mark stays
pub end_goes : (kept : Kept) (fuse : Option Fuse) (run : Running) → IsVisited run.walk → ended_mark (durable_of kept) ≡ kept.mark → Goes (WalkEnd ∷ []) (at kept fuse (Some run)) (at kept fuse (Some (ended run)))
end_goes kept fuse run visited same =
    let none : commits (at kept fuse (Some run)) WalkEnd ≡ false = ap (λ m. kept.mark && not m) same ∙ and_not kept.mark in
    record {
      may = (visited, ap (λ b. fires_by b fuse) none, tt);
      ends = λ i. record {
        state = record { durable = record (durable_of kept) { mark = sym same i }; run = Some (ended run) };
        fuse = ap (λ b. burnt_by b fuse) (sym none) i;
      };
    }

mark_is : (a b : Bool) → is_mark a b ≡ true → a ≡ b
mark_is true true e = refl
mark_is true false e = sym e
mark_is false true e = e
mark_is false false e = refl

stays : (full mark : Bool) → full && mark ≡ false → cond full false mark ≡ mark
stays true true e = sym e
stays true false e = refl
stays false mark e = refl

-- what the numbers say
count_parts : (kept : Kept) (numbers : Numbers) → is_count kept numbers ≡ true → (numbers.gaps ≡ gap_count kept) × (numbers.mark ≡ kept.mark)
count_parts kept numbers e =
    let first = and_parts (numbers.processed == capped (length kept.order)) (numbers.stored == capped (length kept.graph) && (numbers.gaps == gap_count kept && is_mark numbers.mark kept.mark)) e in
    let next = and_parts (numbers.stored == capped (length kept.graph)) (numbers.gaps == gap_count kept && is_mark numbers.mark kept.mark) first.1 in
    let last = and_parts (numbers.gaps == gap_count kept) (is_mark numbers.mark kept.mark) next.1 in
    (eqb-true numbers.gaps (gap_count kept) last.0, mark_is numbers.mark kept.mark last.1)

-- whether the mark is cleared, by the numbers
clears_kept : (kept : Kept) (numbers : Numbers) → is_count kept numbers ≡ true → gap_count kept == 0 && kept.mark ≡ clears numbers
clears_kept kept numbers counted =
    let p = count_parts kept numbers counted in ap (λ (n : ℕ). n == 0 && kept.mark) (sym p.0) ∙ ap (λ (m : Bool). numbers.gaps == 0 && m) (sym p.1)

pub told_end : (law : NoGapsLaw) (told : Option Kept) (fuse : Option Fuse) (stop : Bool) (run : Running) (numbers : Numbers) → stop ≡ false → is_counted stop told numbers ≡ true → IfSome told IsKept
    → IsVisited run.walk → clears numbers ≡ false → IfSome told (λ kept. Goes (WalkEnd ∷ []) (at kept fuse (Some run)) (at kept fuse (Some (ended run))))
told_end law None fuse stop run numbers up counted sound visited unset = tt
told_end law (Some kept) fuse stop run numbers up counted sound visited unset =
    let counts : is_count kept numbers ≡ true = subst (λ b. is_counted b (Some kept) numbers ≡ true) up counted in
    end_goes kept fuse run visited (ap (λ t. cond t false kept.mark) (law kept sound) ∙ stays (gap_count kept == 0) kept.mark (clears_kept kept numbers counts ∙ unset))

-- no gap is left, and the mark is set
abbrev pub IsCleared : Kept → Type 0
IsCleared kept = (no_gaps (durable_of kept).graph kept.order ≡ true) × (kept.mark ≡ true)

pub told_cleared : (law : NoGapsLaw) (told : Option Kept) (stop : Bool) (numbers : Numbers) → stop ≡ false → is_counted stop told numbers ≡ true → IfSome told IsKept → clears numbers ≡ true → IfSome told IsCleared
told_cleared law None stop numbers up counted sound set = tt
told_cleared law (Some kept) stop numbers up counted sound set =
    let counts : is_count kept numbers ≡ true = subst (λ b. is_counted b (Some kept) numbers ≡ true) up counted in
    let parts = and_parts (gap_count kept == 0) kept.mark (clears_kept kept numbers counts ∙ set) in
    (law kept sound ∙ parts.0, parts.1)

clears_now : (kept : Kept) (fuse : Option Fuse) (run : Running) → IsCleared kept → commits (at kept fuse (Some run)) WalkEnd ≡ true
clears_now kept fuse run (full, mark) = ap (λ t. kept.mark && not (cond t false kept.mark)) full ∙ ap (λ m. m && true) mark

-- the commit that clears it
pub clear_goes : (law : ClearLaw) (old new : Option Kept) (fuse fuse_new : Option Fuse) (stop : Bool) (run : Running) → stop ≡ false → fires fuse ≡ None → fuse_new ≡ burnt fuse → IsVisited run.walk → IfSome old IsCleared
    → Told old new (λ kept now. now ≡ changed kept clearing)
    → Told (state_of old fuse (run_of stop run)) (state_of new fuse_new (run_of stop (ended run))) (Goes (WalkEnd ∷ []))
clear_goes law None new fuse fuse_new stop run up lasts is_burnt visited cleared told = tt
clear_goes law (Some kept) None fuse fuse_new stop run up lasts is_burnt visited cleared told = absurd told
clear_goes law (Some kept) (Some now) fuse fuse_new stop run up lasts is_burnt visited cleared told =
    let commit : commits (at kept fuse (Some run)) WalkEnd ≡ true = clears_now kept fuse run cleared in
    subst (λ b. Goes (WalkEnd ∷ []) (at kept fuse (run_of b run)) (at now fuse_new (run_of b (ended run)))) (sym up) (record {
      may = (visited, ap (λ b. fires_by b fuse) commit ∙ lasts, tt);
      ends = λ i. record {
        state = record { durable = (ap durable_of told ∙ sym (law kept run cleared.0)) i; run = Some (ended run) };
        fuse = (is_burnt ∙ ap (λ b. burnt_by b fuse) (sym commit)) i;
      };
    })

pub clear_breaks : (law : ClearLaw) (old new : Option Kept) (fuse fuse_new : Option Fuse) (stop : Bool) (run : Running) (rose : Type 0) → stop ≡ false → fuse_new ≡ burnt fuse → IsVisited run.walk → IfSome old IsCleared
    → Told old new (λ kept now. CommitFails (fires fuse) rose kept (changed kept clearing) now)
    → Told (state_of old fuse (run_of stop run)) (state_of new fuse_new None) (Breaks (WalkEnd ∷ []) rose)
clear_breaks law None new fuse fuse_new stop run rose up is_burnt visited cleared told = tt
clear_breaks law (Some kept) None fuse fuse_new stop run rose up is_burnt visited cleared told = absurd told
clear_breaks law (Some kept) (Some now) fuse fuse_new stop run rose up is_burnt visited cleared told =
    subst (λ b. Breaks (WalkEnd ∷ []) rose (at kept fuse (run_of b run)) (at now fuse_new None)) (sym up)
    (breaks_at WalkEnd rose _ _ (record {
      commit = clears_now kept fuse run cleared;
      may = visited;
      left = durable_of now;
      fails = subst (λ whole. CommitFails (fires fuse) rose (durable_of kept) whole (durable_of now)) (sym (law kept run cleared.0)) (fails_as durable_of (fires fuse) rose kept (changed kept clearing) now told);
      ends = λ i. record { state = record { durable = durable_of now; run = None }; fuse = is_burnt i };
    }))

-- the numbers then

abbrev pub MarkedLaw : Type 0
MarkedLaw = (kept : Kept) (mark : Option Bool) → changed kept (record no_changes { mark = mark }) ≡ record { graph = kept.graph; order = kept.order; mark = unwrap_or mark kept.mark }

last_true : (a b c d : Bool) → a && (b && (c && d)) ≡ true → a && (b && (c && true)) ≡ true
last_true true true true d e = refl
last_true true true false d e = e
last_true true false c d e = e
last_true false b c d e = e

pub cleared_count : (law : MarkedLaw) (old new : Option Kept) (stop : Bool) (numbers : Numbers) → stop ≡ false → is_counted stop old numbers ≡ true → (old ≡ None → new ≡ None) → Told old new (λ kept now. now ≡ changed kept clearing)
    → is_counted stop new (record numbers { mark = false }) ≡ true
cleared_count law None new stop numbers up counted silent told = ap (λ (t : Option Kept). is_counted stop t (record numbers { mark = false })) (silent refl) ∙ ap (λ b. is_counted b None (record numbers { mark = false })) up
cleared_count law (Some kept) None stop numbers up counted silent told = absurd told
cleared_count law (Some kept) (Some now) stop numbers up counted silent told =
    let counts : is_count kept numbers ≡ true = subst (λ b. is_counted b (Some kept) numbers ≡ true) up counted in
    ap (λ b. is_counted b (Some now) (record numbers { mark = false })) up
    ∙ ap (λ (k : Kept). is_count k (record numbers { mark = false })) (told ∙ law kept (Some false))
    ∙ last_true (numbers.processed == capped (length kept.order)) (numbers.stored == capped (length kept.graph)) (numbers.gaps == gap_count kept) (is_mark numbers.mark kept.mark) counts

-- a step as a call

abbrev StepCall : WalkStep → Type 0 → ReplicaState → ReplicaState → Type 0
StepCall step rose s new = Call (Is (read_refusal s)) (WalkEvents s) (Stays s) rose (Ok step) s new

pub step_done : (told : Option Kept) (fuse : Option Fuse) (stop : Bool) (run : Running) (new : Option ReplicaState) (rose : Type 0) (step : WalkStep) → stop ≡ false → step ≡ step_due run.whole run.walk
    → Told (state_of told fuse (run_of stop run)) new (Goes (step_events step)) → Told (state_of told fuse (run_of stop run)) new (StepCall step rose)
step_done None fuse stop run new rose step up due goes = tt
step_done (Some kept) fuse stop run None rose step up due goes = absurd goes
step_done (Some kept) fuse stop run (Some after) rose step up due goes =
    subst (λ b. Goes (step_events step) (at kept fuse (run_of b run)) after → StepCall step rose (at kept fuse (run_of b run)) after) (sym up)
    (λ p. record { allowed = refl; events = step_events step; makes = (due, refl); goes = p }) goes

pub step_failed : (told : Option Kept) (fuse : Option Fuse) (stop : Bool) (run : Running) (new : Option ReplicaState) (rose : Type 0) (step : WalkStep) → stop ≡ false → step ≡ step_due run.whole run.walk
    → Told (state_of told fuse (run_of stop run)) new (Breaks (step_events step) rose)
    → Told (state_of told fuse (run_of stop run)) new (λ s after. Call (Is (read_refusal s)) (WalkEvents s) (Stays s) rose (Err KeeperFault) s after)
step_failed None fuse stop run new rose step up due breaks = tt
step_failed (Some kept) fuse stop run None rose step up due breaks = absurd breaks
step_failed (Some kept) fuse stop run (Some after) rose step up due breaks =
    subst (λ b. Breaks (step_events step) rose (at kept fuse (run_of b run)) after → Call (Is (read_refusal (at kept fuse (run_of b run)))) (WalkEvents (at kept fuse (run_of b run))) (Stays (at kept fuse (run_of b run))) rose (Err KeeperFault) (at kept fuse (run_of b run)) after) (sym up)
    (λ p. record { events = step_events step; begins = inr (step, (due, refl)); breaks = p }) breaks

-- where nothing was committed
pub step_goes : (events : List Event) (told told_new : Option Kept) (fuse fuse_new : Option Fuse) (stop : Bool) (run run_new : Running) → stop ≡ false → told_new ≡ told → fuse_new ≡ fuse
    → IfSome told (λ kept. Goes events (at kept fuse (Some run)) (at kept fuse (Some run_new)))
    → Told (state_of told fuse (run_of stop run)) (state_of told_new fuse_new (run_of stop run_new)) (Goes events)
step_goes events told told_new fuse fuse_new stop run run_new up e f goes =
    becomes (Goes events) told told_new fuse fuse_new stop stop run run_new up e f
    (told_with told goes (λ kept p. subst (λ b. Goes events (at kept fuse (Some run)) (at kept fuse (run_of b run_new))) (sym up) p))

pub told_begins : (told : Option Kept) (fuse : Option Fuse) (run : Running) (walk : Walk) → run.whole ≡ false → run.walk ≡ None → IfSome told (λ kept. walk ≡ begun (length kept.order))
    → IfSome told (λ kept. Goes (WalkBegin ∷ []) (at kept fuse (Some run)) (at kept fuse (Some (record run { walk = Some walk }))))
told_begins told fuse run walk whole none is = told_with told is (λ kept e. begin_goes kept fuse run walk whole none e)

pub same_silent : {told told_new : Option Kept} → told_new ≡ told → told ≡ None → told_new ≡ None
same_silent same none = same ∙ none

next_visits : (walk : Walk) (position : ℕ) → next_of walk ≡ Some position → (walk.1 ≡ position) × IsVisiting (Some walk)
next_visits (end, next) position e = by_test (nat_lt next end) refl e
  where
    by_test : (t : Bool) → nat_lt next end ≡ t → cond t (Some next) None ≡ Some position → (next ≡ position) × (next < end)
    by_test true less h = (ap (λ o. unwrap_or o position) h, ltb-true next end less)
    by_test false less h = absurd (let no : false ≡ true = ap is_some h in cc)

pub told_visits : (told : Option Kept) (fuse : Option Fuse) (run : Running) (walk new : Walk) (position : ℕ) (q : Queue) → run.walk ≡ Some walk → next_of walk ≡ Some position → new ≡ after_visit walk
    → IfSome told (λ kept. q ≡ wants run.queue (open_links_at kept position))
    → IfSome told (λ kept. Goes (WalkVisit ∷ []) (at kept fuse (Some run)) (at kept fuse (Some (record run { queue = q; walk = Some new }))))
told_visits told fuse run walk new position q is next then wanted =
    let p = next_visits walk position next in
    told_with told wanted (λ kept e. visit_goes kept fuse run walk new q is p.1 then (e ∙ ap (λ n. wants run.queue (open_links_at kept n)) (sym p.0)))

-- the step that is due

pub begin_due : (whole : Bool) (walk : Option Walk) → whole ≡ false → walk ≡ None → Begun ≡ step_due whole walk
begin_due whole walk part none = sym (ap (λ b. step_due b walk) part ∙ ap (step_due false) none)

pub next_due : (whole : Bool) (walk : Option Walk) (now : Walk) (next : Option ℕ) → whole ≡ false → walk ≡ Some now → next_of now ≡ next → step_to next ≡ step_due whole walk
next_due whole walk now next part is e = sym (ap (λ b. step_due b walk) part ∙ ap (step_due false) is ∙ ap step_to e)

-- the links of the block at a position

none_at : (order : List Cid) (position : ℕ) → slice_get order position ≡ None → take 1 (drop position order) ≡ []
none_at order position e = elim (slice_get_cases order position).1 [
  | inl (cid, within, is, get) ↦ absurd (let no : true ≡ false = ap is_some (sym is ∙ e) in cc)
  | inr (past, none) ↦ ap (take 1) (drop_all position order past)
]

one_at : (order : List Cid) (position : ℕ) (cid : Cid) → slice_get order position ≡ Some cid → take 1 (drop position order) ≡ cid ∷ []
one_at order position cid e =
    let there : get_or order position cid ≡ cid = sym (unwrap_or-slice_get order position cid) ∙ ap (λ o. unwrap_or o cid) e in
    ap (take 1) (drop_more order position cid (slice_get_within order position cid e)) ∙ ap (λ c. c ∷ []) there

no_links : (graph : List Stored) (cid : Cid) → bytes_at graph cid ≡ None → links_in (vertices graph) cid ≡ []
no_links [] cid e = refl
no_links (s ∷ graph) cid e =
    elim (same_cid cid s.cid) as (λ t. option_map (λ (stored : Stored). stored.bytes) (cond t (Some s) (find (λ (stored : Stored). same_cid cid stored.cid) graph)) ≡ None
    → links_of (cond t (Some (vertex_of s)) (find (λ (vertex : Vertex). same_cid cid vertex.cid) (vertices graph))) ≡ []) [
      | true ↦ λ h. absurd (let no : true ≡ false = ap is_some h in cc)
      | false ↦ λ h. no_links graph cid h
    ] e

abbrev pub BlockLinksLaw : Type 0
BlockLinksLaw = (kept : Kept) (cid : Cid) → is_stored kept.graph cid ≡ true → links_in (durable_of kept).graph cid ≡ (block_in kept.graph cid).links

pub open_past : (told : Option Kept) (position : ℕ) (found : Option Cid) (links : List Cid) → found ≡ None → links ≡ [] → IfSome told (λ kept. found ≡ slice_get kept.order position)
    → IfSome told (λ kept. links ≡ open_links_at kept position)
open_past told position found links none empty row = told_with told row (λ kept is.
    empty ∙ sym (ap (λ (cids : List Cid). filter (λ c. not (has c kept.order)) (all_links (durable_of kept).graph cids)) (none_at kept.order position (sym is ∙ none))))

open_of : (kept : Kept) (position : ℕ) (cid : Cid) (links : List Cid) → slice_get kept.order position ≡ Some cid → links_in (durable_of kept).graph cid ≡ links
    → filter (λ c. not (has c kept.order)) links ≡ open_links_at kept position
open_of kept position cid links is linked =
    sym (ap (λ (cids : List Cid). filter (λ c. not (has c kept.order)) (all_links (durable_of kept).graph cids)) (one_at kept.order position cid is)
    ∙ ap (λ (cids : List Cid). filter (λ c. not (has c kept.order)) cids) (append-nil (links_in (durable_of kept).graph cid) ∙ linked))

pub open_none : (told told_mid : Option Kept) (position : ℕ) (found : Option Cid) (cid : Cid) (stored : Option (List ℕ)) (links : List Cid) → told_mid ≡ told → found ≡ Some cid → stored ≡ None → links ≡ []
    → IfSome told (λ kept. found ≡ slice_get kept.order position) → IfSome told_mid (λ kept. stored ≡ bytes_at kept.graph cid) → IfSome told (λ kept. links ≡ open_links_at kept position)
open_none told told_mid position found cid stored links same is none empty row bytes =
    told_both told row (subst (λ t. IfSome t (λ kept. stored ≡ bytes_at kept.graph cid)) same bytes)
    (λ kept e b. empty ∙ open_of kept position cid [] (sym e ∙ is) (no_links kept.graph cid (sym b ∙ none)))

open_stored : (law : BlockLinksLaw) (kept : Kept) (position : ℕ) (cid : Cid) (bytes : List ℕ) (links : List Cid) → IsKept kept → slice_get kept.order position ≡ Some cid → bytes_at kept.graph cid ≡ Some bytes
    → ((c : Cid) → is_good c bytes ≡ true → links ≡ (block_of c bytes).links) → filter (λ c. not (has c kept.order)) links ≡ open_links_at kept position
open_stored law kept position cid bytes links sound is stored good =
    open_of kept position cid links is (law kept cid (ap is_some stored) ∙ ap (λ b. (block_under cid b).links) stored ∙ sym (good cid (stored_good kept.graph cid bytes sound.good stored)))

pub open_some : (law : BlockLinksLaw) (told told_mid told_last : Option Kept) (position : ℕ) (found : Option Cid) (cid : Cid) (stored : Option (List ℕ)) (bytes text : List ℕ) (links slice : List Cid) (result : Result (List Cid) KeepError)
    → IfSome told IsKept → told_mid ≡ told → told_last ≡ told_mid → found ≡ Some cid → stored ≡ Some bytes → text ≡ bytes → slice ≡ links → IfSome told (λ kept. found ≡ slice_get kept.order position)
    → IfSome told_mid (λ kept. stored ≡ bytes_at kept.graph cid) → ((c : Cid) → is_good c text ≡ true → links ≡ (block_of c text).links) → IfTold told_last result (λ kept left. left ≡ filter (λ c. not (has c kept.order)) slice)
    → IfTold told result (λ kept left. left ≡ open_links_at kept position)
open_some law told told_mid told_last position found cid stored bytes text links slice (Err error) sound same then is there whole all row at_cid good left = told_always told (λ kept. IfOk (Err error) (λ left. left ≡ open_links_at kept position)) (λ kept. tt)
open_some law told told_mid told_last position found cid stored bytes text links slice (Ok new) sound same then is there whole all row at_cid good left =
    over told sound row (subst (λ t. IfSome t (λ kept. stored ≡ bytes_at kept.graph cid)) same at_cid) (subst (λ t. IfSome t (λ kept. new ≡ filter (λ c. not (has c kept.order)) slice)) (then ∙ same) left)
  where
    over : (told : Option Kept) → IfSome told IsKept → IfSome told (λ kept. found ≡ slice_get kept.order position) → IfSome told (λ kept. stored ≡ bytes_at kept.graph cid) → IfSome told (λ kept. new ≡ filter (λ c. not (has c kept.order)) slice)
        → IfSome told (λ kept. new ≡ open_links_at kept position)
    over None sound row at_cid left = tt
    over (Some kept) sound row at_cid left =
        left ∙ ap (λ (cids : List Cid). filter (λ c. not (has c kept.order)) cids) all
        ∙ open_stored law kept position cid bytes links sound (sym row ∙ is) (sym at_cid ∙ there) (subst (λ t. (c : Cid) → is_good c t ≡ true → links ≡ (block_of c t).links) whole good)
