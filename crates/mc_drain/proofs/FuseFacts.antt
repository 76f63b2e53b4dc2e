-- What commits make of a fuse, and how many blocks events process.
use Rattle.std.proofs.Common.{◌≡◌, ◌≢◌, ◌≤◌, ◌+◌, ◌-◌, ◌*◌, ℕ, Bool, true, false, cond, List, [], ◌∷◌, ◌++◌, length, Option, Some, None, refl, sym, ap, ◌∙◌, subst, arith, inl, inr, length-append}
use Rattle.std.specs.Prelude.{is_some, nat_lt, if◌then◌else◌}
use Rattle.std.proofs.lemmas.Bool.{false≢true}
use Rattle.std.proofs.lemmas.Bool.Decides.{nat_tests}
use Rattle.mc_base.specs.declared.cid.Cid.{Cid}
use Rattle.mc_model.specs.Events.{Event, Store, Process, Hear, Want, GiveBack, Missing, Bad, Requeue, WalkBegin, WalkVisit, WalkEnd, Batch, Stop, Open, GoesOn, MayCome, MayRun, is_commit, runs, visited}
use Rattle.mc_model.specs.State.{Durable, Running}
use Rattle.mc_keep.specs.Causes.{burnt, fires}
use Rattle.mc_keep.specs.declared.fuse.Fuse.{Fuse}
use Rattle.mc_core.specs.Events.{Breaks, Goes, IsCutShort, MayHappen, ReplicaState, all_happen, burnt_by, fires_by, goes_on}
use Rattle.mc_drain.specs.Leads.{FuseGoes, all_processes, commits_between, count, processes}

-- no commit, more commits, and commits after commits

pub fuse_stays : (failed : Bool) (most : ℕ) (fuse : Option Fuse) → FuseGoes failed most fuse fuse
fuse_stays failed most None = refl
fuse_stays failed most (Some fuse) = (refl, omega arith, omega arith)

pub fuse_same : (failed : Bool) (most : ℕ) (old new : Option Fuse) → new ≡ old → FuseGoes failed most old new
fuse_same failed most old new e = subst (FuseGoes failed most old) (sym e) (fuse_stays failed most old)

pub fuse_more : (failed : Bool) (few most : ℕ) (old new : Option Fuse) → few ≤ most → FuseGoes failed few old new → FuseGoes failed most old new
fuse_more failed few most None new more g = g
fuse_more failed few most (Some old) None more g = (g.0, let a = g.1 in omega (arith, more, a))
fuse_more failed few most (Some old) (Some new) more g = (g.0, g.1, let a = g.2 in omega (arith, a, more))

pub fuse_fails : (most : ℕ) (old new : Option Fuse) → FuseGoes false most old new → FuseGoes true most old new
fuse_fails most None new g = g
fuse_fails most (Some old) None g = absurd (false≢true g.0)
fuse_fails most (Some old) (Some new) g = g

pub fuse_then : (failed : Bool) (m n : ℕ) (a b c : Option Fuse) → FuseGoes false m a b → FuseGoes failed n b c → FuseGoes failed (m + n) a c
fuse_then failed m n None None c p q = q
fuse_then failed m n None (Some b) c p q = absurd (cc p)
fuse_then failed m n (Some a) None c p q = absurd (false≢true p.0)
fuse_then failed m n (Some a) (Some b) None p q = (q.0, let l = p.2 in let r = q.1 in omega (arith, l, r))
fuse_then failed m n (Some a) (Some b) (Some c) p q = (q.0 ∙ p.0, let l = p.1 in let r = q.1 in omega (arith, l, r), let l = p.2 in let r = q.2 in omega (arith, l, r))

-- a commit that failed
pub fuse_fires : (fuse : Option Fuse) → FuseGoes true 1 fuse (burnt fuse)
fuse_fires None = refl
fuse_fires (Some fuse) = over (nat_lt 1 fuse.commit) refl
  where
    over : (more : Bool) → nat_lt 1 fuse.commit ≡ more → FuseGoes true 1 (Some fuse) (if more then Some (record { commit = fuse.commit - 1; after = fuse.after }) else None)
    over true e = (refl, omega arith, omega arith)
    over false e = (refl, grind (arith, nat_tests, e))

-- and one that didn't
fuse_burns : (fuse : Option Fuse) → fires fuse ≡ None → FuseGoes false 1 fuse (burnt fuse)
fuse_burns None calm = refl
fuse_burns (Some fuse) calm = over (nat_lt 1 fuse.commit) calm
  where
    over : (more : Bool) → (if more then None else Some fuse.after) ≡ None → FuseGoes false 1 (Some fuse) (if more then Some (record { commit = fuse.commit - 1; after = fuse.after }) else None)
    over true e = (refl, omega arith, omega arith)
    over false e = absurd (false≢true (sym (ap is_some e)))

pub fuse_burns_by : (commit : Bool) (fuse : Option Fuse) → fires_by commit fuse ≡ None → FuseGoes false 1 fuse (burnt_by commit fuse)
fuse_burns_by true fuse calm = fuse_burns fuse calm
fuse_burns_by false fuse calm = fuse_stays false 1 fuse

-- how many commits an event may make besides one for each block that it processes
abbrev extras : Event → ℕ
extras (Store blocks) = 1
extras (Process cids) = 0
extras (Hear cids) = 0
extras Want = 0
extras (GiveBack c) = 0
extras (Missing c) = 0
extras (Bad c damage) = 0
extras Requeue = 0
extras WalkBegin = 0
extras WalkVisit = 0
extras WalkEnd = 1
extras (Batch batch) = 0
extras Stop = 0
extras Open = 0

abbrev pub all_extras : List Event → ℕ
all_extras [] = 0
all_extras (event ∷ events) = extras event + all_extras events

extras-append : (xs ys : List Event) → all_extras (xs ++ ys) ≡ all_extras xs + all_extras ys
extras-append [] ys = omega arith
extras-append (x ∷ xs) ys = let e = extras-append xs ys in omega (arith, e)

-- the events of a call: one block is stored at most, and as many are processed
pub record IsPaced (events : List Event) : Type 0 where
  pub few : all_extras events ≤ 1
  pub paid : all_extras events ≤ all_processes events

-- what events lead to: so many blocks come, and the fuse burns by so many commits at most
abbrev pub Comes : ℕ → ℕ → ReplicaState → ReplicaState → Type 0
Comes more burns s new = (count new ≡ count s + more) × FuseGoes false burns s.fuse new.fuse

some_cids : (cids : List Cid) → cids ≢ [] → 1 ≤ length cids
some_cids [] some = absurd (some refl)
some_cids (c ∷ cids) some = omega arith

-- so an event does, where it may come and doesn't fail by the fuse
abbrev Happening : Durable → Running → Option Fuse → Event → Type 0
Happening durable run fuse event = fires_by (is_commit durable event) fuse ≡ None
    → (length (runs durable run event).durable.order ≡ length durable.order + processes event) × FuseGoes false (extras event + processes event) fuse (burnt_by (is_commit durable event) fuse)

run_happens : (durable : Durable) (run : Running) (fuse : Option Fuse) (event : Event) → MayRun durable run event → Happening durable run fuse event
run_happens durable run fuse (Store blocks) may = λ calm. (omega arith, fuse_burns fuse calm)
run_happens durable run fuse (Process cids) may = λ calm. (length-append durable.order cids, fuse_more false 1 (extras (Process cids) + processes (Process cids)) fuse (burnt fuse) (let some = some_cids cids may.0 in omega (arith, some)) (fuse_burns fuse calm))
run_happens durable run fuse (Hear cids) may = λ calm. (omega arith, fuse_stays false 0 fuse)
run_happens durable run fuse Want may = λ calm. (omega arith, fuse_stays false 0 fuse)
run_happens durable run fuse (GiveBack c) may = λ calm. (omega arith, fuse_stays false 0 fuse)
run_happens durable run fuse (Missing c) may = λ calm. (omega arith, fuse_stays false 0 fuse)
run_happens durable run fuse (Bad c damage) may = λ calm. (omega arith, fuse_stays false 0 fuse)
run_happens durable run fuse Requeue may = λ calm. (omega arith, fuse_stays false 0 fuse)
run_happens durable run fuse WalkBegin may = λ calm. (omega arith, fuse_stays false 0 fuse)
run_happens durable run fuse WalkVisit may = λ calm. (visit run.walk, fuse_stays false 0 fuse)
  where
    visit : (walk : Option (ℕ × ℕ)) → length (visited durable run walk).durable.order ≡ length durable.order + 0
    visit None = omega arith
    visit (Some (n, v)) = omega arith
run_happens durable run fuse WalkEnd may = λ calm. (omega arith, fuse_burns_by (is_commit durable WalkEnd) fuse calm)
run_happens durable run fuse (Batch batch) may = λ calm. (omega arith, fuse_stays false 0 fuse)
run_happens durable run fuse Stop may = λ calm. (omega arith, fuse_stays false 0 fuse)
run_happens durable run fuse Open may = absurd may

abbrev HappensAt : Durable → Option Running → Option Fuse → Event → Type 0
HappensAt durable run fuse event = fires_by (is_commit durable event) fuse ≡ None
    → Comes (processes event) (extras event + processes event) (record { state = record { durable = durable; run = run }; fuse = fuse }) (goes_on (record { state = record { durable = durable; run = run }; fuse = fuse }) event)

one_happens : (durable : Durable) (run : Option Running) (fuse : Option Fuse) (event : Event) → MayCome durable run event → HappensAt durable run fuse event
one_happens durable (Some run) fuse event may = run_happens durable run fuse event may
one_happens durable None fuse Open may = λ calm. (omega arith, fuse_stays false 0 fuse)
one_happens durable None fuse (Store blocks) may = absurd may
one_happens durable None fuse (Process cids) may = absurd may
one_happens durable None fuse (Hear cids) may = absurd may
one_happens durable None fuse Want may = absurd may
one_happens durable None fuse (GiveBack c) may = absurd may
one_happens durable None fuse (Missing c) may = absurd may
one_happens durable None fuse (Bad c damage) may = absurd may
one_happens durable None fuse Requeue may = absurd may
one_happens durable None fuse WalkBegin may = absurd may
one_happens durable None fuse WalkVisit may = absurd may
one_happens durable None fuse WalkEnd may = absurd may
one_happens durable None fuse (Batch batch) may = absurd may
one_happens durable None fuse Stop may = absurd may

comes_then : (m n p q : ℕ) (s mid new : ReplicaState) → Comes m p s mid → Comes n q mid new → Comes (m + n) (p + q) s new
comes_then m n p q s mid new a b = (let e = a.0 in let f = b.0 in omega (arith, e, f), fuse_then false p q s.fuse mid.fuse new.fuse a.1 b.1)

pub all_come : (events : List Event) (s : ReplicaState) → MayHappen s events → Comes (all_processes events) (all_extras events + all_processes events) s (all_happen s events)
all_come [] s may = (omega arith, fuse_stays false 0 s.fuse)
all_come (event ∷ events) s may =
    let both = comes_then (processes event) (all_processes events) (extras event + processes event) (all_extras events + all_processes events) s (goes_on s event) (all_happen (goes_on s event) events)
    (one_happens s.state.durable s.state.run s.fuse event may.0 may.1) (all_come events (goes_on s event) may.2) in
    (both.0, fuse_more false ((extras event + processes event) + (all_extras events + all_processes events)) (all_extras (event ∷ events) + all_processes (event ∷ events)) s.fuse (all_happen (goes_on s event) events).fuse (omega arith) both.1)

-- the blocks go on, so there are no fewer
pub longer : (s new : ReplicaState) → GoesOn s.state.durable new.state.durable → count s ≤ count new
longer s new g = let l = ap (λ (cids : List Cid). length cids) g.order in let e = length-append s.state.durable.order g.processed in omega (arith, l, e)

-- the fuse of a call all of whose events have happened
pub goes_burns : (events : List Event) (s new : ReplicaState) → Goes events s new → IsPaced events → FuseGoes false (commits_between false s new) s.fuse new.fuse
goes_burns events s new goes paced =
    let came = all_come events s goes.may in
    let len : count new ≡ count (all_happen s events) = ap count goes.ends in
    let first = came.0 in
    let paid = paced.paid in
    subst (λ (x : ReplicaState). FuseGoes false (commits_between false s new) s.fuse x.fuse) (sym goes.ends)
    (fuse_more false (all_extras events + all_processes events) (commits_between false s new) s.fuse (all_happen s events).fuse (omega (arith, len, first, paid)) came.1)

cut_burns : (events : List Event) (rose : Type 0) (s new : ReplicaState) → IsCutShort events rose s new → FuseGoes true 1 s.fuse new.fuse
cut_burns [] rose s new cut = fuse_same true 1 s.fuse new.fuse (ap (λ (x : ReplicaState). x.fuse) cut.1)
cut_burns (event ∷ events) rose s new (inl cut) = fuse_same true 1 s.fuse new.fuse (ap (λ (x : ReplicaState). x.fuse) cut.1)
cut_burns (event ∷ events) rose s new (inr b) = subst (λ (x : ReplicaState). FuseGoes true 1 s.fuse x.fuse) (sym b.ends) (fuse_fires s.fuse)

-- and of one whose events are cut short
pub breaks_burns : (events : List Event) (rose : Type 0) (s new : ReplicaState) → (b : Breaks events rose s new) → count (all_happen s b.so_far) ≤ count new → IsPaced events → FuseGoes true (commits_between true s new) s.fuse new.fuse
breaks_burns events rose s new b more paced =
    let mid : ReplicaState = all_happen s b.so_far in
    let came = all_come b.so_far s b.may in
    let first = came.0 in
    let sum : all_extras events ≡ all_extras b.so_far + all_extras b.rest = ap all_extras b.split ∙ extras-append b.so_far b.rest in
    let few = paced.few in
    fuse_more true ((all_extras b.so_far + all_processes b.so_far) + 1) (commits_between true s new) s.fuse new.fuse (omega (arith, first, sum, few, more))
    (fuse_then true (all_extras b.so_far + all_processes b.so_far) 1 s.fuse mid.fuse new.fuse came.1 (cut_burns b.rest rose mid new b.fate))

sums_on : (a b c x : ℕ) → a ≤ b → b ≤ c → (2 * (b - a) + 0) + (2 * (c - b) + x) ≤ 2 * (c - a) + x
sums_on a b c x first next = omega (arith, first, next)

-- calls after calls
pub burns_then : (failed : Bool) (s mid new : ReplicaState) → count s ≤ count mid → count mid ≤ count new → FuseGoes false (commits_between false s mid) s.fuse mid.fuse → FuseGoes failed (commits_between failed mid new) mid.fuse new.fuse
    → FuseGoes failed (commits_between failed s new) s.fuse new.fuse
burns_then failed s mid new first next p q =
    fuse_more failed (commits_between false s mid + commits_between failed mid new) (commits_between failed s new) s.fuse new.fuse (sums_on (count s) (count mid) (count new) (cond failed 2 0) first next)
    (fuse_then failed (commits_between false s mid) (commits_between failed mid new) s.fuse mid.fuse new.fuse p q)

-- no commit
pub burns_none : (failed : Bool) (s new : ReplicaState) → new ≡ s → FuseGoes failed (commits_between failed s new) s.fuse new.fuse
burns_none failed s new same = fuse_same failed (commits_between failed s new) s.fuse new.fuse (ap (λ (x : ReplicaState). x.fuse) same)

-- some commits, and then others with steps of a walk between them
pub burns_around : (failed : Bool) (s r m new : ReplicaState) → count s ≤ count r → count m ≡ count r → count m ≤ count new → FuseGoes false (commits_between false s r) s.fuse r.fuse → FuseGoes false 1 r.fuse m.fuse
    → FuseGoes failed (commits_between failed m new) m.fuse new.fuse → FuseGoes failed (commits_between failed s new + 1) s.fuse new.fuse
burns_around failed s r m new first same next p w q =
    let sums = sums_on (count s) (count m) (count new) (cond failed 2 0) (omega (arith, first, same)) next in
    fuse_more failed ((commits_between false s r + 1) + commits_between failed m new) (commits_between failed s new + 1) s.fuse new.fuse (omega (arith, sums, same))
    (fuse_then failed (commits_between false s r + 1) (commits_between failed m new) s.fuse m.fuse new.fuse (fuse_then false (commits_between false s r) 1 s.fuse r.fuse m.fuse p w) q)

-- or with nothing after the steps
pub burns_before : (failed : Bool) (s r new : ReplicaState) → count s ≤ count r → count new ≡ count r → FuseGoes false (commits_between false s r) s.fuse r.fuse → FuseGoes failed 1 r.fuse new.fuse
    → FuseGoes failed (commits_between failed s new + 1) s.fuse new.fuse
burns_before failed s r new first same p w =
    fuse_more failed (commits_between false s r + 1) (commits_between failed s new + 1) s.fuse new.fuse (less_one (cond failed 2 0) (count s) (count r) (count new) same)
    (fuse_then failed (commits_between false s r) 1 s.fuse r.fuse new.fuse p w)
  where
    less_one : (x a b c : ℕ) → c ≡ b → (2 * (b - a) + 0) + 1 ≤ (2 * (c - a) + x) + 1
    less_one x a b c e = omega (arith, e)
