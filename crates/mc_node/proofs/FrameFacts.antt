-- The frame of calls, of which none has failed.
use Rattle.std.proofs.Common.{◌≡◌, ℕ, Bool, true, false, ◌||◌, Option, Some, None, refl, sym, ap, ◌∙◌, subst, arith}
use Rattle.std.proofs.lemmas.Bool.{false≢true}
use Rattle.std.specs.Prelude.{unwrap_or}
use Rattle.mc_base.specs.declared.counted.Counted as counted
use Rattle.mc_model.specs.Kept.{Kept}
use Rattle.mc_keep.specs.declared.fuse.Fuse.{Fuse}
use Rattle.mc_keep.specs.declared.keeper.Keeper as keeper
use Rattle.mc_keep.specs.Plan.{AreMade, Schedule, CallsGo, CallsGoOn, is_planned, is_planned_commit}
use Rattle.mc_keep.proofs.Frames.{goes_more, goes_itself}
use Rattle.mc_core.specs.declared.replica.Replica.{Replica}
use Rattle.mc_core.specs.Exact.{RestSame, RunSame}
use Rattle.mc_core.specs.Words.{ContinuesAt}
use Rattle.mc_node.specs.Entries.{shown_at}
use Rattle.mc_node.specs.Items.{Shown}
use Rattle.mc_node.specs.Ties.{Goes, GoesCalm, NonePlanned}
use Rattle.mc_node.specs.Works.{GoesBroken, OnePlanned, commits_in, reads_in}

-- what stays besides the inbox, of two calls and of one
pub run_more : {K D : Type 0} {g : keeper.Ghosts K D} {h : counted.Ghosts K} {i : counted.Ghosts D} {old mid new : Replica K D g h i} → RunSame old mid → RunSame mid new → RunSame old new
run_more before next = record { walk_same = next.walk_same ∙ before.walk_same; batch_same = next.batch_same ∙ before.batch_same; whole_same = next.whole_same ∙ before.whole_same }

pub run_same : {K D : Type 0} {g : keeper.Ghosts K D} {h : counted.Ghosts K} {i : counted.Ghosts D} {old new : Replica K D g h i} → RestSame old new → RunSame old new
run_same rest = record { walk_same = rest.walk_same; batch_same = rest.batch_same; whole_same = rest.whole_same }

-- calls in turn
pub go_more : (failed : Bool) (before mid now : Shown) → Goes false before mid → Goes failed mid now → Goes failed before now
go_more failed before mid now first next = record {
  keeper = goes_more first.keeper next.keeper;
  stops = next.stops ∙ ap (λ b. failed || b) first.stops;
}

pub go_nowhere : (now : Shown) → Goes false now now
go_nowhere now = record { keeper = goes_itself now; stops = refl }

module _ {K D : Type 0} {g : keeper.Ghosts K D} {h : counted.Ghosts K} {i : counted.Ghosts D} (told : K → Option Kept) (fuse : K → Option Fuse) (own faults : K → ℕ) (quiet : K → Bool) (schedule : K → Option Schedule) where
  -- a replica's frame is that of what it shows
  pub shown_goes : (failed : Bool) (old new : Replica K D g h i) → ContinuesAt told fuse own faults quiet schedule failed old new
      → Goes failed (shown_at told fuse own faults quiet schedule old) (shown_at told fuse own faults quiet schedule new)
  shown_goes failed old new c = record {
    keeper = let k = c.keeper_goes in record {
      silent = k.silent;
      no_fuse = k.no_fuse;
      own_later = k.own_later;
      own_still = k.own_still;
      own_rose = k.own_rose;
      faults_go = k.faults_go;
      still_quiet = k.still_quiet;
      calm = k.calm;
      planned = k.planned;
    };
    stops = c.stops;
  }

  pub goes_shown : (failed : Bool) (old new : Replica K D g h i)
      → Goes failed (shown_at told fuse own faults quiet schedule old) (shown_at told fuse own faults quiet schedule new)
      → ContinuesAt told fuse own faults quiet schedule failed old new
  goes_shown failed old new c = record {
    keeper_goes = let k = c.keeper in record {
      silent = k.silent;
      no_fuse = k.no_fuse;
      own_later = k.own_later;
      own_still = k.own_still;
      own_rose = k.own_rose;
      faults_go = k.faults_go;
      still_quiet = k.still_quiet;
      calm = k.calm;
      planned = k.planned;
    };
    stops = c.stops;
  }

some_schedule : (a b : Schedule) → Some a ≡ Some b → a ≡ b
some_schedule a b e = ap (λ o. unwrap_or o a) e

or_none : (a b : Bool) → false ≡ (a || b) → (a ≡ false) × (b ≡ false)
or_none true b e = absurd (false≢true e)
or_none false b e = (refl, sym e)

-- the numbers of calls are those of the plan
none_planned : (old : Schedule) (new : Option Schedule) → CallsGoOn old new false → NonePlanned old new
none_planned old new c =
    let parts = or_none c.read_failed c.commit_failed c.one_failed in
    let reads : c.reads_made ≡ reads_in new = ap reads_in (sym c.counted) in
    let commits : c.commits_made ≡ commits_in new = ap commits_in (sym c.counted) in record {
      counted = c.counted ∙ ap (λ (n : ℕ). Some (record old { reads_made = n; commits_made = c.commits_made })) reads ∙ ap (λ (n : ℕ). Some (record old { reads_made = reads_in new; commits_made = n })) commits;
      reads = λ number after upto. c.reads_planned.others number after (omega (arith, upto, reads)) (λ f. absurd (false≢true (sym parts.0 ∙ f)));
      commits = λ number after upto. c.commits_planned.others number after (omega (arith, upto, commits)) (λ f. absurd (false≢true (sym parts.1 ∙ f)));
    }

calls_none : (old : Schedule) (new : Option Schedule) → NonePlanned old new → CallsGoOn old new false
calls_none old new n = record {
  reads_made = reads_in new;
  commits_made = commits_in new;
  read_failed = false;
  commit_failed = false;
  counted = n.counted;
  one_failed = refl;
  reads_planned = record { last_is = λ f. absurd (false≢true f); others = λ number after upto f. n.reads number after upto };
  commits_planned = record { last_is = λ f. absurd (false≢true f); others = λ number after upto f. n.commits number after upto };
}

pub calm_of : (before now : Shown) → Goes false before now → GoesCalm before now
calm_of before now goes = let k = goes.keeper in record {
  silent = k.silent;
  no_fuse = k.no_fuse;
  own_same = k.own_still refl;
  faults_same = k.faults_go.still refl;
  still_quiet = λ e. (k.still_quiet e).0;
  planned = λ none old is. none_planned old now.schedule (subst (λ (s : Option Schedule). CallsGo s now.schedule false) is (k.planned none));
  runs = goes.stops;
}

calls_by : (before now : Option Schedule) → ((old : Schedule) → before ≡ Some old → NonePlanned old now) → CallsGo before now false
calls_by None now f = tt
calls_by (Some old) now f = calls_none old now (f old refl)

pub of_calm : (before now : Shown) → GoesCalm before now → Goes false before now
of_calm before now c = record {
  keeper = record {
    silent = c.silent;
    no_fuse = c.no_fuse;
    own_later = let e = c.own_same in omega (arith, e);
    own_still = λ e. c.own_same;
    own_rose = λ none e. absurd (false≢true e);
    faults_go = record { later = let e = c.faults_same in omega (arith, e); still = λ e. c.faults_same; rose = λ e. absurd (false≢true e) };
    still_quiet = λ e. (c.still_quiet e, c.own_same);
    calm = λ none e. refl;
    planned = λ none. calls_by before.schedule now.schedule (c.planned none);
  };
  stops = c.runs;
}

-- whether the last of some calls was planned to fail is seen from the plan
made_at : (planned : ℕ → Bool) (before now : ℕ) (failed : Bool) → AreMade planned before now failed → AreMade planned before now (planned now)
made_at planned before now failed m = record { last_is = λ e. e; others = λ number after upto below. m.others number after upto (λ f. below (m.last_is f)) }

either_planned : (a b x y : Bool) → true ≡ (a || b) → (a ≡ true → x ≡ true) → (b ≡ true → y ≡ true) → (x || y) ≡ true
either_planned true b x y e f g = ap (λ z. z || y) (f refl)
either_planned false true x y e f g = ap (λ z. x || z) (g refl) ∙ or_true x
  where
    or_true : (z : Bool) → (z || true) ≡ true
    or_true true = refl
    or_true false = refl
either_planned false false x y e f g = absurd (false≢true (sym e))

one_planned : (old : Schedule) (new : Option Schedule) → CallsGoOn old new true → OnePlanned old new
one_planned old new c =
    let reads : c.reads_made ≡ reads_in new = ap reads_in (sym c.counted) in
    let commits : c.commits_made ≡ commits_in new = ap commits_in (sym c.counted) in record {
      counted = c.counted ∙ ap (λ (n : ℕ). Some (record old { reads_made = n; commits_made = c.commits_made })) reads ∙ ap (λ (n : ℕ). Some (record old { reads_made = reads_in new; commits_made = n })) commits;
      one = either_planned c.read_failed c.commit_failed (is_planned old.reads (reads_in new)) (is_planned_commit old (commits_in new)) c.one_failed
          (λ e. ap (is_planned old.reads) (sym reads) ∙ c.reads_planned.last_is e) (λ e. ap (is_planned_commit old) (sym commits) ∙ c.commits_planned.last_is e);
      reads = subst (λ (n : ℕ). AreMade (is_planned old.reads) old.reads_made n (is_planned old.reads n)) reads (made_at (is_planned old.reads) old.reads_made c.reads_made c.read_failed c.reads_planned);
      commits = subst (λ (n : ℕ). AreMade (is_planned_commit old) old.commits_made n (is_planned_commit old n)) commits (made_at (is_planned_commit old) old.commits_made c.commits_made c.commit_failed c.commits_planned);
    }

calls_one : (old : Schedule) (new : Option Schedule) → OnePlanned old new → CallsGoOn old new true
calls_one old new n = record {
  reads_made = reads_in new;
  commits_made = commits_in new;
  read_failed = is_planned old.reads (reads_in new);
  commit_failed = is_planned_commit old (commits_in new);
  counted = n.counted;
  one_failed = sym n.one;
  reads_planned = n.reads;
  commits_planned = n.commits;
}

pub broken_of : (before now : Shown) → Goes true before now → GoesBroken before now
broken_of before now goes = let k = goes.keeper in record {
  silent = k.silent;
  no_fuse = k.no_fuse;
  own_later = k.own_later;
  own_rose = λ none. k.own_rose none refl;
  faults_later = k.faults_go.later;
  faults_rose = k.faults_go.rose refl;
  still_quiet = λ e. (k.still_quiet e).0;
  quiet_own = λ e. (k.still_quiet e).1;
  calm = k.calm;
  planned = λ none old is. one_planned old now.schedule (subst (λ (s : Option Schedule). CallsGo s now.schedule true) is (k.planned none));
  stops = goes.stops;
}

calls_broken : (before now : Option Schedule) → ((old : Schedule) → before ≡ Some old → OnePlanned old now) → CallsGo before now true
calls_broken None now f = tt
calls_broken (Some old) now f = calls_one old now (f old refl)

pub of_broken : (before now : Shown) → GoesBroken before now → Goes true before now
of_broken before now b = record {
  keeper = record {
    silent = b.silent;
    no_fuse = b.no_fuse;
    own_later = b.own_later;
    own_still = λ e. absurd (false≢true (sym e));
    own_rose = λ none e. b.own_rose none;
    faults_go = record { later = b.faults_later; still = λ e. absurd (false≢true (sym e)); rose = λ e. b.faults_rose };
    still_quiet = λ e. (b.still_quiet e, b.quiet_own e);
    calm = b.calm;
    planned = λ none. calls_broken before.schedule now.schedule (b.planned none);
  };
  stops = b.stops;
}
