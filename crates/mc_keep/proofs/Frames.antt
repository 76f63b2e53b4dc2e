-- Calls of a keeper one after another.
use Rattle.std.proofs.Common.{◌≡◌, ℕ, ◌-◌, ◌<◌, ◌≤◌, ◌⊎◌, inl, inr, Bool, true, false, cond, ◌||◌, refl, ◌∙◌, sym, ap, subst, arith, Option, None, Some}
use Rattle.std.specs.Prelude.{nat_lt}
use Rattle.std.proofs.Math.Bool.{or-false}
use Rattle.mc_base.specs.Causes.{Rose}
use Rattle.mc_model.specs.Kept.{Kept}
use Rattle.mc_model.specs.declared.layout.Layout.{Layout}
use Rattle.mc_keep.specs.declared.fuse.Fuse.{Fuse}
use Rattle.mc_keep.specs.Causes.{CountGoes, burnt, fires, has_fired}
use Rattle.mc_keep.specs.Frame.{ReadsAt, ReservesAt, CommitsAt, GoesAt}
use Rattle.mc_keep.specs.Plan.{Schedule, AreMade, ReadsGo, ReadsGoOn, CallsGo, CallsGoOn, ReadsAsPlanned, CommitsAsPlanned, is_planned, is_planned_commit, next_number}

-- what rose since a later moment rose since an earlier one
pub rose_before : {first before now : ℕ} → first ≤ before → Rose before now → Rose first now
rose_before later rose = omega (arith, later, rose)

-- nothing has failed
no_fault : {P : Type 0} → false ≡ true → P
no_fault e = absurd (let f : false ≡ true = e in cc)

-- a count over no call, and over two

pub count_none : (now : ℕ) → CountGoes false now now
count_none now = record { later = omega arith; still = λ e. refl; rose = no_fault }

pub count_same : {before now : ℕ} → now ≡ before → CountGoes false before now
count_same same = record { later = omega (arith, same); still = λ e. same; rose = no_fault }

pub count_more : {failed : Bool} {before mid now : ℕ} → CountGoes false before mid → CountGoes failed mid now → CountGoes failed before now
count_more first next = record {
  later = omega (arith, first.later, next.later);
  still = λ e. next.still e ∙ first.still refl;
  rose = λ e. rose_before first.later (next.rose e);
}

-- calls that are counted by a schedule

made_none : (is_planned_at : ℕ → Bool) (now : ℕ) → AreMade is_planned_at now now false
made_none is_planned_at now = record {
  last_is = no_fault;
  others = λ number above below last. absurd (omega (arith, above, below));
}

made_one : (is_planned_at : ℕ → Bool) (before : ℕ) (failed : Bool) → failed ≡ is_planned_at (next_number before) → AreMade is_planned_at before (next_number before) failed
made_one is_planned_at before true is = record {
  last_is = λ e. sym is;
  others = λ number above below last. let least = last refl in absurd (omega (arith, above, below, least));
}
made_one is_planned_at before false is = record {
  last_is = no_fault;
  others = λ number above below last. ap is_planned_at (the_one before number above below) ∙ sym is;
}
  where
    the_one : (before number : ℕ) → before < number → number ≤ next_number before → number ≡ next_number before
    the_one before number above below = grind (arith, above, below)

low_or_high : (number mid : ℕ) → (number ≤ mid) ⊎ (mid < number)
low_or_high number mid = grind arith

made_more : {is_planned_at : ℕ → Bool} {before mid now : ℕ} {failed : Bool} → AreMade is_planned_at before mid false → AreMade is_planned_at mid now failed → AreMade is_planned_at before now failed
made_more {mid = mid} first next = record {
  last_is = next.last_is;
  others = λ number above below last. elim (low_or_high number mid) [
    | inl low ↦ first.others number above low no_fault
    | inr high ↦ next.others number high below last
  ];
}

-- reads that are counted by a schedule

pub reads_none : (schedule : Option Schedule) → ReadsGo schedule schedule false
reads_none None = tt
reads_none (Some now) = record { made = now.reads_made; counted = refl; planned = made_none (is_planned now.reads) now.reads_made }

pub reads_one : (old new : Option Schedule) (failed : Bool) → ReadsAsPlanned old new failed → ReadsGo old new failed
reads_one None new failed next = tt
reads_one (Some old) new failed next = record {
  made = next_number old.reads_made;
  counted = next.0;
  planned = made_one (is_planned old.reads) old.reads_made failed next.1;
}

pub reads_more : (old mid new : Option Schedule) (failed : Bool) → ReadsGo old mid false → ReadsGo mid new failed → ReadsGo old new failed
reads_more None mid new failed first next = tt
reads_more (Some old) mid new failed first next =
    let then : ReadsGoOn (record old { reads_made = first.made }) new failed = subst (λ (s : Option Schedule). ReadsGo s new failed) first.counted next in
    record { made = then.made; counted = then.counted; planned = made_more first.planned then.planned }

-- calls of all kinds that are counted by a schedule

calls_of_reads : (old new : Option Schedule) (failed : Bool) → ReadsGo old new failed → CallsGo old new failed
calls_of_reads None new failed reads = tt
calls_of_reads (Some old) new failed reads = record {
  reads_made = reads.made;
  commits_made = old.commits_made;
  read_failed = failed;
  commit_failed = false;
  counted = reads.counted;
  one_failed = sym (or-false failed);
  reads_planned = reads.planned;
  commits_planned = made_none (is_planned_commit old) old.commits_made;
}

calls_of_commit : (told told_after whole : Option Kept) (old new : Option Schedule) (failed : Bool) → CommitsAsPlanned old new failed told told_after whole → CallsGo old new failed
calls_of_commit told told_after whole None new failed next = tt
calls_of_commit told told_after whole (Some old) new failed next = record {
  reads_made = old.reads_made;
  commits_made = next_number old.commits_made;
  read_failed = false;
  commit_failed = failed;
  counted = next.0;
  one_failed = refl;
  reads_planned = made_none (is_planned old.reads) old.reads_made;
  commits_planned = made_one (is_planned_commit old) old.commits_made failed next.1;
}

no_call_failed : (read commit : Bool) → false ≡ (read || commit) → (read ≡ false) × (commit ≡ false)
no_call_failed true commit is = no_fault is
no_call_failed false commit is = (refl, sym is)

calls_more : (old mid new : Option Schedule) (failed : Bool) → CallsGo old mid false → CallsGo mid new failed → CallsGo old new failed
calls_more None mid new failed first next = tt
calls_more (Some old) mid new failed first next =
    let then : CallsGoOn (record old { reads_made = first.reads_made; commits_made = first.commits_made }) new failed = subst (λ (s : Option Schedule). CallsGo s new failed) first.counted next in
    let none = no_call_failed first.read_failed first.commit_failed first.one_failed in
    record {
      reads_made = then.reads_made;
      commits_made = then.commits_made;
      read_failed = then.read_failed;
      commit_failed = then.commit_failed;
      counted = then.counted;
      one_failed = then.one_failed;
      reads_planned = made_more (subst (AreMade (is_planned old.reads) old.reads_made first.reads_made) none.0 first.reads_planned) then.reads_planned;
      commits_planned = made_more (subst (AreMade (is_planned_commit old) old.commits_made first.commits_made) none.1 first.commits_planned) then.commits_planned;
    }

-- a fuse that did not fire over two calls fired in neither

not_fired_first : (old mid new : Option Fuse) → (mid ≡ None → new ≡ None) → has_fired old new ≡ false → has_fired old mid ≡ false
not_fired_first None mid new stays is = refl
not_fired_first (Some old) None new stays is = subst (λ (f : Option Fuse). has_fired (Some old) f ≡ false) (stays refl) is
not_fired_first (Some old) (Some mid) new stays is = refl

not_fired_next : (old mid new : Option Fuse) → (old ≡ None → mid ≡ None) → has_fired old new ≡ false → has_fired mid new ≡ false
not_fired_next None mid new stays is = subst (λ (f : Option Fuse). has_fired f new ≡ false) (sym (stays refl)) refl
not_fired_next (Some old) None new stays is = refl
not_fired_next (Some old) (Some mid) None stays is = is
not_fired_next (Some old) (Some mid) (Some new) stays is = refl

not_fired_itself : (fuse : Option Fuse) → has_fired fuse fuse ≡ false
not_fired_itself None = refl
not_fired_itself (Some fuse) = refl

-- a commit burns the fuse, which fires where it is burnt to nothing

none_burns : (fuse : Option Fuse) → fuse ≡ None → burnt fuse ≡ None
none_burns fuse is = ap burnt is

fires_none : (fuse : Option Fuse) → has_fired fuse (burnt fuse) ≡ false → fires fuse ≡ None
fires_none None is = refl
fires_none (Some fuse) is = elim (nat_lt 1 fuse.commit) as (λ t. has_fired (Some fuse) (cond t (Some (record { commit = fuse.commit - 1; after = fuse.after })) None) ≡ false → cond t None (Some fuse.after) ≡ None) [
  | true ↦ λ e. refl
  | false ↦ λ e. no_fault (sym e)
] is

module _ {S : Type 0} {told : S → Option Kept} {layout : S → Layout} {fuse : S → Option Fuse} {spare own faults : S → ℕ} {quiet : S → Bool} {schedule : S → Option Schedule} where
  pub read_itself : (now : S) → ReadsAt told layout fuse spare own faults quiet schedule false now now
  read_itself now = record {
    told_same = refl;
    layout_same = refl;
    fuse_same = refl;
    spare_more = omega arith;
    own_goes = count_none (own now);
    faults_go = count_none (faults now);
    still_quiet = λ e. e;
    calm = λ e. refl;
    planned = reads_none (schedule now);
  }

  -- the second one is the last
  pub read_more : {failed : Bool} {old mid new : S} → ReadsAt told layout fuse spare own faults quiet schedule false old mid → ReadsAt told layout fuse spare own faults quiet schedule failed mid new → ReadsAt told layout fuse spare own faults quiet schedule failed old new
  read_more {failed = failed} {old = old} {mid = mid} {new = new} before next = record {
    told_same = next.told_same ∙ before.told_same;
    layout_same = next.layout_same ∙ before.layout_same;
    fuse_same = next.fuse_same ∙ before.fuse_same;
    spare_more = omega (arith, before.spare_more, next.spare_more);
    own_goes = count_more before.own_goes next.own_goes;
    faults_go = count_more before.faults_go next.faults_go;
    still_quiet = λ e. next.still_quiet (before.still_quiet e);
    calm = λ e. next.calm (before.still_quiet e);
    planned = reads_more (schedule old) (schedule mid) (schedule new) failed before.planned next.planned;
  }

  -- where no read failed, and the call's own refusal is no fault of the keeper
  pub read_well : {f failed : Bool} {old new : S} → ReadsAt told layout fuse spare own faults quiet schedule f old new → f ≡ failed → ReadsAt told layout fuse spare own faults quiet schedule failed old new
  read_well {old = old} {new = new} reads same = subst (λ f. ReadsAt told layout fuse spare own faults quiet schedule f old new) same reads

  -- reads, and then a reserve, which fails for want of memory alone
  pub read_reserved : {failed : Bool} {old mid new : S} → ReadsAt told layout fuse spare own faults quiet schedule false old mid → ReservesAt told layout fuse spare own faults quiet schedule mid new → failed ≡ false → ReadsAt told layout fuse spare own faults quiet schedule failed old new
  read_reserved {failed = true} before next well = no_fault (sym well)
  read_reserved {failed = false} {old = old} before next well = record {
    told_same = next.told_same ∙ before.told_same;
    layout_same = next.layout_same ∙ before.layout_same;
    fuse_same = next.fuse_same ∙ before.fuse_same;
    spare_more = omega (arith, before.spare_more, next.spare_more);
    own_goes = count_more before.own_goes (count_same next.own_same);
    faults_go = count_more before.faults_go (count_same next.faults_same);
    still_quiet = λ e. next.quiet_same ∙ before.still_quiet e;
    calm = λ e. refl;
    planned = subst (λ (s : Option Schedule). ReadsGo (schedule old) s false) (sym next.schedule_same) before.planned;
  }

-- the same of reads, reserves and commits together
module _ {S : Type 0} {told : S → Option Kept} {fuse : S → Option Fuse} {own faults : S → ℕ} {quiet : S → Bool} {schedule : S → Option Schedule} where
  pub goes_itself : (now : S) → GoesAt told fuse own faults quiet schedule false now now
  goes_itself now = record {
    silent = λ e. e;
    no_fuse = λ e. e;
    own_later = omega arith;
    own_still = λ e. refl;
    own_rose = λ none. no_fault;
    faults_go = count_none (faults now);
    still_quiet = λ e. (e, refl);
    calm = λ none e. refl;
    planned = λ none. calls_of_reads (schedule now) (schedule now) false (reads_none (schedule now));
  }

  -- the second one is the last
  pub goes_more : {failed : Bool} {old mid new : S} → GoesAt told fuse own faults quiet schedule false old mid → GoesAt told fuse own faults quiet schedule failed mid new → GoesAt told fuse own faults quiet schedule failed old new
  goes_more {failed = failed} {old = old} {mid = mid} {new = new} before next = record {
    silent = λ e. next.silent (before.silent e);
    no_fuse = λ e. next.no_fuse (before.no_fuse e);
    own_later = omega (arith, before.own_later, next.own_later);
    own_still = λ e. next.own_still e ∙ before.own_still refl;
    own_rose = λ none e. rose_before before.own_later (next.own_rose (not_fired_next (fuse old) (fuse mid) (fuse new) before.no_fuse none) e);
    faults_go = count_more before.faults_go next.faults_go;
    still_quiet = λ e. let first = before.still_quiet e in let then = next.still_quiet first.0 in (then.0, then.1 ∙ first.1);
    calm = λ none e. next.calm (not_fired_next (fuse old) (fuse mid) (fuse new) before.no_fuse none) (before.still_quiet e).0;
    planned = λ none. calls_more (schedule old) (schedule mid) (schedule new) failed
        (before.planned (not_fired_first (fuse old) (fuse mid) (fuse new) next.no_fuse none))
        (next.planned (not_fired_next (fuse old) (fuse mid) (fuse new) before.no_fuse none));
  }

  pub goes_reads : {layout : S → Layout} {spare : S → ℕ} {failed : Bool} {old new : S} → ReadsAt told layout fuse spare own faults quiet schedule failed old new → GoesAt told fuse own faults quiet schedule failed old new
  goes_reads {failed = failed} {old = old} {new = new} reads = record {
    silent = λ e. reads.told_same ∙ e;
    no_fuse = λ e. reads.fuse_same ∙ e;
    own_later = reads.own_goes.later;
    own_still = reads.own_goes.still;
    own_rose = λ none e. reads.own_goes.rose e;
    faults_go = reads.faults_go;
    still_quiet = λ e. (reads.still_quiet e, reads.own_goes.still (reads.calm e));
    calm = λ none e. reads.calm e;
    planned = λ none. calls_of_reads (schedule old) (schedule new) failed reads.planned;
  }

  pub goes_reserve : {layout : S → Layout} {spare : S → ℕ} {old new : S} → ReservesAt told layout fuse spare own faults quiet schedule old new → GoesAt told fuse own faults quiet schedule false old new
  goes_reserve {old = old} next = goes_reads (read_reserved (read_itself old) next refl)

  pub goes_commit : {spare : S → ℕ} {rows : ℕ} {failed : Bool} {old new : S} (told_before told_after whole : Option Kept) → CommitsAt told fuse spare own faults quiet rows failed old new → (fires (fuse old) ≡ None → CommitsAsPlanned (schedule old) (schedule new) failed told_before told_after whole) → GoesAt told fuse own faults quiet schedule failed old new
  goes_commit {failed = failed} {old = old} {new = new} told_before told_after whole commits planned = record {
    silent = commits.silent;
    no_fuse = λ e. commits.fuse_burnt ∙ none_burns (fuse old) e;
    own_later = commits.own_later;
    own_still = commits.own_still;
    own_rose = λ none e. commits.own_rose (unfired none) e;
    faults_go = commits.faults_go;
    still_quiet = commits.still_quiet;
    calm = λ none e. commits.calm e (unfired none);
    planned = λ none. calls_of_commit told_before told_after whole (schedule old) (schedule new) failed (planned (unfired none));
  }
    where
      unfired : has_fired (fuse old) (fuse new) ≡ false → fires (fuse old) ≡ None
      unfired none = fires_none (fuse old) (subst (λ (f : Option Fuse). has_fired (fuse old) f ≡ false) commits.fuse_burnt none)
