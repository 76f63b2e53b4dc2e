-- What a call leaves of a keeper: a word for calls that only read, one for a reserve, one for a commit, and one for all
-- of these in turn.
use Rattle.std.specs.Prelude.{◌≡◌, ℕ, ◌+◌, ◌≤◌, Bool, true, false, Option, None}
use Rattle.mc_base.specs.Causes.{Rose}
use Rattle.mc_model.specs.Kept.{Kept}
use Rattle.mc_model.specs.declared.layout.Layout.{Layout}
use Rattle.mc_keep.specs.declared.fuse.Fuse.{Fuse}
use Rattle.mc_keep.specs.Causes.{CountGoes, StaysQuiet, burnt, fires, has_fired}
use Rattle.mc_keep.specs.Plan.{Schedule, ReadsGo, CallsGo}

-- After reads alone: what is told, the layout and the fuse are the same, and room doesn't shrink. `failed` is whether the last read
-- failed, `is_fault result` or `is_err result`, and `false` between two reads. Both counts rose exactly where it did;
-- what is quiet stays so, and has not failed; and no read before the last was planned to fail.
pub record ReadsAt {S : Type 0} (told : S → Option Kept) (layout : S → Layout) (fuse : S → Option Fuse) (spare own faults : S → ℕ)
    (quiet : S → Bool) (schedule : S → Option Schedule) (failed : Bool) (old new : S) : Type 0 where
  pub told_same : told new ≡ told old
  pub layout_same : layout new ≡ layout old
  pub fuse_same : fuse new ≡ fuse old
  pub spare_more : spare old ≤ spare new
  pub own_goes : CountGoes failed (own old) (own new)
  pub faults_go : CountGoes failed (faults old) (faults new)
  pub still_quiet : quiet old ≡ true → quiet new ≡ true
  pub calm : quiet old ≡ true → failed ≡ false
  pub planned : ReadsGo (schedule old) (schedule new) failed

-- After a reserve nothing but the room is another.
pub record ReservesAt {S : Type 0} (told : S → Option Kept) (layout : S → Layout) (fuse : S → Option Fuse) (spare own faults : S → ℕ)
    (quiet : S → Bool) (schedule : S → Option Schedule) (old new : S) : Type 0 where
  pub told_same : told new ≡ told old
  pub layout_same : layout new ≡ layout old
  pub fuse_same : fuse new ≡ fuse old
  pub spare_more : spare old ≤ spare new
  pub own_same : own new ≡ own old
  pub quiet_same : quiet new ≡ quiet old
  pub schedule_same : schedule new ≡ schedule old
  pub faults_same : faults new ≡ faults old

-- After a commit of so many rows, apart from what is told. A commit that fails by its fuse alone is none of the own
-- count, one that fails without it is, and one that fails over a quiet keeper fails by the fuse.
pub record CommitsAt {S : Type 0} (told : S → Option Kept) (fuse : S → Option Fuse) (spare own faults : S → ℕ)
    (quiet : S → Bool) (rows : ℕ) (failed : Bool) (old new : S) : Type 0 where
  pub silent : told old ≡ None → told new ≡ None
  pub fuse_burnt : fuse new ≡ burnt (fuse old)
  pub spare_left : spare old ≤ spare new + rows
  pub own_later : own old ≤ own new
  pub own_still : failed ≡ false → own new ≡ own old
  pub own_rose : fires (fuse old) ≡ None → failed ≡ true → Rose (own old) (own new)
  pub faults_go : CountGoes failed (faults old) (faults new)
  pub still_quiet : StaysQuiet (quiet old) (quiet new) (own old) (own new)
  pub calm : quiet old ≡ true → fires (fuse old) ≡ None → failed ≡ false

-- After reads, reserves and commits in turn, of which the last one alone may have failed: what a call that may commit
-- leaves, apart from what is told and from room. Where no fuse fired, what failed is of the own count, a quiet keeper
-- has not failed, and no call before the last was planned to fail.
pub record GoesAt {S : Type 0} (told : S → Option Kept) (fuse : S → Option Fuse) (own faults : S → ℕ)
    (quiet : S → Bool) (schedule : S → Option Schedule) (failed : Bool) (old new : S) : Type 0 where
  pub silent : told old ≡ None → told new ≡ None
  pub no_fuse : fuse old ≡ None → fuse new ≡ None
  pub own_later : own old ≤ own new
  pub own_still : failed ≡ false → own new ≡ own old
  pub own_rose : has_fired (fuse old) (fuse new) ≡ false → failed ≡ true → Rose (own old) (own new)
  pub faults_go : CountGoes failed (faults old) (faults new)
  pub still_quiet : StaysQuiet (quiet old) (quiet new) (own old) (own new)
  pub calm : has_fired (fuse old) (fuse new) ≡ false → quiet old ≡ true → failed ≡ false
  pub planned : has_fired (fuse old) (fuse new) ≡ false → CallsGo (schedule old) (schedule new) failed
