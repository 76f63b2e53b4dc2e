-- Calls of a replica, one after another.
use Rattle.std.proofs.Common.{◌≡◌, ◌∙◌, ap, subst, sym, refl, ℕ, Bool, true, false, ◌||◌, Option, None}
use Rattle.mc_model.specs.Kept.{Kept}
use Rattle.mc_model.specs.declared.layout.Layout.{Layout}
use Rattle.mc_keep.specs.Plan.{Schedule}
use Rattle.mc_base.specs.declared.counted.Counted as counted
use Rattle.mc_keep.specs.declared.fuse.Fuse.{Fuse}
use Rattle.mc_keep.specs.declared.keeper.Keeper as keeper
use Rattle.mc_keep.specs.Causes.{is_fault_kind}
use Rattle.mc_keep.specs.Causes.{fires}
use Rattle.mc_keep.specs.Frame.{ReadsAt, CommitsAt, GoesAt}
use Rattle.mc_keep.specs.Plan.{CommitsAsPlanned}
use Rattle.mc_keep.proofs.Frames.{goes_commit, goes_itself, goes_more, goes_reads}
use Rattle.mc_plan.specs.Refusals.{kind_of, stops}
use Rattle.mc_plan.specs.declared.error.CoreError.{CoreError}
use Rattle.mc_core.specs.declared.replica.Replica.{Replica}
use Rattle.mc_core.specs.Exact.{RestSame}
use Rattle.mc_core.specs.Words.{ContinuesAt, CommitKeepsAt}

-- the walk, the batch, the inbox, and whether every gap is wanted stay over two calls
pub rest_more : {K D : Type 0} {g : keeper.Ghosts K D} {h : counted.Ghosts K} {i : counted.Ghosts D} {old mid new : Replica K D g h i} → RestSame old mid → RestSame mid new → RestSame old new
rest_more before next = record { walk_same = next.walk_same ∙ before.walk_same; batch_same = next.batch_same ∙ before.batch_same; whole_same = next.whole_same ∙ before.whole_same; inbox_same = next.inbox_same ∙ before.inbox_same }

module _ {K D : Type 0} {g : keeper.Ghosts K D} {h : counted.Ghosts K} {i : counted.Ghosts D} {told : K → Option Kept} {fuse : K → Option Fuse} {own faults : K → ℕ} {quiet : K → Bool} {schedule : K → Option Schedule} where
  -- the second one is the last
  pub continues_more : {failed : Bool} {old mid new : Replica K D g h i} → ContinuesAt told fuse own faults quiet schedule false old mid → ContinuesAt told fuse own faults quiet schedule failed mid new → ContinuesAt told fuse own faults quiet schedule failed old new
  continues_more {failed = failed} before next = record {
    keeper_goes = goes_more before.keeper_goes next.keeper_goes;
    stops = next.stops ∙ ap (λ b. failed || b) before.stops;
  }

  pub commit_more : {failed : Bool} {old mid new : Replica K D g h i} → CommitKeepsAt told fuse own faults quiet schedule false old mid → CommitKeepsAt told fuse own faults quiet schedule failed mid new → CommitKeepsAt told fuse own faults quiet schedule failed old new
  commit_more before next = record { rest_same = rest_more before.rest_same next.rest_same; continues = continues_more before.continues next.continues }

  -- where only reads have come to the keeper
  pub looks_on : {layout : K → Layout} {spare : K → ℕ} {failed : Bool} {old new : Replica K D g h i} → ReadsAt told layout fuse spare own faults quiet schedule failed old.keeper new.keeper → new.stopped ≡ (failed || old.stopped)
      → ContinuesAt told fuse own faults quiet schedule failed old new
  looks_on reads stops = record {
    keeper_goes = goes_reads reads;
    stops = stops;
  }

  -- where nothing has come to it
  pub still_on : {failed : Bool} {old new : Replica K D g h i} → new.keeper ≡ old.keeper → new.stopped ≡ old.stopped → failed ≡ false → ContinuesAt told fuse own faults quiet schedule failed old new
  still_on {failed = true} keeper_same stops well = absurd (let f : false ≡ true = sym well in cc)
  still_on {failed = false} {old = old} keeper_same stops well = record {
    keeper_goes = subst (GoesAt told fuse own faults quiet schedule false old.keeper) (sym keeper_same) (goes_itself old.keeper);
    stops = stops;
  }

  -- where one commit has come to it
  pub commits_on : {spare : K → ℕ} {rows : ℕ} {failed : Bool} {old new : Replica K D g h i} (told_before told_after whole : Option Kept) → CommitsAt told fuse spare own faults quiet rows failed old.keeper new.keeper
      → (fires (fuse old.keeper) ≡ None → CommitsAsPlanned (schedule old.keeper) (schedule new.keeper) failed told_before told_after whole) → new.stopped ≡ (failed || old.stopped) → RestSame old new
      → CommitKeepsAt told fuse own faults quiet schedule failed old new
  commits_on told_before told_after whole commits planned stops rest = record { rest_same = rest; continues = record { keeper_goes = goes_commit told_before told_after whole commits planned; stops = stops } }

  -- commits after reads, or after nothing

  pub looks_first : {layout : K → Layout} {spare : K → ℕ} {old new : Replica K D g h i} → ReadsAt told layout fuse spare own faults quiet schedule false old.keeper new.keeper → new.stopped ≡ old.stopped → RestSame old new
      → CommitKeepsAt told fuse own faults quiet schedule false old new
  looks_first reads stops rest = record { rest_same = rest; continues = looks_on reads stops }

  pub commit_itself : (now : Replica K D g h i) → CommitKeepsAt told fuse own faults quiet schedule false now now
  commit_itself now = record { rest_same = record { walk_same = refl; batch_same = refl; whole_same = refl; inbox_same = refl }; continues = still_on refl refl refl }

-- a replica that ran, and has stopped where the keeper failed
pub stops_once : (error : CoreError) (stop stop_new : Bool) → stop ≡ false → stop_new ≡ stops error false → stop_new ≡ (is_fault_kind (kind_of error) || stop)
stops_once error stop stop_new up is = is ∙ ap (λ b. is_fault_kind (kind_of error) || b) (sym up)
