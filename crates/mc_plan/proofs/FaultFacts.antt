-- Faults of the keeper, and reads of it that did not come.
use Rattle.std.proofs.Common.{◌≡◌, ap, sym, ℕ, Bool, false, Option, Err}
use Rattle.std.specs.Prelude.{⊤}
use Rattle.mc_model.specs.Kept.{Kept}
use Rattle.mc_model.specs.declared.layout.Layout.{Layout}
use Rattle.mc_keep.specs.Causes.{is_fault_kind}
use Rattle.mc_keep.specs.Frame.{ReadsAt}
use Rattle.mc_keep.specs.Plan.{Schedule, is_fault as keeper_failed}
use Rattle.mc_keep.specs.declared.error.KeepError.{KeepError}
use Rattle.mc_keep.specs.declared.error.KeepError.TheVariants.{Failed, Memory}
use Rattle.mc_keep.specs.declared.fuse.Fuse.{Fuse}
use Rattle.mc_keep.proofs.Frames.{read_itself, read_well}
use Rattle.mc_plan.specs.Refusals.{OfKeeper, kind_of}
use Rattle.mc_plan.specs.declared.error.CoreError.{CoreError}

-- a keeper's error is a fault exactly where the replica's is
pub same_fault : (keep : KeepError) (error : CoreError) → OfKeeper keep error → keeper_failed {T = ⊤} (Err keep) ≡ is_fault_kind (kind_of error)
same_fault Failed error of = ap (λ e. is_fault_kind (kind_of e)) (sym of)
same_fault Memory error of = ap (λ e. is_fault_kind (kind_of e)) (sym of)

-- nothing was read
pub reads_nothing : {K : Type 0} {told : K → Option Kept} {layout : K → Layout} {fuse : K → Option Fuse} {spare own faults : K → ℕ} {quiet : K → Bool} {schedule : K → Option Schedule} {failed : Bool} (now : K) → failed ≡ false
    → ReadsAt told layout fuse spare own faults quiet schedule failed now now
reads_nothing now well = read_well (read_itself now) (sym well)
