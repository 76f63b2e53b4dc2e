-- What reads of a replica leave of it: all but its keeper's counts, and whether it has stopped.
use Rattle.std.specs.Prelude.{ℕ, Bool, false, Option}
use Rattle.mc_base.specs.declared.counted.Counted as counted
use Rattle.mc_model.specs.Kept.{Kept}
use Rattle.mc_keep.specs.Calls.{Members}
use Rattle.mc_keep.specs.Plan.{Schedule}
use Rattle.mc_keep.specs.declared.fuse.Fuse.{Fuse}
use Rattle.mc_keep.specs.declared.keeper.Keeper as keeper
use Rattle.mc_core.specs.Exact.{RestSame, TellsSameAt}
use Rattle.mc_core.specs.Words.{ContinuesAt}
use Rattle.mc_core.specs.declared.replica.Replica.{Replica}

-- after reads of which the last one alone may have failed
pub record LooksAt {K D : Type 0} {g : keeper.Ghosts K D} {h : counted.Ghosts K} {i : counted.Ghosts D}
    (told : K → Option Kept) (fuse : K → Option Fuse) (own faults : K → ℕ)
    (quiet : K → Bool) (schedule : K → Option Schedule) (failed : Bool) (old new : Replica K D g h i) : Type 0 where
  pub keeps : ContinuesAt told fuse own faults quiet schedule failed old new
  pub rest : RestSame old new
  pub same : TellsSameAt told fuse old new

module _ {K D : Type 0} {g : keeper.Ghosts K D} {h : counted.Ghosts K} {i : counted.Ghosts D} (k : Members K D) where
  abbrev pub Looks : Bool → Replica K D g h i → Replica K D g h i → Type 0
  Looks = LooksAt k.told k.fuse k.own k.faults k.quiet k.schedule

-- The same of a loop over reads, in a proof file.
abbrev pub HasLooked : {K D : Type 0} {i : counted.Ghosts D} (k : keeper.Ghosts K D) (c : counted.Ghosts K)
    → Replica K D k c i → Replica K D k c i → Type 0
HasLooked k c = LooksAt k.told k.fuse k.own c.faults k.quiet k.schedule false
