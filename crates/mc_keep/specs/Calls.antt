-- The words of `Frame`, at a bound `K: Keeper`.
use Rattle.std.specs.Prelude.{ℕ, Bool, false, Option}
use Rattle.mc_base.specs.declared.counted.Counted as counted
use Rattle.mc_model.specs.Kept.{Kept}
use Rattle.mc_model.specs.declared.layout.Layout.{Layout}
use Rattle.mc_keep.specs.declared.fuse.Fuse.{Fuse}
use Rattle.mc_keep.specs.declared.keeper.Keeper as keeper
use Rattle.mc_keep.specs.Frame.{ReadsAt, ReservesAt, CommitsAt, GoesAt}
use Rattle.mc_keep.specs.Plan.{Schedule, DeskSchedule}

-- what `K.Keeper` is in a clause: the ghost members of `Counted` and of `Keeper`
abbrev pub Members : Type 0 → Type 0 → Type 0
Members K D = record {
  faults : K → ℕ;
  told : K → Option Kept;
  layout : K → Layout;
  spare : K → ℕ;
  fuse : K → Option Fuse;
  own : K → ℕ;
  quiet : K → Bool;
  quiet_desk : D → Bool;
  schedule : K → Option Schedule;
  desk_schedule : D → Option DeskSchedule;
}

module _ {K D : Type 0} (k : Members K D) where
  abbrev pub Reads : Bool → K → K → Type 0
  Reads = ReadsAt k.told k.layout k.fuse k.spare k.own k.faults k.quiet k.schedule

  abbrev pub Reserves : K → K → Type 0
  Reserves = ReservesAt k.told k.layout k.fuse k.spare k.own k.faults k.quiet k.schedule

  abbrev pub Commits : ℕ → Bool → K → K → Type 0
  Commits = CommitsAt k.told k.fuse k.spare k.own k.faults k.quiet

  abbrev pub Goes : Bool → K → K → Type 0
  Goes = GoesAt k.told k.fuse k.own k.faults k.quiet k.schedule

-- The same of a loop over reads, in a proof file: `HasRead g.K.Keeper g.K.Counted l.fn.keeper l.keeper`.
abbrev pub HasRead : {K D : Type 0} → keeper.Ghosts K D → counted.Ghosts K → K → K → Type 0
HasRead k c = ReadsAt k.told k.layout k.fuse k.spare k.own c.faults k.quiet k.schedule false
