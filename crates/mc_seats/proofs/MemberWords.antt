-- The members of a keeper, in a proof file.
use Rattle.mc_base.specs.declared.counted.Counted as counted
use Rattle.mc_keep.specs.Calls.{Members}
use Rattle.mc_keep.specs.declared.keeper.Keeper as keeper

-- what a clause has as `K.Keeper`
abbrev pub members : {K D : Type 0} → keeper.Ghosts K D → counted.Ghosts K → Members K D
members k c = record {
  faults = c.faults;
  told = k.told;
  layout = k.layout;
  spare = k.spare;
  fuse = k.fuse;
  own = k.own;
  quiet = k.quiet;
  quiet_desk = k.quiet_desk;
  schedule = k.schedule;
  desk_schedule = k.desk_schedule;
}
