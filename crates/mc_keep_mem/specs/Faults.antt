-- Which further calls of a keeper fail.
use Rattle.std.specs.Prelude.{Bool, ◌&&◌}
use Rattle.std.specs.List.{list_all}
use Rattle.mc_keep.specs.Plan.{Schedule}
use Rattle.mc_keep_mem.specs.declared.plan.Faults.{Faults}
use Rattle.mc_keep_mem.specs.Plan.{is_nothing}

-- whether no call of the keeper and of its further desks fails
abbrev pub fails_never : Faults → Bool
fails_never faults =
    is_nothing faults.before
    && (is_nothing faults.after && (is_nothing faults.failing && list_all is_nothing faults.desks.items))

abbrev pub schedule_of : Faults → Schedule
schedule_of faults =
    record {
      reads = faults.failing;
      before = faults.before;
      after = faults.after;
      reads_made = faults.reads;
      commits_made = faults.commits;
      desks = faults.desks.items;
    }
