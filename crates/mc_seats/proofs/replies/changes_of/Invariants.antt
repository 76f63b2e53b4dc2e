use Rattle.std.proofs.Common.{◌≡◌, map}
use Rattle.mc_seats.specs.Doing.{change_of}
use Rattle.mc_seats.proofs.replies.changes_of.Given as goal

abbrev pub invariant-loop-event : goal.invariant-loop-event
invariant-loop-event l = l.changes ≡ map change_of l.yielded
