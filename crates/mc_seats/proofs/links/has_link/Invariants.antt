use Rattle.std.proofs.Common.{◌≡◌, false, take}
use Rattle.std.specs.List.{list_any}
use Rattle.mc_seats.specs.Worlds.{joins}
use Rattle.mc_seats.proofs.links.has_link.Given as goal

abbrev pub invariant-loop-link : goal.invariant-loop-link
invariant-loop-link l = list_any (joins l.fn.r l.fn.other) (take l.link-index l.down) ≡ false
