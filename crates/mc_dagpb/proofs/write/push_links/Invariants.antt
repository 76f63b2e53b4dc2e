use Rattle.std.proofs.Common.{◌≡◌, ◌++◌, take}
use Rattle.std.specs.List.{flat_map}
use Rattle.mc_base.specs.Node.{link_bytes}
use Rattle.mc_dagpb.proofs.write.push_links.Given as goal

abbrev pub invariant-loop-link : goal.invariant-loop-link
invariant-loop-link l = l.out ≡ l.initial.out ++ flat_map link_bytes (take l.link-index l.links)
