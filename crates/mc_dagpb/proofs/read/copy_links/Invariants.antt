use Rattle.std.proofs.Common.{◌≡◌, take, map}
use Rattle.mc_dagpb.proofs.read.copy_links.Given as goal

abbrev pub invariant-loop-link : goal.invariant-loop-link
invariant-loop-link l = l.copies ≡ map (λ link. link.now) (take l.link-index l.links)
