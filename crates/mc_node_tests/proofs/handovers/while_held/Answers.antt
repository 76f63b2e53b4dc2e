use Rattle.std.proofs.Common.{[], ap, append-nil}
use Rattle.mc_node.specs.Items.{is_root}
use Rattle.mc_node.proofs.SeatFacts.{begins_given, extends_itself}
use Rattle.mc_node_tests.proofs.handovers.while_held.Goals as goal

pub give-requires-clause-extends : goal.give-requires-clause-extends
give-requires-clause-extends g c = extends_itself _ _ (ap (λ v. v.held) c.take-held.ensures.held.2)

pub invariant_of-other : goal.invariant_of-other
invariant_of-other g c = record {
  rooted = begins_given is_root _ _ _ _ c.take-held.ensures.taken.seen ([], append-nil _) (ap (λ v. v.seen) c.give.ensures.given) c.args.other.now.rooted;
  idle = ap (λ v. v.held) c.give.ensures.given;
}
