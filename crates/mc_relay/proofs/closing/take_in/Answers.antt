use Rattle.std.proofs.Common.{◌∙◌, ap, refl}
use Rattle.crossbeam_queue.specs.Passes.{view}
use Rattle.mc_relay.specs.Items.{IsRight}
use Rattle.mc_relay.proofs.EndFacts.{taking_on}
use Rattle.mc_relay.proofs.PassFacts.{takes_in}
use Rattle.mc_relay.proofs.closing.take_in.Goals as goal

pub absorb-requires-clause-rule : goal.absorb-requires-clause-rule
absorb-requires-clause-rule g c = takes_in (IsRight g.J.Naming.found) _ _ _ _ (ap (λ v. v.takes) c.loop-giver.invariant.is ∙ c.requires.takes) c.in-Some.giver.gives

pub loop-giver-preserved : goal.loop-giver-preserved
loop-giver-preserved g c =
    let q = c.absorb.ensures.queue in
    taking_on _ _ _ _ _ _ _ c.loop-giver.invariant c.in-Some.giver _ _ (view c.in-Some.giver.pass) _ c.in-Some.ensures.items c.absorb.ensures.rule refl (q.0 ∙ c.loop-giver.invariant.own.0, q.2 ∙ c.loop-giver.invariant.own.1)
