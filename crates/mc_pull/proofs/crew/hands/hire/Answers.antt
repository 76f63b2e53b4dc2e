use Rattle.std.proofs.Common.{◌∙◌, ap, arith}
use Rattle.mc_node.specs.Entries.{is_sealed_log}
use Rattle.mc_pull.proofs.Hiring.{hiring_fits, hiring_on, hiring_parts}
use Rattle.mc_pull.proofs.crew.hands.hire.Goals as goal

pub split-other-requires-clause-parts : goal.split-other-requires-clause-parts
split-other-requires-clause-parts g c = hiring_parts _ _ _ _ _ _ _ _ _ _ _ c.loop-fetch.invariant _ _ c.in-Some.ensures.items

pub hand_of-requires-clause-sealed : goal.hand_of-requires-clause-sealed
hand_of-requires-clause-sealed g c = ap is_sealed_log (ap (λ v. v.seen) c.split-other.ensures.right ∙ c.loop-fetch.invariant.same) ∙ c.requires.sealed

pub hand_of-requires-clause-fits : goal.hand_of-requires-clause-fits
hand_of-requires-clause-fits g c = hiring_fits _ _ _ _ _ _ _ _ _ _ _ c.loop-fetch.invariant _ _ c.in-Some.ensures.items

pub loop-fetch-preserved : goal.loop-fetch-preserved
loop-fetch-preserved g c =
    hiring_on _ _ _ _ _ _ _ _ _ _ _ c.loop-fetch.invariant c.in-Some.fetch _ c.hand_of.result _ _ _ _ _ c.in-Some.ensures.items c.split-other.ensures.own.0
    (ap (λ v. v.parts) c.split-other.ensures.left) (ap (λ v. v.seen) c.split-other.ensures.left) c.hand_of.ensures.ready c.hand_of.ensures.fetch c.push_reserved.ensures.items (omega (arith, c.push_reserved.ensures.capacity))
