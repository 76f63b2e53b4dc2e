use Rattle.std.proofs.Common.{◌∙◌, ap, refl, arith}
use Rattle.mc_node.specs.Entries.{is_open}
use Rattle.mc_writers.proofs.Gathering.{hiring_on, hiring_parts}
use Rattle.mc_writers.proofs.crews.hire.Goals as goal

pub split-other-requires-clause-parts : goal.split-other-requires-clause-parts
split-other-requires-clause-parts g c = hiring_parts _ _ _ _ _ _ _ _ _ _ c.loop-index.invariant c.loop-index-test.true

pub loop-index-preserved : goal.loop-index-preserved
loop-index-preserved g c =
    hiring_on _ _ _ _ _ _ _ _ _ _ c.loop-index.invariant _ _ _ _ _ _ (omega arith) c.loop-index-test.true c.split-other.ensures.own.0 c.split-other.ensures.left c.place.ensures.items c.place.ensures.capacity
    (record {
      own = c.split-other.ensures.own.1;
      unsealed = ap is_open (ap (λ v. v.seen) c.split-other.ensures.right ∙ c.loop-index.invariant.seen_same) ∙ c.requires.unsealed;
      unused = ap (λ v. v.mine) c.split-other.ensures.right;
    })
    refl (ap (λ v. v.parts) c.split-other.ensures.right)
