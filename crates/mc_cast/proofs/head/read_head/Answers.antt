use Rattle.std.proofs.Common.{◌∙◌, ap, option_map}
use Rattle.mc_cast.specs.Steps.{digest, digest_after}
use Rattle.mc_cast.proofs.HeadFacts.{head_next}
use Rattle.mc_cast.proofs.head.read_head.Goals as goal

pub loop-field-preserved : goal.loop-field-preserved
loop-field-preserved c =
    head_next _ _ _ _ c.in-Some.field c.loop-field.invariant (rw c.in-Some.is at c.in_ok-field.ensures.field)
    (c.cid_after-cid.ensures ∙ ap (digest_after (option_map digest c.loop-field.cid)) c.part_of.ensures)
