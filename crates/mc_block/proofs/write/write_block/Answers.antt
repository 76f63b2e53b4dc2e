use Rattle.std.proofs.Common.{◌∙◌, ap}
use Rattle.mc_base.specs.Cid.{digest_of}
use Rattle.mc_block.proofs.MadeFacts.{made_as}
use Rattle.mc_block.proofs.write.write_block.Goals as goal

pub returns-clause-good : goal.returns-clause-good
returns-clause-good c = made_as c.args.links.now c.args.delta.now c.of-cid.result c.in_ok-bytes.bytes c.in_ok-bytes.ensures (c.of-cid.ensures ∙ ap digest_of c.as_slice.ensures)
    (c.written_blocks_are_good.ensures.offered c.args.links.now c.args.delta.now c.fit_types.ensures)
