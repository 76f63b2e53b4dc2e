use Rattle.mc_block.proofs.OfferFacts.{too_large, another_digest, as_node}
use Rattle.mc_block.proofs.read.check_digest.Goals as goal

pub returns-then-bytes-gt-BLOCK_MOST-clause-damaged : goal.returns-then-bytes-gt-BLOCK_MOST-clause-damaged
returns-then-bytes-gt-BLOCK_MOST-clause-damaged c = too_large c.args.cid.now c.args.bytes.now c.if-bytes-gt-BLOCK_MOST.true

pub returns-then-ne-clause-damaged : goal.returns-then-ne-clause-damaged
returns-then-ne-clause-damaged c = another_digest c.args.cid.now c.args.bytes.now c.of-found.result.0 c.ne.result c.if-bytes-gt-BLOCK_MOST.false c.of-found.ensures c.ne.ensures c.if-ne.true

pub returns-clause-sound : goal.returns-clause-sound
returns-clause-sound c = as_node c.args.cid.now c.args.bytes.now c.of-found.result.0 c.ne.result c.if-bytes-gt-BLOCK_MOST.false c.of-found.ensures c.ne.ensures c.if-ne.false
