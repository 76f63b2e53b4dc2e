use Rattle.std.proofs.lemmas.Slice.Eq.{bytes_eq-Decides}
use Rattle.mc_base.specs.Cid.{digest_of}
use Rattle.mc_block.proofs.OfferFacts.{too_large, node_by}
use Rattle.mc_block.proofs.read.check_size.Goals as goal

pub returns-then-bytes-gt-BLOCK_MOST-clause-damaged : goal.returns-then-bytes-gt-BLOCK_MOST-clause-damaged
returns-then-bytes-gt-BLOCK_MOST-clause-damaged c = too_large c.args.cid.now c.args.bytes.now c.if-bytes-gt-BLOCK_MOST.true

pub returns-clause-sound : goal.returns-clause-sound
returns-clause-sound c = node_by c.args.cid.now c.args.bytes.now c.if-bytes-gt-BLOCK_MOST.false ((bytes_eq-Decides (digest_of c.args.bytes.now) c.args.cid.now.0).1 c.requires.digest)
