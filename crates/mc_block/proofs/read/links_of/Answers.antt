use Rattle.mc_block.proofs.NamedFacts.{good_named, none_good}
use Rattle.mc_block.proofs.read.links_of.Goals as goal

pub returns-in-Ok-clause-good : goal.returns-in-Ok-clause-good
returns-in-Ok-clause-good c cid good = good_named c.args.bytes.now c.in-Ok.links c.in-Ok.ensures.good cid good

pub returns-in-Err-Damaged-clause-good : goal.returns-in-Err-Damaged-clause-good
returns-in-Err-Damaged-clause-good c cid good = none_good c.args.bytes.now _ c.new.result (rw c.in-Err-Damaged.field-0-is at c.in-Err-Damaged.ensures.damaged) c.new.ensures cid good
