use Rattle.mc_block.proofs.LinkFacts.{text_next, texts_all, text_stops}
use Rattle.mc_block.proofs.read.read_links.Goals as goal

pub returns-in-None-clause-damaged : goal.returns-in-None-clause-damaged
returns-in-None-clause-damaged c = text_stops c.args.links.now c.loop-link.link-index c.len.result c.loop-link.cids _ c.read_cid.result c.loop-link.invariant c.loop-link-test.true c.read_cid.ensures c.in-None.is c.len.ensures

pub loop-link-preserved : goal.loop-link-preserved
loop-link-preserved c = rw c.in_ok-push-in-Some.ensures.ok (text_next c.args.links.now c.loop-link.link-index c.loop-link.cids _ c.in-Some.cid c.read_cid.result c.loop-link.invariant c.loop-link-test.true c.read_cid.ensures c.in-Some.is)

pub returns-clause-good : goal.returns-clause-good
returns-clause-good c = texts_all c.args.links.now c.loop-link.link-index c.loop-link.cids c.loop-link.invariant c.loop-link-test.false
