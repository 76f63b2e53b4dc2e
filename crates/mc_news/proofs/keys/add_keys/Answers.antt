use Rattle.std.proofs.Common.{rules}
use Rattle.mc_news.specs.Keys.{texts_of}
use Rattle.mc_news.proofs.KeyFacts.{keys_more}
use Rattle.mc_news.proofs.keys.add_keys.Goals as goal

pub loop-block-preserved : goal.loop-block-preserved
loop-block-preserved c =
    keys_more (texts_of c.args.keys.now.items) (texts_of c.loop-block.keys.items) _ c.args.blocks.now c.loop-block.block-index c.block-item.result (search (rules, c.loop-block-test.true)) c.block-item.is c.loop-block.invariant c.in_ok-add_block_keys.ensures
