use Rattle.std.proofs.Common.{rules, ap}
use Rattle.mc_keep.proofs.Frames.{read_itself, read_more}
use Rattle.mc_news.specs.Keys.{keys_of}
use Rattle.mc_news.proofs.ValueFacts.{keys_more, values_more, values_none}
use Rattle.mc_news.proofs.values.values_of.Goals as goal

pub loop-key-init : goal.loop-key-init
loop-key-init g c = record { keys = ap keys_of c.new-changes.ensures; values = values_none _ _ c.new-changes.ensures; reads = read_itself c.args.keeper.now }

pub loop-key-preserved : goal.loop-key-preserved
loop-key-preserved g c = record {
  keys = keys_more _ _ c.in_ok-change.change c.args.keys.now c.loop-key.key-index _ (search (rules, c.loop-key-test.true)) c.in_ok-change.ensures.key c.in_ok-add.ensures c.loop-key.invariant.keys;
  values = values_more _ _ _ _ c.in_ok-change.change _ c.loop-key.invariant.reads.told_same c.in_ok-add.ensures c.in_ok-change.ensures.key c.loop-key.invariant.values c.in_ok-change.ensures.value;
  reads = read_more c.loop-key.invariant.reads c.in_ok-change.ensures.reads;
}
