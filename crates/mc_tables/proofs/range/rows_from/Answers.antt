use Rattle.std.proofs.Common.{inl, inr, ◌∙◌}
use Rattle.mc_tables.specs.Places.{value_in}
use Rattle.mc_tables.specs.Values.{row_in}
use Rattle.mc_tables.proofs.ListedFacts.{listing_start, listing_more, listed_past}
use Rattle.mc_tables.proofs.range.rows_from.Goals as goal

pub loop-key-init : goal.loop-key-init
loop-key-init g c = listing_start (row_in c.args.elements.now.nodes.items (value_in c.args.elements.now.keys)) c.into_iter-key-iterator.result c.args.most c.new-rows.result c.new-rows.ensures

pub loop-key-preserved : goal.loop-key-preserved
loop-key-preserved g c =
    listing_more (row_in c.args.elements.now.nodes.items (value_in c.args.elements.now.keys)) c.into_iter-key-iterator.result c.loop-key.yielded c.loop-key.key-iterator c.next.new.self c.args.most c.loop-key.rows c.add_row.new.rows c.in-Some.key c.as_str.result.now
    c.in-Some.ensures.steps (c.is_full.ensures.room c.if-is_full.false) c.as_str.ensures.value c.in_ok-add_row.ensures c.loop-key.invariant

pub returns-then-is_full : goal.returns-then-is_full
returns-then-is_full g c =
    listed_past c.args.ordered.now c.args.bound.now c.args.inclusive c.args.elements.now.nodes.items (value_in c.args.elements.now.keys) c.into_iter-key-iterator.result c.loop-key.yielded c.loop-key.key-iterator c.args.most c.loop-key.rows
    (c.into_iter-key-iterator.ensures.into_iter_gives ∙ c.in_ok-keys.ensures.keys) c.in_ok-keys.ensures.sorted c.requires.covered (inl (c.is_full.ensures.full c.if-is_full.true)) c.loop-key.invariant

pub returns : goal.returns
returns g c =
    listed_past c.args.ordered.now c.args.bound.now c.args.inclusive c.args.elements.now.nodes.items (value_in c.args.elements.now.keys) c.into_iter-key-iterator.result c.loop-key.yielded c.loop-key.key-iterator c.args.most c.loop-key.rows
    (c.into_iter-key-iterator.ensures.into_iter_gives ∙ c.in_ok-keys.ensures.keys) c.in_ok-keys.ensures.sorted c.requires.covered (inr c.in-None.ensures.steps.0) c.loop-key.invariant
