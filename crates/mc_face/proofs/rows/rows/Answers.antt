use Rattle.std.proofs.Common.{ap, map, arith, refl, rules, sym, ◌∙◌}
use Rattle.std.proofs.lemmas.List.{length-map}
use Rattle.mc_query.specs.Places.{pair_of}
use Rattle.mc_face.specs.Pairs.{pairs_of}
use Rattle.mc_face.specs.Rows.{rows_of}
use Rattle.mc_face.proofs.RowFacts.{listing_start, listing_passed, listing_more, listing_full, listing_ended}
use Rattle.mc_face.proofs.rows.rows.Goals as goal

pub loop-key-init : goal.loop-key-init
loop-key-init c =
    listing_start c.args.prefix.now c.in_ok-start.start c.in_ok-start.ensures c.args.values.now.entries c.into_iter-key-iterator.result (map pair_of c.new-rows.result) c.args.skip c.args.count
    (c.into_iter-key-iterator.ensures.into_iter_gives ∙ c.range-key-items.ensures.between (search rules)) (ap (map pair_of) c.new-rows.ensures) c.range-key-items.ensures.ordered

pub returns-then-is_full-clause-rows : goal.returns-then-is_full-clause-rows
returns-then-is_full-clause-rows c =
    listing_full c.args.prefix.now (rows_of (pairs_of c.args.values.now.entries) c.args.prefix.now c.args.skip c.args.count) c.args.count c.loop-key.key-iterator (map pair_of c.loop-key.rows) c.loop-key.left
    (omega (arith, c.is_full.ensures.full c.if-is_full.true, length-map c.loop-key.rows pair_of)) c.loop-key.invariant

pub returns-then-not-under-clause-rows : goal.returns-then-not-under-clause-rows
returns-then-not-under-clause-rows c =
    listing_ended c.args.prefix.now (rows_of (pairs_of c.args.values.now.entries) c.args.prefix.now c.args.skip c.args.count) c.args.count c.loop-key.key-iterator c.next.new.self
    (c.in-Some.key.now, c.in-Some.value.now) (map pair_of c.loop-key.rows) c.loop-key.left c.in-Some.ensures.steps c.loop-key.invariant c.as_str-key.result.now c.as_str-key.ensures.value (sym c.under.ensures ∙ c.if-not-under.true)

pub loop-key-preserved-then-left-gt0 : goal.loop-key-preserved-then-left-gt0
loop-key-preserved-then-left-gt0 c =
    listing_passed c.args.prefix.now (rows_of (pairs_of c.args.values.now.entries) c.args.prefix.now c.args.skip c.args.count) c.args.count c.loop-key.key-iterator c.next.new.self
    (c.in-Some.key.now, c.in-Some.value.now) (map pair_of c.loop-key.rows) c.loop-key.left c.in-Some.ensures.steps c.loop-key.invariant c.as_str-key.result.now c.as_str-key.ensures.value (sym c.under.ensures ∙ c.if-not-under.false) c.if-left-gt0.true

pub loop-key-preserved : goal.loop-key-preserved
loop-key-preserved c =
    listing_more c.args.prefix.now (rows_of (pairs_of c.args.values.now.entries) c.args.prefix.now c.args.skip c.args.count) c.args.count c.loop-key.key-iterator c.next.new.self
    (c.in-Some.key.now, c.in-Some.value.now) (map pair_of c.loop-key.rows) c.loop-key.left c.in-Some.ensures.steps c.loop-key.invariant c.as_str-key.result.now c.as_str-key.ensures.value (sym c.under.ensures ∙ c.if-not-under.false)
    (map pair_of c.push_pair.new.rows) c.in-Some.value.now refl (omega (arith, c.if-left-gt0.false)) (omega (arith, c.is_full.ensures.room c.if-is_full.false, length-map c.loop-key.rows pair_of)) c.in_ok-push_pair.ensures
