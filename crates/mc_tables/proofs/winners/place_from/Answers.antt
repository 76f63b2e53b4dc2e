use Rattle.std.proofs.Common.{◌∙◌, sym}
use Rattle.std.specs.Prelude.{find}
use Rattle.mc_keep.specs.LiveRows.{is_row_of}
use Rattle.mc_tables.specs.Values.{ranked_in}
use Rattle.mc_tables.proofs.PruneFacts.{got_in}
use Rattle.mc_tables.proofs.WalkFacts.{walk_begins, walk_steps, walk_ends, row_passed, row_here}
use Rattle.mc_tables.proofs.winners.place_from.Goals as goal

pub loop-at-init : goal.loop-at-init
loop-at-init g c = walk_begins (find (is_row_of c.args.cid.now (ranked_in c.args.held.now))) c.args.elements.now.chains (sym c.requires.last)

pub loop-at-smaller : goal.loop-at-smaller
loop-at-smaller g c = rw c.place-at.ensures ((walk_steps c.args.elements.now.chains.back c.loop-at.invariant c.in-Some.is c.deref.ensures.value c.in-Some-get.ensures.lookup.0 c.in-Some-get.ensures.lookup.1).fewer)

pub loop-at-preserved : goal.loop-at-preserved
loop-at-preserved g c =
    rw c.place-at.ensures
    (row_passed (is_row_of c.args.cid.now (ranked_in c.args.held.now))
    (walk_steps c.args.elements.now.chains.back c.loop-at.invariant c.in-Some.is c.deref.ensures.value c.in-Some-get.ensures.lookup.0 c.in-Some-get.ensures.lookup.1)
    (sym c.is_of_block.ensures ∙ c.if-is_of_block.false))

pub returns-then-is_of_block-clause-row : goal.returns-then-is_of_block-clause-row
returns-then-is_of_block-clause-row g c =
    row_here (is_row_of c.args.cid.now (ranked_in c.args.held.now))
    (walk_steps c.args.elements.now.chains.back c.loop-at.invariant c.in-Some.is c.deref.ensures.value c.in-Some-get.ensures.lookup.0 c.in-Some-get.ensures.lookup.1)
    c.in-Some.place
    (got_in c.args.elements.now.nodes.items c.deref.result.now c.in-Some.place c.in-Some-get.node.now c.deref.ensures.value c.in-Some-get.ensures.lookup.0 c.in-Some-get.ensures.lookup.1)
    (sym c.is_of_block.ensures ∙ c.if-is_of_block.true)

pub returns-clause-row : goal.returns-clause-row
returns-clause-row g c = sym (walk_ends c.loop-at.invariant c.in_default.not-Some)
