use Rattle.std.proofs.Common.{◌∙◌, sym, Bool, List, [], ℕ}
use Rattle.std.specs.Prelude.{find}
use Rattle.mc_model.specs.Rank.{same_ranked}
use Rattle.mc_keep.specs.declared.rows.ElementRow.{ElementRow}
use Rattle.mc_keep.specs.LiveRows.{ranked_of}
use Rattle.mc_tables.proofs.PruneFacts.{got_in}
use Rattle.mc_tables.proofs.WalkFacts.{walk_begins, walk_steps, walk_ends, row_passed, row_here}
use Rattle.mc_tables.proofs.rows.place_with.Goals as goal

-- whether a row has the value with the priority
abbrev has : ℕ → List ℕ → ElementRow → Bool
has priority value row = same_ranked (priority, value) (ranked_of row)

pub loop-at-init : goal.loop-at-init
loop-at-init g c = λ cids. walk_begins (find (has c.args.priority c.args.value.now)) c.args.elements.now.chains c.in-Some.ensures.last

pub loop-at-smaller : goal.loop-at-smaller
loop-at-smaller g c = rw c.place-at.ensures ((walk_steps c.args.elements.now.chains.back (c.loop-at.invariant []) c.in-Some-at.is c.deref.ensures.value c.in-Some-get.ensures.lookup.0 c.in-Some-get.ensures.lookup.1).fewer)

pub loop-at-preserved : goal.loop-at-preserved
loop-at-preserved g c = λ cids.
    rw c.place-at.ensures
    (row_passed (has c.args.priority c.args.value.now)
    (walk_steps c.args.elements.now.chains.back (c.loop-at.invariant cids) c.in-Some-at.is c.deref.ensures.value c.in-Some-get.ensures.lookup.0 c.in-Some-get.ensures.lookup.1)
    (sym c.has_value.ensures ∙ c.if-has_value.false))

pub returns-then-has_value-clause-row : goal.returns-then-has_value-clause-row
returns-then-has_value-clause-row g c = λ cids.
    row_here (has c.args.priority c.args.value.now)
    (walk_steps c.args.elements.now.chains.back (c.loop-at.invariant cids) c.in-Some-at.is c.deref.ensures.value c.in-Some-get.ensures.lookup.0 c.in-Some-get.ensures.lookup.1)
    c.in-Some-at.place
    (got_in c.args.elements.now.nodes.items c.deref.result.now c.in-Some-at.place c.in-Some-get.node.now c.deref.ensures.value c.in-Some-get.ensures.lookup.0 c.in-Some-get.ensures.lookup.1)
    (sym c.has_value.ensures ∙ c.if-has_value.true)

pub returns-clause-row : goal.returns-clause-row
returns-clause-row g c = λ cids. sym (walk_ends (c.loop-at.invariant cids) c.in_default-at.not-Some)
