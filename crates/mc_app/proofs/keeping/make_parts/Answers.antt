use Rattle.std.proofs.Common.{arith, refl, rules, ◌∙◌}
use Rattle.mc_app.proofs.KeepingFacts.{made_more, making_ends, making_more, making_none}
use Rattle.mc_seats.proofs.MemberWords.{members}
use Rattle.mc_app.proofs.keeping.make_parts.Goals as goal

pub loop-index-preserved : goal.loop-index-preserved
loop-index-preserved g c = let inv = c.loop-index.invariant in record {
  making = rw c.push_reserved.ensures.items (making_more _ _ _ _ _ _ _ _ _ inv.making (λ index. inv.starts_same c.args.plan.now index) (inv.quiet_same c.args.plan.now) c.in-Ok-make_part.ensures.told c.in-Ok-make_part.ensures.fresh c.in-Ok-make_part.ensures.counted c.in-Ok-make_part.ensures.calm c.in-Ok-make_part.ensures.plain);
  made = rw c.push_reserved.ensures.items (made_more g.K.Keepers.makes c.args.plan.now _ _ _ _ _ _ inv.made inv.making.many c.in-Ok-make_part.ensures.made);
  starts_same = λ plan index. c.make_part.ensures.starts_same plan index ∙ inv.starts_same plan index;
  quiet_same = λ plan. c.make_part.ensures.quiet_same plan ∙ inv.quiet_same plan;
  lost_same = c.make_part.ensures.lost ∙ inv.lost_same;
  later = omega (arith, inv.later, c.make_part.ensures.later);
  room = omega (arith, inv.room, c.push_reserved.ensures.len, c.push_reserved.ensures.capacity);
}

pub returns-in-Err-clause-taken : goal.returns-in-Err-clause-taken
returns-in-Err-clause-taken g c = let inv = c.loop-index.invariant in
    making_ends g.K.Keepers.makes g.K.Keepers.takes (members g.K.K.Keeper g.K.K.Counted) c.args.plan.now _ _ _ _ _ _ _ _ _ inv.making (search rules) inv.made c.in-Err.ensures.unmade (rw c.from_vec.ensures at c.give_back.ensures.taken)

pub returns-clause-fresh : goal.returns-clause-fresh
returns-clause-fresh g c = rw c.from_vec-2.ensures c.loop-index.invariant.making.fresh

pub returns-clause-counted : goal.returns-clause-counted
returns-clause-counted g c = rw c.from_vec-2.ensures c.loop-index.invariant.making.counted

pub returns-clause-calm : goal.returns-clause-calm
returns-clause-calm g c = rw c.from_vec-2.ensures c.loop-index.invariant.making.calm

pub returns-clause-made : goal.returns-clause-made
returns-clause-made g c = rw c.from_vec-2.ensures c.loop-index.invariant.made

pub returns-clause-plain : goal.returns-clause-plain
returns-clause-plain g c = rw c.from_vec-2.ensures c.loop-index.invariant.making.plain

pub returns-in_default-clause-taken : goal.returns-in_default-clause-taken
returns-in_default-clause-taken g c = making_none g.K.Keepers.makes g.K.Keepers.takes (members g.K.K.Keeper g.K.K.Counted) c.args.plan.now _ c.args.keepers.now
