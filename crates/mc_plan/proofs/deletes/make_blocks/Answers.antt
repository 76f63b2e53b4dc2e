use Rattle.std.proofs.Common.{◌∙◌, sym, rules}
use Rattle.std.proofs.lemmas.Iterator.Adapters.{YieldsList-from_vec}
use Rattle.std.proofs.lemmas.Iterator.Consumers.{YieldsList-turn, YieldsList-so_far}
use Rattle.mc_keep.proofs.Frames.{read_itself, read_more}
use Rattle.mc_plan.proofs.DeleteFacts.{making_goes_on, making_fails, rest_of}
use Rattle.mc_plan.proofs.deletes.make_blocks.Goals as goal

pub loop-delta-init : goal.loop-delta-init
loop-delta-init g c = record { making = search rules; reads = read_itself c.args.keeper.now }

pub loop-delta-preserved : goal.loop-delta-preserved
loop-delta-preserved g c = record {
  making = making_goes_on _ _ _ _ _ _ _ _ c.loop-delta.invariant.making (rw c.loop-delta.invariant.reads.told_same at c.in-Ok.ensures.made);
  reads = read_more c.loop-delta.invariant.reads c.in-Ok.ensures.reads;
}

pub returns-in-Err-clause-refused : goal.returns-in-Err-clause-refused
returns-in-Err-clause-refused g c =
    let road = YieldsList-from_vec {s = c.into_iter-delta-iterator.result} c.into_vec-delta-items.result.items c.into_iter-delta-iterator.ensures.into_iter_gives.0 (c.into_iter-delta-iterator.ensures.into_iter_gives.1 ∙ c.into_vec-delta-items.result.ok.0) in
    let turn = YieldsList-turn road c.loop-delta.yielded c.loop-delta.delta-iterator c.loop-delta.yielded_by c.next.result c.next.new.self c.in-Some.delta c.in-Some.is c.next.ensures.steps in
    let so_far = YieldsList-so_far road c.loop-delta.yielded c.loop-delta.delta-iterator c.loop-delta.yielded_by in
    let rest = rest_of c.loop-delta.yielded c.into_vec-delta-items.result.items c.in-Some.delta so_far turn.0 turn.1 in
    making_fails _ _ _ rest.0 _ _ _ _ _ (sym c.into_vec-delta-items.ensures ∙ rest.1) c.loop-delta.invariant.making (rw c.loop-delta.invariant.reads.told_same at c.in-Err.ensures.refused)
