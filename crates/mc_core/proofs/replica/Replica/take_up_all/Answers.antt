use Rattle.std.proofs.Common.{◌∙◌, sym}
use Rattle.std.proofs.lemmas.Iterator.Adapters.{YieldsList-from_vec}
use Rattle.std.proofs.lemmas.Iterator.Consumers.{YieldsList-turn, YieldsList-so_far}
use Rattle.mc_plan.proofs.DeleteFacts.{rest_of}
use Rattle.mc_core.proofs.Keeps.{commit_itself, commit_more}
use Rattle.mc_plan.proofs.TakenFacts.{first_told, second_told, next_told, taken_goes_on, taken_ends, taken_none}
use Rattle.mc_core.proofs.replica.Replica.take_up_all.Goals as goal

pub take_up_one-requires-clause-new : goal.take_up_one-requires-clause-new
take_up_one-requires-clause-new g c =
    let road = YieldsList-from_vec {s = c.into_iter-made-iterator.result} c.into_vec-made-items.result.items c.into_iter-made-iterator.ensures.into_iter_gives.0 (c.into_iter-made-iterator.ensures.into_iter_gives.1 ∙ c.into_vec-made-items.result.ok.0) in
    let turn = YieldsList-turn road c.loop-made.yielded c.loop-made.made-iterator c.loop-made.yielded_by c.next.result c.next.new.self c.in-Some.made c.in-Some.is c.next.ensures.steps in
    let so_far = YieldsList-so_far road c.loop-made.yielded c.loop-made.made-iterator c.loop-made.yielded_by in
    let rest = rest_of c.loop-made.yielded c.into_vec-made-items.result.items c.in-Some.made so_far turn.0 turn.1 in
    first_told _ _ _ (next_told c.kept_is_durable.ensures.back _ _ _ _ _ _ _ _ _ c.in-Some.made rest.0 c.args.blocks c.requires.up (sym c.into_vec-made-items.ensures ∙ rest.1) c.loop-made.invariant.keeps.continues.keeper_goes.silent c.requires.next c.loop-made.invariant.taken)

pub take_up_one-requires-clause-stored : goal.take_up_one-requires-clause-stored
take_up_one-requires-clause-stored g c =
    let road = YieldsList-from_vec {s = c.into_iter-made-iterator.result} c.into_vec-made-items.result.items c.into_iter-made-iterator.ensures.into_iter_gives.0 (c.into_iter-made-iterator.ensures.into_iter_gives.1 ∙ c.into_vec-made-items.result.ok.0) in
    let turn = YieldsList-turn road c.loop-made.yielded c.loop-made.made-iterator c.loop-made.yielded_by c.next.result c.next.new.self c.in-Some.made c.in-Some.is c.next.ensures.steps in
    let so_far = YieldsList-so_far road c.loop-made.yielded c.loop-made.made-iterator c.loop-made.yielded_by in
    let rest = rest_of c.loop-made.yielded c.into_vec-made-items.result.items c.in-Some.made so_far turn.0 turn.1 in
    second_told _ _ _ (next_told c.kept_is_durable.ensures.back _ _ _ _ _ _ _ _ _ c.in-Some.made rest.0 c.args.blocks c.requires.up (sym c.into_vec-made-items.ensures ∙ rest.1) c.loop-made.invariant.keeps.continues.keeper_goes.silent c.requires.next c.loop-made.invariant.taken)

pub loop-made-init : goal.loop-made-init
loop-made-init g c = record { taken = taken_none _ _ _; up = c.requires.up; keeps = commit_itself c.args.self.now }

pub loop-made-preserved : goal.loop-made-preserved
loop-made-preserved g c = record {
  taken = taken_goes_on c.kept_is_durable.ensures.back _ _ _ _ _ _ _ c.in-Some.made c.requires.up c.loop-made.invariant.taken c.in-Ok.ensures.takes;
  up = c.in-Ok.ensures.up;
  keeps = commit_more c.loop-made.invariant.keeps c.in-Ok.ensures.keeps;
}

pub returns-in-Err-clause-takes : goal.returns-in-Err-clause-takes
returns-in-Err-clause-takes g c =
    let road = YieldsList-from_vec {s = c.into_iter-made-iterator.result} c.into_vec-made-items.result.items c.into_iter-made-iterator.ensures.into_iter_gives.0 (c.into_iter-made-iterator.ensures.into_iter_gives.1 ∙ c.into_vec-made-items.result.ok.0) in
    let turn = YieldsList-turn road c.loop-made.yielded c.loop-made.made-iterator c.loop-made.yielded_by c.next.result c.next.new.self c.in-Some.made c.in-Some.is c.next.ensures.steps in
    let so_far = YieldsList-so_far road c.loop-made.yielded c.loop-made.made-iterator c.loop-made.yielded_by in
    let rest = rest_of c.loop-made.yielded c.into_vec-made-items.result.items c.in-Some.made so_far turn.0 turn.1 in
    taken_ends c.kept_is_durable.ensures.back _ _ _ _ _ _ _ c.in-Some.made rest.0 c.args.blocks _ _ _ c.in-Err.error c.requires.up c.loop-made.invariant.keeps.continues.keeper_goes.own_later (sym c.into_vec-made-items.ensures ∙ rest.1) c.loop-made.invariant.taken c.in-Err.ensures.takes

pub returns-in-Err-clause-keeps : goal.returns-in-Err-clause-keeps
returns-in-Err-clause-keeps g c = commit_more c.loop-made.invariant.keeps c.in-Err.ensures.keeps
