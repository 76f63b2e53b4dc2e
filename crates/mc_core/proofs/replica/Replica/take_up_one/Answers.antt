use Rattle.mc_plan.proofs.TakenFacts.{one_done, one_failed}
use Rattle.std.proofs.Common.{refl}
use Rattle.mc_core.proofs.Keeps.{commit_more, looks_first, looks_on, stops_once}
use Rattle.mc_plan.proofs.SoundFacts.{looks_down}
use Rattle.mc_core.specs.Replica.{running_of}
use Rattle.mc_core.proofs.replica.Replica.take_up_one.Goals as goal

pub returns-in-Err-carry_out-clause-takes : goal.returns-in-Err-carry_out-clause-takes
returns-in-Err-carry_out-clause-takes g c =
    one_failed c.kept_is_durable.ensures.back _ _ _ _ _ _ _ c.args.made c.in-Ok.uptake _ _ _ c.in-Ok.ensures.reads.told_same c.in-Ok.ensures.reads.fuse_same c.in-Ok.ensures.reads.own_goes.later c.in-Ok.ensures.uptake c.in-Err-carry_out.ensures.part

pub returns-in-Ok-carry_out-clause-keeps : goal.returns-in-Ok-carry_out-clause-keeps
returns-in-Ok-carry_out-clause-keeps g c = commit_more (looks_first c.in-Ok.ensures.reads refl (record { walk_same = refl; batch_same = refl; whole_same = refl; inbox_same = refl })) c.in-Ok-carry_out.ensures.keeps

pub returns-in-Err-carry_out-clause-keeps : goal.returns-in-Err-carry_out-clause-keeps
returns-in-Err-carry_out-clause-keeps g c = commit_more (looks_first c.in-Ok.ensures.reads refl (record { walk_same = refl; batch_same = refl; whole_same = refl; inbox_same = refl })) c.in-Err-carry_out.ensures.keeps

pub returns-in-Err-clause-keeps : goal.returns-in-Err-clause-keeps
returns-in-Err-clause-keeps g c = record {
  rest_same = record { walk_same = refl; batch_same = refl; whole_same = refl; inbox_same = refl };
  continues = looks_on c.in-Err.ensures.reads (stops_once _ _ _ c.requires.up c.stops-self.ensures);
}

pub returns-in-Ok-carry_out-clause-takes : goal.returns-in-Ok-carry_out-clause-takes
returns-in-Ok-carry_out-clause-takes g c =
    one_done c.kept_is_durable.ensures.back _ _ _ _ _ _ _ c.args.made c.in-Ok.uptake c.in-Ok.ensures.reads.told_same c.in-Ok.ensures.reads.fuse_same c.in-Ok.ensures.uptake c.in-Ok-carry_out.ensures.part

pub invariant_of-self-in-Err-clause-sound : goal.invariant_of-self-in-Err-clause-sound
invariant_of-self-in-Err-clause-sound g c = looks_down _ _ _ _ (running_of c.args.self.now) c.requires.up c.in-Err.ensures.reads.told_same c.args.self.now.sound
