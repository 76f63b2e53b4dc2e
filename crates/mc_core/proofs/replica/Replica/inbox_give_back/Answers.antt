use Rattle.mc_plan.proofs.JobFacts.{happens_sound}
use Rattle.mc_group.proofs.GiveFacts.{given_told}
use Rattle.mc_core.specs.Replica.{running_of}
use Rattle.mc_core.proofs.replica.Replica.inbox_give_back.Goals as goal

pub returns-clause-goes : goal.returns-clause-goes
returns-clause-goes g c = given_told _ _ _ (running_of c.args.self.now) c.args.self.now.inbox.items _ c.give_back_all.ensures.queue

pub invariant_of-self-clause-sound : goal.invariant_of-self-clause-sound
invariant_of-self-clause-sound g c =
    happens_sound _ _ (g.K.Keeper.fuse c.args.self.now.keeper) _ (running_of c.args.self.now) _
    (given_told _ _ _ (running_of c.args.self.now) c.args.self.now.inbox.items _ c.give_back_all.ensures.queue) c.args.self.now.sound
