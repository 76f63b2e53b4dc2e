use Rattle.mc_plan.proofs.JobFacts.{requeue_told, happens_sound}
use Rattle.mc_core.specs.Replica.{running_of}
use Rattle.mc_core.proofs.replica.Replica.requeue.Goals as goal

pub returns-clause-goes : goal.returns-clause-goes
returns-clause-goes g c = requeue_told _ _ _ (running_of c.args.self.now) _ c.requeue.ensures.queue

pub invariant_of-self-clause-sound : goal.invariant_of-self-clause-sound
invariant_of-self-clause-sound g c = happens_sound _ _ (g.K.Keeper.fuse c.args.self.now.keeper) _ (running_of c.args.self.now) _ (requeue_told _ _ _ (running_of c.args.self.now) _ c.requeue.ensures.queue) c.args.self.now.sound
