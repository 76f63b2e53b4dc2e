use Rattle.mc_plan.proofs.SoundFacts.{is_sound_told}
use Rattle.mc_core.specs.Replica.{running_of}
use Rattle.mc_core.proofs.replica.Replica.is_sound.Goals as goal

pub returns-clause-state : goal.returns-clause-state
returns-clause-state g c = is_sound_told _ (g.K.Keeper.fuse c.args.self.now.keeper) _ (running_of c.args.self.now) c.args.self.now.sound
