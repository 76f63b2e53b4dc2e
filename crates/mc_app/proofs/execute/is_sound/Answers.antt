use Rattle.mc_app.proofs.PastsFacts.{seats_kept}
use Rattle.mc_app.proofs.execute.is_sound.Goals as goal

pub returns : goal.returns
returns g c = seats_kept g.K.Keeper.told g.K.Keeper.fuse g.met.K.Keeper.sound c.args.world.now.seats.items
