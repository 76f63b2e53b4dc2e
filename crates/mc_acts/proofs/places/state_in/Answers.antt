use Rattle.std.proofs.Common.{rules, refl}
use Rattle.std.specs.Prelude.{vec_len}
use Rattle.std.proofs.lemmas.Option.{slice_get_read}
use Rattle.mc_script.specs.declared.command.Command.TheVariants.{State}
use Rattle.mc_seats.specs.Doing.{Tends}
use Rattle.mc_seats.specs.Tending.{counts}
use Rattle.mc_acts.proofs.LiftFacts.{lift, one_of, within_places}
use Rattle.mc_acts.proofs.places.state_in.Goals as goal

pub returns : goal.returns
returns g c = record { acts = lift _ _ (State c.args.r) (record { stands = slice_get_read c.args.world.now.seats.items (vec_len c.args.world.now.seats) _ _ (search rules) c.requires.there c.index_mut.ensures.value; seats = refl; desks = refl; bag = refl; down = refl; entries = refl }) (one_of _ c.args.r (Tends counts) refl) _ _ (λ w reply. refl) (λ w reply. tt) (within_places _ c.args.world.now.seats.items (vec_len c.args.world.now.seats) _ (search rules) c.requires.there) tt c.state_at.ensures.acts }
