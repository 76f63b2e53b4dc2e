use Rattle.std.proofs.Common.{rules, refl}
use Rattle.std.specs.Prelude.{vec_len}
use Rattle.std.proofs.lemmas.Option.{slice_get_read}
use Rattle.mc_script.specs.declared.command.Command.TheVariants.{Plant}
use Rattle.mc_seats.specs.Doing.{Tends}
use Rattle.mc_seats.specs.Tending.{plants}
use Rattle.mc_acts.proofs.LiftFacts.{lift, one_of, within_places}
use Rattle.mc_acts.proofs.places.plant_in.Goals as goal

pub returns : goal.returns
returns g c = record { acts = lift _ _ (Plant c.args.r c.args.cid.now c.args.bytes.now) (record { stands = slice_get_read c.args.world.now.seats.items (vec_len c.args.world.now.seats) _ _ (search rules) c.requires.there c.index_mut.ensures.value; seats = refl; desks = refl; bag = refl; down = refl; entries = refl }) (one_of _ c.args.r (Tends (plants c.args.cid.now c.args.bytes.now)) refl) _ _ (λ w reply. refl) (λ w reply. tt) (within_places _ c.args.world.now.seats.items (vec_len c.args.world.now.seats) _ (search rules) c.requires.there) tt c.plant_at.ensures.acts }
