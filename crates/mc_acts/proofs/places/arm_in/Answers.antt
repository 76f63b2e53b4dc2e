use Rattle.std.proofs.Common.{rules, refl}
use Rattle.std.specs.Prelude.{vec_len}
use Rattle.std.proofs.lemmas.Option.{slice_get_read}
use Rattle.mc_acts.proofs.LiftFacts.{arm_is, arm_says, arm_sets, arm_there, lift, within_places}
use Rattle.mc_acts.proofs.places.arm_in.Goals as goal

pub returns : goal.returns
returns g c = record { acts = lift _ _ _ (record { stands = slice_get_read c.args.world.now.seats.items (vec_len c.args.world.now.seats) _ _ (search rules) c.requires.there c.index_mut.ensures.value; seats = refl; desks = refl; bag = refl; down = refl; entries = refl }) (arm_is _ c.args.r c.args.commit c.args.after) _ _ (arm_sets c.args.r c.args.commit c.args.after) (arm_says c.args.r c.args.commit c.args.after) (arm_there _ _ c.args.r c.args.commit c.args.after (within_places _ c.args.world.now.seats.items (vec_len c.args.world.now.seats) _ (search rules) c.requires.there)) tt (c.arm_at.ensures.acts c.args.r) }
