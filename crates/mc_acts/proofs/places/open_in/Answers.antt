use Rattle.std.proofs.Common.{rules, refl}
use Rattle.std.specs.Prelude.{vec_len}
use Rattle.mc_script.specs.declared.command.Command.TheVariants.{Open}
use Rattle.mc_seats.specs.Doing.{Tends}
use Rattle.mc_seats.specs.Tending.{opens}
use Rattle.mc_acts.proofs.LiftFacts.{lift, one_of, within_places}
use Rattle.mc_seats.proofs.SeatFacts.{replaced, same_length, still_desked, still_roomy}
use Rattle.mc_acts.proofs.places.open_in.Goals as goal

pub invariant_of-world : goal.invariant_of-world
invariant_of-world g c = let same = same_length _ _ _ _ _ _ c.take_at-seat.ensures.taken c.take_at-seat.ensures.items c.put_at.ensures in record {
  desked = still_desked _ _ _ same (search rules);
  counted = c.args.world.now.counted;
  empty = search rules;
  roomy = still_roomy _ _ _ same c.args.world.now.roomy;
}

pub returns : goal.returns
returns g c = record { acts = lift _ _ (Open c.args.r) (record { stands = c.take_at-seat.ensures.taken; seats = replaced _ _ _ _ _ _ c.take_at-seat.ensures.taken c.take_at-seat.ensures.items c.put_at.ensures; desks = refl; bag = refl; down = refl; entries = refl }) (one_of _ c.args.r (Tends opens) refl) _ _ (λ w reply. refl) (λ w reply. tt) (within_places _ c.args.world.now.seats.items (vec_len c.args.world.now.seats) _ (search rules) c.requires.there) tt c.open_at-seat.ensures.acts }
