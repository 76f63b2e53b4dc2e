use Rattle.std.proofs.Common.{ℕ, ap, get_or, refl, length, set}
use Rattle.std.specs.Prelude.{unwrap_or}
use Rattle.std.proofs.lemmas.Option.{slice_get_read}
use Rattle.mc_seats.specs.Asks.{focus}
use Rattle.mc_acts.proofs.LiftFacts.{call_is, call_says, call_sets, call_within, lift}
use Rattle.mc_acts.proofs.PastsFacts.{fits_set, fits_there}
use Rattle.mc_acts.proofs.places.call_in.Goals as goal

pub returns-clause-acts : goal.returns-clause-acts
returns-clause-acts g c = lift _ _ c.args.command.now (record { stands = slice_get_read c.args.world.now.seats.items (length c.args.world.now.seats.items) _ _ refl (call_within _ _ _ c.args.command.now c.requires.call c.requires.there) (rw (c.replica_of-r.ensures) at c.index_mut.ensures.value); seats = ap (λ (n : ℕ). set c.args.world.now.seats.items n c.call_at.new.seat) c.replica_of-r.ensures; desks = refl; bag = refl; down = refl; entries = refl }) (call_is _ c.args.command.now c.requires.call) _ _ (call_sets c.args.command.now c.requires.call) (call_says c.args.command.now c.requires.call) c.requires.there tt c.call_at.ensures.acts

pub call_at-requires-clause-fits : goal.call_at-requires-clause-fits
call_at-requires-clause-fits g c =
    fits_there _ c.args.world.now.seats.items _ c.args.pasts.now _ _ _
    (slice_get_read c.args.world.now.seats.items (length c.args.world.now.seats.items) _ _ refl (call_within _ _ _ c.args.command.now c.requires.call c.requires.there) (rw (c.replica_of-r.ensures) at c.index_mut.ensures.value))
    c.requires.fits (call_within _ _ _ c.args.command.now c.requires.call c.requires.there) (rw (c.replica_of-r.ensures) (ap (get_or c.args.pasts.now (unwrap_or (focus c.args.command.now) 0)) (rw (c.replica_of-r.ensures) at c.index-pasts-r.is)))

pub returns-clause-fits : goal.returns-clause-fits
returns-clause-fits g c =
    rw (c.replica_of-r.ensures) (fits_set _ c.args.world.now.seats.items _ c.args.pasts.now _ _ _
    (slice_get_read c.args.world.now.seats.items (length c.args.world.now.seats.items) _ _ refl (call_within _ _ _ c.args.command.now c.requires.call c.requires.there) (rw (c.replica_of-r.ensures) at c.index_mut.ensures.value))
    c.requires.fits c.call_at.ensures.fits)
