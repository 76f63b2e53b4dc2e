use Rattle.std.proofs.Common.{refl, length, ◌-◌, ◌∙◌, sym}
use Rattle.std.proofs.lemmas.Option.{slice_get_read}
use Rattle.mc_script.specs.declared.command.Command.TheVariants.{Import}
use Rattle.mc_seats.specs.Doing.{Imports}
use Rattle.mc_acts.proofs.LiftFacts.{import_within, imported_within, lift, one_of, text_is, text_within}
use Rattle.mc_acts.proofs.files.import_in.Goals as goal

pub returns : goal.returns
returns g c = record { acts = lift _ _ (Import c.args.r c.args.car) (record { stands = slice_get_read c.args.world.now.seats.items (length c.args.world.now.seats.items) _ _ refl (import_within _ c.args.world.now.seats.items c.args.world.now.bag c.args.r c.args.car c.requires.there) c.index_mut.ensures.value; seats = refl; desks = refl; bag = refl; down = refl; entries = refl }) (one_of _ c.args.r (Imports c.args.car) refl) _ _ (λ w reply. refl) (λ w reply. tt) c.requires.there (text_is c.args.world.now.bag.cars c.args.car c.index-as_slice-car.result (slice_get_read c.args.world.now.bag.cars (length c.args.world.now.bag.cars) (c.args.car - 1) _ refl (text_within c.args.world.now.bag.cars c.args.car (imported_within _ c.args.world.now.seats.items c.args.world.now.bag c.args.r c.args.car c.requires.there)) (rw (c.as_slice.ensures) at c.index-as_slice-car.is)) ∙ sym c.as_slice-file.ensures) (c.import_at.ensures.acts c.args.r c.args.car) }
