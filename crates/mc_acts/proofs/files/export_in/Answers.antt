use Rattle.std.proofs.Common.{rules, refl}
use Rattle.std.specs.Prelude.{vec_len}
use Rattle.std.proofs.lemmas.Option.{slice_get_read}
use Rattle.mc_script.specs.declared.command.Command.TheVariants.{Export}
use Rattle.mc_seats.specs.Doing.{Exports}
use Rattle.mc_acts.proofs.LiftFacts.{asked_early, asked_err, asked_unsent, export_filed, export_many, one_of, within_places}
use Rattle.mc_acts.proofs.files.export_in.Goals as goal

pub returns-in-Err : goal.returns-in-Err
returns-in-Err g c = record { acts = asked_err _ _ Export (record { stands = slice_get_read c.args.world.now.seats.items (vec_len c.args.world.now.seats) _ _ (search rules) c.requires.there c.index_mut.ensures.value; seats = refl; desks = refl; bag = refl; down = refl; entries = refl }) (one_of _ c.args.r Exports refl) refl (λ s. refl) (within_places _ c.args.world.now.seats.items (vec_len c.args.world.now.seats) _ (search rules) c.requires.there) c.in-Err.error c.in-Err.ensures.acts }

pub returns-in-Ok-Err : goal.returns-in-Ok-Err
returns-in-Ok-Err g c = record { acts = asked_early _ _ Export (record { stands = slice_get_read c.args.world.now.seats.items (vec_len c.args.world.now.seats) _ _ (search rules) c.requires.there c.index_mut.ensures.value; seats = refl; desks = refl; bag = refl; down = refl; entries = refl }) (one_of _ c.args.r Exports refl) refl (λ s. refl) (within_places _ c.args.world.now.seats.items (vec_len c.args.world.now.seats) _ (search rules) c.requires.there) c.in-Ok-Err.reply (rw (c.in-Ok-Err.field-0-is) at c.in-Ok-Err.ensures.acts) }

pub returns-in-Ok-Ok-Err : goal.returns-in-Ok-Ok-Err
returns-in-Ok-Ok-Err g c = let acts = rw (c.in-Ok-Ok-Err.field-0-is, c.in-Ok-Ok-Err.field-0-0-is) at c.in-Ok-Ok-Err.ensures.acts in record { acts = export_many _ _ c.args.r _ _ _ _ c.in-Ok-Ok-Err.number (record { stands = slice_get_read c.args.world.now.seats.items (vec_len c.args.world.now.seats) _ _ (search rules) c.requires.there c.index_mut.ensures.value; seats = refl; desks = refl; bag = refl; down = refl; entries = refl }) acts.sent acts.goes }

pub returns-in-Ok : goal.returns-in-Ok
returns-in-Ok g c = let acts = rw (c.in-Ok-Ok-Ok.field-0-is, c.in-Ok-Ok-Ok.field-0-0-is) at c.in-Ok-Ok-Ok.ensures.acts in record { acts = export_filed _ _ c.args.r _ _ _ _ c.in-Ok-Ok-Ok.file c.in-Ok.reply (slice_get_read c.args.world.now.seats.items (vec_len c.args.world.now.seats) _ _ (search rules) c.requires.there c.index_mut.ensures.value) refl refl refl refl refl c.in-Ok.ensures.ok acts.sent acts.goes }

pub returns-in-Err-load : goal.returns-in-Err-load
returns-in-Err-load g c = record { acts = asked_unsent _ _ Export (record { stands = slice_get_read c.args.world.now.seats.items (vec_len c.args.world.now.seats) _ _ (search rules) c.requires.there c.index_mut.ensures.value; seats = refl; desks = refl; bag = λ t. record c.args.world.now.bag { cars = c.in-Err-load.ensures.err t }; down = refl; entries = refl }) (one_of _ c.args.r Exports refl) refl (λ s. refl) (within_places _ c.args.world.now.seats.items (vec_len c.args.world.now.seats) _ (search rules) c.requires.there) _ (rw (c.in-Ok-Ok-Ok.field-0-is, c.in-Ok-Ok-Ok.field-0-0-is) at c.in-Ok-Ok-Ok.ensures.acts) }
