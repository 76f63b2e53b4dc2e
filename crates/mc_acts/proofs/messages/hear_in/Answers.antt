use Rattle.std.proofs.Common.{refl, length, ◌-◌, ◌∙◌, sym}
use Rattle.std.proofs.lemmas.Option.{slice_get_read}
use Rattle.mc_script.specs.declared.command.Command.TheVariants.{Hear}
use Rattle.mc_seats.specs.Doing.{Hears}
use Rattle.mc_acts.proofs.LiftFacts.{hear_within, heard_within, lift, one_of, text_is, text_within}
use Rattle.mc_acts.proofs.messages.hear_in.Goals as goal

pub returns : goal.returns
returns g c = record { acts = lift _ _ (Hear c.args.r c.args.message) (record { stands = slice_get_read c.args.world.now.seats.items (length c.args.world.now.seats.items) _ _ refl (hear_within _ c.args.world.now.seats.items c.args.world.now.bag c.args.r c.args.message c.requires.there) c.index_mut.ensures.value; seats = refl; desks = refl; bag = refl; down = refl; entries = refl }) (one_of _ c.args.r (Hears c.args.message) refl) _ _ (λ w reply. refl) (λ w reply. tt) c.requires.there (text_is c.args.world.now.bag.messages c.args.message c.index-as_slice-message.result (slice_get_read c.args.world.now.bag.messages (length c.args.world.now.bag.messages) (c.args.message - 1) _ refl (text_within c.args.world.now.bag.messages c.args.message (heard_within _ c.args.world.now.seats.items c.args.world.now.bag c.args.r c.args.message c.requires.there)) (rw (c.as_slice.ensures) at c.index-as_slice-message.is)) ∙ sym c.as_slice-text.ensures) (c.hear_at.ensures.acts c.args.r c.args.message) }
