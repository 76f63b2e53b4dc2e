use Rattle.std.proofs.Common.{ap, false, length, refl, sym, ◌∙◌}
use Rattle.std.specs.Prelude.{unwrap_or}
use Rattle.std.specs.Option.{option_map}
use Rattle.std.proofs.lemmas.Option.{slice_get_read}
use Rattle.mc_acts.specs.Sames.{is_up_seat}
use Rattle.mc_acts.proofs.sames.runs_at.Goals as goal

pub returns : goal.returns
returns g c = c.is_up.ensures ∙ ap (λ o. unwrap_or (option_map (is_up_seat g.K.Keeper.told g.K.Keeper.fuse) o) false) (sym (slice_get_read c.args.world.now.seats.items (length c.args.world.now.seats.items) c.args.r _ refl c.requires.there c.index.ensures))
