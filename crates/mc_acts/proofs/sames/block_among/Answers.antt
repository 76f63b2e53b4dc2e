use Rattle.std.proofs.Common.{◌≡◌, length, refl, slice_get}
use Rattle.std.proofs.lemmas.Option.{slice_get_read}
use Rattle.mc_model.specs.Kept.{Kept}
use Rattle.mc_acts.proofs.SameFacts.{fails_one, read_told, stay_one, up_read}
use Rattle.mc_acts.proofs.sames.block_among.Goals as goal

pub block_at-requires : goal.block_at-requires
block_at-requires g c = record { up = up_read g.K.Keeper.told g.K.Keeper.fuse c.args.seats.now.items c.args.r c.index_mut.result.now (slice_get_read c.args.seats.now.items (length c.args.seats.now.items) c.args.r c.index_mut.result.now refl c.requires.there c.index_mut.ensures.value) c.requires.up }

pub returns-in-Ok-clause-block : goal.returns-in-Ok-clause-block
returns-in-Ok-clause-block g c = read_told g.K.Keeper.told c.args.seats.now.items c.args.r _ (λ (kept : Kept). c.in-Ok.block ≡ slice_get kept.order c.args.position) (slice_get_read c.args.seats.now.items (length c.args.seats.now.items) _ _ refl c.requires.there c.index_mut.ensures.value) c.in-Ok.ensures.block

pub returns-in-Ok-clause-ok : goal.returns-in-Ok-clause-ok
returns-in-Ok-clause-ok g c = stay_one _ _ _ _ _ (slice_get_read c.args.seats.now.items (length c.args.seats.now.items) _ _ refl c.requires.there c.index_mut.ensures.value) c.in-Ok.ensures.ok

pub returns-in-Err-clause-err : goal.returns-in-Err-clause-err
returns-in-Err-clause-err g c = fails_one _ _ _ _ _ (slice_get_read c.args.seats.now.items (length c.args.seats.now.items) _ _ refl c.requires.there c.index_mut.ensures.value) c.in-Err.ensures.err
