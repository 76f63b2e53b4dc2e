use Rattle.std.specs.Option.{option_map}
use Rattle.mc_raw.specs.Drops.{DropsAt}
use Rattle.mc_raw.specs.RowTables.{tables_of}
use Rattle.mc_audit.proofs.Sweeps.{sweeps_as}
use Rattle.mc_audit.proofs.calls.sweep_at.Goals as goal

pub returns : goal.returns
returns g c =
    sweeps_as (λ cids failed. g.K.RawTables.goes cids failed c.args.keeper.now c.sweep.new.tables)
    (λ cids failed. DropsAt g.K.Keeper.told g.K.Keeper.layout g.K.Keeper.fuse g.K.Keeper.spare g.K.Keeper.own g.K.Counted.faults g.K.Keeper.quiet g.K.Keeper.schedule cids failed c.args.keeper.now c.sweep.new.tables)
    (g.K.RawTables.raw c.args.keeper.now) (option_map (tables_of (g.K.Keeper.layout c.args.keeper.now)) (g.K.Keeper.told c.args.keeper.now)) c.sweep.result
    (λ cids failed h. g.met.K.RawKeeper.goes_at cids failed c.args.keeper.now c.sweep.new.tables h) (g.met.K.RawKeeper.rows_told c.args.keeper.now) c.sweep.ensures
