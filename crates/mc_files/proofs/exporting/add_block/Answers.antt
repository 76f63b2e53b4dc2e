use Rattle.mc_core.specs.Replica.{replica_state}
use Rattle.mc_files.proofs.SectionFacts.{block_added}
use Rattle.mc_files.proofs.exporting.add_block.Goals as goal

pub returns-in-Ok-add_found-clause-call : goal.returns-in-Ok-add_found-clause-call
returns-in-Ok-add_found-clause-call g c =
    block_added c.args.file.now c.add_found.new.file c.args.cid.now c.in-Ok.found (replica_state g.K.Keeper.told g.K.Keeper.fuse c.args.replica.now) (replica_state g.K.Keeper.told g.K.Keeper.fuse c.block.new.self) c.in-Ok-add_found.ensures c.in-Ok.ensures.call
