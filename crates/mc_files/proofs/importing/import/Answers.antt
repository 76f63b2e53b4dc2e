use Rattle.std.proofs.Common.{List, map, refl, subst, sym}
use Rattle.mc_base.specs.declared.cid.Cid.{Cid}
use Rattle.mc_inbox.specs.Waiting.{as_stored}
use Rattle.mc_queue.specs.Views.{shown}
use Rattle.mc_core.specs.Replica.{replica_state}
use Rattle.mc_core.proofs.Keeps.{still_on}
use Rattle.mc_files.specs.Steps.{IsFile}
use Rattle.mc_files.proofs.ImportFacts.{import_fails, import_says}
use Rattle.mc_files.proofs.importing.import.Goals as goal

pub returns-in-Err-clause-keeps : goal.returns-in-Err-clause-keeps
returns-in-Err-clause-keeps g c = still_on refl refl refl

pub returns-in-Err-Wrong-clause-keeps : goal.returns-in-Err-Wrong-clause-keeps
returns-in-Err-Wrong-clause-keeps g c = still_on refl refl refl

pub returns-in-Err-Memory-clause-keeps : goal.returns-in-Err-Memory-clause-keeps
returns-in-Err-Memory-clause-keeps g c = still_on refl refl refl

pub returns-in-Ok-take_in-clause-says : goal.returns-in-Ok-take_in-clause-says
returns-in-Ok-take_in-clause-says g c =
    import_says c.args.bytes.now c.as_slice.result.now c.in-Ok-read_file.file.verified c.in-Ok-take_in.imported (shown c.args.replica.now.queue) (shown c.take_in.new.replica.queue)
    (subst (λ (cids : List Cid). IsFile c.args.bytes.now cids (map as_stored c.in-Ok-read_file.file.verified)) (sym c.as_slice.ensures) c.in-Ok-read_file.ensures.file) c.in-Ok-take_in.ensures.says

pub returns-clause-call : goal.returns-clause-call
returns-clause-call g c =
    import_fails c.args.bytes.now c.as_slice.result.now (map as_stored c.in-Ok-read_file.file.verified)
    (subst (λ (cids : List Cid). IsFile c.args.bytes.now cids (map as_stored c.in-Ok-read_file.file.verified)) (sym c.as_slice.ensures) c.in-Ok-read_file.ensures.file) _ c.in-Err-take_in.error (replica_state g.K.Keeper.told g.K.Keeper.fuse c.args.replica.now) (replica_state g.K.Keeper.told g.K.Keeper.fuse c.take_in.new.replica)
    c.in-Err-take_in.ensures.call
