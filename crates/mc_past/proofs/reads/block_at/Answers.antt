use Rattle.std.proofs.Common.{◌≡◌, Option}
use Rattle.std.specs.Prelude.{slice_get}
use Rattle.mc_model.specs.Kept.{Kept, processed}
use Rattle.mc_model.specs.declared.block.Block.{Block}
use Rattle.mc_past.proofs.LookFacts.{call_told}
use Rattle.mc_past.proofs.reads.block_at.Goals as goal

pub returns-clause-block : goal.returns-clause-block
returns-clause-block g c =
    call_told g.K.Keeper.told g.K.Keeper.fuse c.kept_is_durable.ensures.back (λ (kept : Kept) (found : Option Block). found ≡ slice_get (processed kept) c.args.position) c.args.replica.now c.block_at.new.self _ c.block_at.result c.block_at.ensures.call
