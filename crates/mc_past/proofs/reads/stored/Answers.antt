use Rattle.std.proofs.Common.{◌≡◌, ℕ, List, Option}
use Rattle.mc_model.specs.Kept.{Kept, bytes_at}
use Rattle.mc_past.proofs.LookFacts.{call_told}
use Rattle.mc_past.proofs.reads.stored.Goals as goal

pub returns-clause-bytes : goal.returns-clause-bytes
returns-clause-bytes g c =
    call_told g.K.Keeper.told g.K.Keeper.fuse c.kept_is_durable.ensures.back (λ (kept : Kept) (bytes : Option (List ℕ)). bytes ≡ bytes_at kept.graph c.args.cid.now) c.args.replica.now c.block.new.self _ c.block.result c.block.ensures.call
