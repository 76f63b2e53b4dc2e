-- A keeper in memory may be shared with other threads.
use denote.Param.Send.{IsSync, sendable}
use denote.RattleType.{RattleType}
use Rattle.mc_keep_mem.proofs.keeper.MemKeeper.TheSendSync.{the_sync as mem_sync}
use Rattle.mc_keep_mem.specs.contracts.keeper.MemKeeper as mem_keeper
use Rattle.std.specs.contracts.hash.BuildHasherDefault as build
use Rattle.std.specs.contracts.hash.FoldHasher as fold
use Rattle.std.specs.contracts.prelude.BuildHasherDefaultBuildHasher.TheImpl as build_impl
use Rattle.std.specs.contracts.prelude.FoldHasherHasher.TheImpl as fold_impl
use Rattle.std.below.core.specs.contracts.clone.Clone+copy.TheImpl as copy_impl

abbrev pub mem_row : RattleType
mem_row = mem_keeper.the_row (build.the_row fold.the_row) fold.the_row (build_impl.ghosts fold.the_row fold_impl.ghosts build_impl.no_dict (copy_impl.ghosts fold.the_row) build_impl.no_dict) fold_impl.ghosts

pub mem_crosses : IsSync mem_row
mem_crosses = search (mem_sync, sendable) depth 12
