use Rattle.std.proofs.Common.{false}
use Rattle.mc_base.specs.Told.{Told}
use Rattle.mc_core.specs.Exact.{RestSame, TellsSameAt}
use Rattle.mc_core.specs.Replica.{replica_state}
use Rattle.mc_core.specs.Words.{ContinuesAt}
use Rattle.mc_files.proofs.LookFacts.{Looked}
use Rattle.mc_files.proofs.SectionFacts.{HasFirst}
use Rattle.mc_files.proofs.exporting.add_sections.Given as goal

abbrev pub invariant-loop-position : goal.invariant-loop-position
invariant-loop-position g l = record {
  keeps : ContinuesAt g.K.Keeper.told g.K.Keeper.fuse g.K.Keeper.own g.K.Counted.faults g.K.Keeper.quiet g.K.Keeper.schedule false l.fn.replica l.replica;
  rest : RestSame l.fn.replica l.replica;
  same : TellsSameAt g.K.Keeper.told g.K.Keeper.fuse l.fn.replica l.replica;
  so_far : Told (replica_state g.K.Keeper.told g.K.Keeper.fuse l.fn.replica) (replica_state g.K.Keeper.told g.K.Keeper.fuse l.replica) (Looked (HasFirst l.initial.file l.file l.position));
}
