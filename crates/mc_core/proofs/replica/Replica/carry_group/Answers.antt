use Rattle.std.proofs.Common.{◌≡◌, ◌∙◌, ap, subst, sym, length}
use Rattle.std.specs.Prelude.{IfSome, ◌==◌}
use Rattle.mc_keep.specs.declared.changes.Changes.{Changes}
use Rattle.mc_keep.specs.Changes.{changed}
use Rattle.mc_model.specs.Kept.{Kept}
use Rattle.mc_group.specs.Planning.{AreReady}
use Rattle.mc_core.proofs.GroupFacts.{no_items, ready_alone, ready_then}
use Rattle.mc_core.proofs.replica.Replica.carry_group.Goals as goal

pub process_group-requires-clause-ready : goal.process_group-requires-clause-ready
process_group-requires-clause-ready g c =
    ready_alone _ _ c.args.stores c.args.process c.args.links.now c.args.gaps (no_items c.args.stores (ap (λ xs. length xs == 0) (sym c.as_slice.ensures) ∙ sym c.is_empty.ensures ∙ c.if-is_empty.true)) c.requires.ready

pub store_and_process-requires-clause-ready : goal.store_and_process-requires-clause-ready
store_and_process-requires-clause-ready g c =
    subst (λ (s : Changes). IfSome (g.K.Keeper.told c.args.self.now.keeper) (λ (kept : Kept). AreReady (changed kept s) c.args.self.now.whole c.args.process c.args.links.now c.args.gaps)) (sym c.store_changes.ensures)
    (ready_then _ _ c.args.stores c.args.process c.args.links.now c.args.gaps c.requires.ready)
