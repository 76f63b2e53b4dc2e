use Rattle.std.proofs.Common.{map, sym, subst}
use Rattle.std.specs.Prelude.{IfSome}
use Rattle.mc_keep.specs.declared.changes.Changes.{Changes}
use Rattle.mc_keep.specs.Tables.{ChangesFit}
use Rattle.mc_inbox.specs.Waiting.{as_stored}
use Rattle.mc_group.proofs.StoringFacts.{storing_fits}
use Rattle.mc_group.proofs.storing.plan_store.Goals as goal

pub returns-in-Ok-clause-fits : goal.returns-in-Ok-clause-fits
returns-in-Ok-clause-fits g c =
    subst (λ (z : Changes). IfSome (g.K.Keeper.told c.args.keeper.now) (λ kept. ChangesFit kept (record z { store = c.in_ok-changes.field-0 }))) (sym c.new-changes.ensures)
    (storing_fits c.changes_fit.ensures.store _ c.in_ok-changes.field-0 (map as_stored c.args.blocks) c.in_ok-changes.ensures.good c.in_ok-changes.ensures.stores)
