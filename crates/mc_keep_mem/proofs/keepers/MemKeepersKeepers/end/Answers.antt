use Rattle.std.proofs.Common.{◌∙◌, ◌+◌, ◌-◌, ◌^◌, ap, ℕ, List}
use Rattle.std.specs.Prelude.{fold, min}
use Rattle.mc_keep_mem.specs.declared.plan.MemDesk.{MemDesk}
use Rattle.mc_keep_mem.specs.Desks.{counted_with}
use Rattle.mc_keep_mem.proofs.DeskCounts.{fold_counted}
use Rattle.mc_keep_mem.proofs.keepers.MemKeepersKeepers.end.Goals as goal

pub returns-clause-lost : goal.returns-clause-lost
returns-clause-lost g c =
    c.add_faults-self.ensures
    ∙ ap (λ (z : List MemDesk). fold counted_with c.saturating_add-lost.result z) c.as_slice.ensures
    ∙ ap (λ (z : ℕ). fold counted_with z c.args.desks) (c.saturating_add-lost.ensures ∙ ap (λ (z : ℕ). min (c.args.self.now.lost + z) (2 ^ 64 - 1)) c.faults.ensures)
    ∙ fold_counted c.args.desks (c.args.self.now.lost + c.args.keeper.faults.faults)

pub returns-clause-taken : goal.returns-clause-taken
returns-clause-taken g c =
    let before = c.args.self.now in
    λ i. record {
      plans = before.plans;
      failing = before.failing;
      hasher = before.hasher;
      downgrades = before.downgrades;
      made = before.made;
      faults = before.faults;
      lost = returns-clause-lost g c i;
    }
