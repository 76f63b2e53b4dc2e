use Rattle.std.proofs.Common.{◌∙◌, ◌+◌, ◌-◌, ◌^◌, ap, ℕ, List}
use Rattle.std.specs.Prelude.{fold, min}
use Rattle.mc_keep_mem.specs.declared.plan.MemDesk.{MemDesk}
use Rattle.mc_keep_sql.specs.declared.desk.SqlDesk.{SqlDesk}
use Rattle.mc_keep_sql.specs.Sums.{counted_with}
use Rattle.mc_keep_sql.proofs.SumFacts.{fold_counted}
use Rattle.mc_keep_any.specs.declared.desk.AnyDesk.{AnyDesk}
use Rattle.mc_keep_any.specs.Any.{desk_faults, either_keeper}
use Rattle.mc_keep_any.proofs.real.RealKeepersKeepers.end.Goals as goal

abbrev faults_of : AnyDesk MemDesk SqlDesk → ℕ
faults_of = desk_faults (λ desk. desk.faults) (λ desk. desk.faults)

pub returns-clause-lost : goal.returns-clause-lost
returns-clause-lost c =
    c.add_faults-self.ensures
    ∙ ap (λ (z : List (AnyDesk MemDesk SqlDesk)). fold (counted_with faults_of) c.saturating_add-lost.result z) c.as_slice.ensures
    ∙ ap (λ (z : ℕ). fold (counted_with faults_of) z c.args.desks) (c.saturating_add-lost.ensures ∙ ap (λ (z : ℕ). min (c.args.self.now.lost + z) (2 ^ 64 - 1)) c.faults.ensures)
    ∙ fold_counted faults_of c.args.desks (c.args.self.now.lost + either_keeper (λ keeper. keeper.faults.faults) (λ keeper. keeper.inner.faults) c.args.keeper)

pub returns-clause-taken : goal.returns-clause-taken
returns-clause-taken c = ap (λ (z : ℕ). record c.args.self.now { lost = z }) (
    c.add_faults-self.ensures
    ∙ ap (λ (z : List (AnyDesk MemDesk SqlDesk)). fold (counted_with faults_of) c.saturating_add-lost.result z) c.as_slice.ensures
    ∙ ap (λ (z : ℕ). fold (counted_with faults_of) z c.args.desks) (c.saturating_add-lost.ensures ∙ ap (λ (z : ℕ). min (c.args.self.now.lost + z) (2 ^ 64 - 1)) c.faults.ensures)
    ∙ fold_counted faults_of c.args.desks (c.args.self.now.lost + either_keeper (λ keeper. keeper.faults.faults) (λ keeper. keeper.inner.faults) c.args.keeper))
