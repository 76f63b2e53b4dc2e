use Rattle.std.proofs.Common.{◌≡◌, ◌≤◌, ◌+◌, ◌-◌, ℕ, vec_len, vec_capacity}
use Rattle.mc_keepers.specs.declared.keepers.KeeperPlan.{KeeperPlan}
use Rattle.mc_app.specs.Keeping.{made_of}
use Rattle.mc_app.specs.Outcome.{MadeFrom}
use Rattle.mc_app.proofs.KeepingFacts.{IsMaking, fused_members}
use Rattle.mc_seats.proofs.MemberWords.{members}
use Rattle.mc_app.proofs.keeping.make_parts.Given as goal

abbrev pub invariant-loop-index : goal.invariant-loop-index
invariant-loop-index g l = record {
  making : IsMaking (fused_members (members g.K.K.Keeper g.K.K.Counted)) g.K.K.Keeper.schedule (g.K.Keepers.starts l.fn.keepers l.fn.plan) (g.K.Keepers.quiet l.fn.keepers l.fn.plan) l.parts.items l.index;
  made : MadeFrom g.K.Keepers.makes l.fn.plan 0 l.fn.keepers (made_of l.parts.items) l.keepers;
  starts_same : (plan : KeeperPlan) (index : ℕ) → g.K.Keepers.starts l.keepers plan index ≡ g.K.Keepers.starts l.fn.keepers plan index;
  quiet_same : (plan : KeeperPlan) → g.K.Keepers.quiet l.keepers plan ≡ g.K.Keepers.quiet l.fn.keepers plan;
  lost_same : g.K.Keepers.lost l.keepers ≡ g.K.Keepers.lost l.fn.keepers;
  later : g.K.Counted.faults l.fn.keepers ≤ g.K.Counted.faults l.keepers;
  room : vec_len l.parts + (l.fn.count - l.index) ≤ vec_capacity l.parts;
}
