use Rattle.std.proofs.Common.{ℕ, Option, refl, sym, ◌∙◌}
use Rattle.mc_core.proofs.Keeps.{still_on}
use Rattle.mc_model.specs.Kept.{Kept, processed}
use Rattle.mc_past.specs.Passings.{PassesAll}
use Rattle.mc_past.proofs.LookFacts.{looked_call}
use Rattle.mc_past.proofs.PassingFacts.{stays_fed}
use Rattle.mc_past.proofs.passing.pass_new.Goals as goal

pub returns-then-has_stopped-clause-keeps : goal.returns-then-has_stopped-clause-keeps
returns-then-has_stopped-clause-keeps g c = still_on refl refl refl

pub returns-then-has_stopped-clause-part : goal.returns-then-has_stopped-clause-part
returns-then-has_stopped-clause-part g c = stays_fed g.H.Hook.taken (g.K.Keeper.told c.args.replica.now.keeper) c.args.feed.now

pub returns-clause-call : goal.returns-clause-call
returns-clause-call g c =
    looked_call g.K.Keeper.told g.K.Keeper.fuse c.kept_is_durable.ensures.back (λ (kept : Kept) (passed : Option ℕ). PassesAll g.H.Hook.taken (processed kept) c.args.feed.now c.pass_rest.new.feed passed) c.args.replica.now c.pass_rest.new.replica c.pass_rest.result
    (sym c.has_stopped.ensures ∙ c.if-has_stopped.false) c.pass_rest.ensures.looks c.pass_rest.ensures.refused c.pass_rest.ensures.passes
