use Rattle.std.proofs.Common.{ℕ, List, Option, refl, sym, ◌∙◌}
use Rattle.mc_core.proofs.Keeps.{still_on}
use Rattle.mc_model.specs.Kept.{Kept, processed}
use Rattle.mc_past.specs.Past.{IsFoundBelow}
use Rattle.mc_past.proofs.LookFacts.{looked_call}
use Rattle.mc_past.proofs.below.value_below.Goals as goal

pub returns-then-has_stopped-clause-keeps : goal.returns-then-has_stopped-clause-keeps
returns-then-has_stopped-clause-keeps g c = still_on refl refl refl

pub returns-clause-call : goal.returns-clause-call
returns-clause-call g c =
    looked_call g.K.Keeper.told g.K.Keeper.fuse c.kept_is_durable.ensures.back (λ (kept : Kept) (found : Option (Option (List ℕ))). IsFoundBelow c.args.cid.now c.args.key.now (processed kept) found) c.args.replica.now c.found_below.new.replica c.found_below.result
    (sym c.has_stopped.ensures ∙ c.if-has_stopped.false) c.found_below.ensures.looks c.found_below.ensures.refused c.found_below.ensures.found
