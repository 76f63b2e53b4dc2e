use Rattle.std.proofs.Common.{◌≡◌, ◌∙◌, ap, sym}
use Rattle.mc_model.specs.Kept.{Kept}
use Rattle.mc_model.specs.State.{kept_of}
use Rattle.mc_core.specs.Events.{ReplicaState}
use Rattle.mc_core.specs.Walks.{gap_count, settled_with}
use Rattle.mc_drain.proofs.TurnFacts.{at_state}
use Rattle.mc_drain.proofs.repairing.settled.Goals as goal

pub returns-in-Ok : goal.returns-in-Ok
returns-in-Ok g c =
    at_state (λ (kept : Kept). c.in-Ok.settled ≡ settled_with (gap_count kept)) (λ (s : ReplicaState). c.in-Ok.settled ≡ settled_with (gap_count (kept_of s.state.durable))) _ _ _
    (λ kept e. e ∙ ap (λ (k : Kept). settled_with (gap_count k)) (sym (c.kept_is_durable.ensures.back kept))) c.in-Ok.ensures.settled
