-- What is processed and stored only grows in a storm.
use Rattle.std.proofs.Common.{◌≡◌, ℕ, Bool, true, false, List, [], ◌∷◌, sym, subst}
use Rattle.mc_model.specs.Events.{GoesOn}
use Rattle.mc_model.proofs.Prefix.{goes_on_then}
use Rattle.mc_core.specs.Events.{ReplicaState}
use Rattle.mc_core.proofs.GrowthFacts.{GrowLaw, breaks_grows, goes_grows, same_goes}
use Rattle.mc_storm.specs.Interleavings.{StormCall, Write}
use Rattle.mc_storm.specs.Storms.{ActsBy, CallsRun, FailsBy, PutActs, StormBreaks, storm_key, storm_value}

nothing_grows : (s t : ReplicaState) → t ≡ s → GoesOn s.state.durable t.state.durable
nothing_grows s t same = subst (λ (x : ReplicaState). GoesOn s.state.durable x.state.durable) (sym same) (same_goes s.state.durable)

module _ (law : GrowLaw) where
  put_grows : (made : Bool) (key bytes : List ℕ) (s t : ReplicaState) → PutActs made key bytes s t → GoesOn s.state.durable t.state.durable
  put_grows true key bytes s t makes = goes_grows law makes.done.events s t makes.done.goes
  put_grows false key bytes s t refused = nothing_grows s t refused.same

  call_grows : (gets : Bool) (key bytes : List ℕ) (write : Write) (s t : ReplicaState) → ActsBy gets key bytes write s t → GoesOn s.state.durable t.state.durable
  call_grows false key bytes write s t acts = put_grows write.made key bytes s t acts
  call_grows true key bytes write s t acts = nothing_grows s t acts.unchanged

  pub calls_grow : (calls : List StormCall) (s t : ReplicaState) → CallsRun calls s t → GoesOn s.state.durable t.state.durable
  calls_grow [] s t same = nothing_grows s t same
  calls_grow (call ∷ calls) s t (mid, acts, run) =
      goes_on_then s.state.durable mid.state.durable t.state.durable
      (call_grows call.gets (storm_key call.writer) (storm_value call.write.number) call.write s mid acts) (calls_grow calls mid t run)

  fails_grow : (gets : Bool) (key bytes : List ℕ) (own : Type 0) (s t : ReplicaState) → FailsBy gets key bytes own s t → GoesOn s.state.durable t.state.durable
  fails_grow false key bytes own s t faults = breaks_grows law faults.events own s t faults.breaks
  fails_grow true key bytes own s t breaks = breaks_grows law [] own s t breaks

  pub storm_breaks_grow : (writers writes : ℕ) (own : Type 0) (s t : ReplicaState) → StormBreaks writers writes own s t → GoesOn s.state.durable t.state.durable
  storm_breaks_grow writers writes own s t breaks =
      goes_on_then s.state.durable breaks.mid.state.durable t.state.durable (calls_grow breaks.calls s breaks.mid breaks.run)
      (fails_grow breaks.last.gets (storm_key breaks.last.writer) (storm_value breaks.last.write.number) own breaks.mid t breaks.fails)
