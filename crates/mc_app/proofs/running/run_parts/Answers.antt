use Rattle.std.proofs.Common.{inl, subst, sym}
use Rattle.mc_app.proofs.EndFacts.{may_calm, own_parts, refused_outcome, refused_own, refused_rose, refused_told}
use Rattle.mc_app.proofs.KeepingFacts.{fused_members}
use Rattle.mc_seats.proofs.MemberWords.{members}
use Rattle.mc_app.proofs.RunFacts.{outcome_told}
use Rattle.mc_app.proofs.running.run_parts.Goals as goal
use Rattle.mc_seats.specs.Starts.{IsFirst}

pub returns-in-Ok-clause-outcome : goal.returns-in-Ok-clause-outcome
returns-in-Ok-clause-outcome g c = outcome_told _ _ _ _ _ _ _ _ _ _ _ (λ w is. subst (IsFirst _) (sym is) c.in-Ok.ensures.first) (λ lines answers may. may_calm _ _ _ _ lines answers c.in-Ok.ensures.calm may) (λ w same. inl (same, c.run_world.ensures.full)) c.run_world.ensures.outcome

pub returns-in-Err-clause-outcome : goal.returns-in-Err-clause-outcome
returns-in-Err-clause-outcome g c = refused_outcome (fused_members (members g.K.Keeper g.K.Counted)) g.K.Desk.Counted.faults _ _ _ c.in-Err.ensures.refused _ _ _ _ c.status_of.ensures

pub returns-in-Err-clause-same : goal.returns-in-Err-clause-same
returns-in-Err-clause-same g c = λ fault. refused_told (fused_members (members g.K.Keeper g.K.Counted)) g.K.Desk.Counted.faults _ _ _ c.in-Err.ensures.refused

pub returns-in-Err-clause-keeper_cause : goal.returns-in-Err-clause-keeper_cause
returns-in-Err-clause-keeper_cause g c = λ fault. refused_rose (fused_members (members g.K.Keeper g.K.Counted)) g.K.Desk.Counted.faults _ _ _ c.in-Err.ensures.refused _ c.status_of.ensures c.requires.counted fault

pub returns-in-Ok-clause-own : goal.returns-in-Ok-clause-own
returns-in-Ok-clause-own g c = own_parts (fused_members (members g.K.Keeper g.K.Counted)) g.K.Desk.Counted.faults _ _ _ c.in-Ok.ensures.own c.run_world.ensures.desks c.run_world.ensures.full

pub returns-in-Err-clause-own : goal.returns-in-Err-clause-own
returns-in-Err-clause-own g c = refused_own (fused_members (members g.K.Keeper g.K.Counted)) g.K.Desk.Counted.faults _ _ _ c.in-Err.ensures.refused
