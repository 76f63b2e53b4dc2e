use Rattle.std.proofs.Common.{inl, subst, sym}
use Rattle.mc_app.proofs.EndFacts.{may_calm, own_parts, refused_own, refused_rose, refused_short, refused_told}
use Rattle.mc_app.proofs.GeneratingFacts.{generates_map, unopened_generates}
use Rattle.mc_app.proofs.KeepingFacts.{fused_members}
use Rattle.mc_seats.proofs.MemberWords.{members}
use Rattle.mc_app.proofs.generating.generate_in.Goals as goal
use Rattle.mc_seats.specs.Starts.{IsFirst}

pub returns-in-Ok-clause-generated : goal.returns-in-Ok-clause-generated
returns-in-Ok-clause-generated g c = generates_map _ _ _ _ _ _ _ (λ w is. subst (IsFirst _) (sym is) c.in-Ok.ensures.first) (λ lines answers may. may_calm _ _ _ _ lines answers c.in-Ok.ensures.calm may) (λ w same. inl (same, c.generate_world.ensures.full)) _ _ _ _ c.generate_world.ensures.generated

pub returns-in-Err-clause-generated : goal.returns-in-Err-clause-generated
returns-in-Err-clause-generated g c = unopened_generates _ _ _ _ _ _ _ _ c.status_of.ensures
    (λ is. refused_short (fused_members (members g.K.Keeper g.K.Counted)) g.K.Desk.Counted.faults _ _ _ c.in-Err.ensures.refused _ _ _ is)

pub returns-in-Err-clause-same : goal.returns-in-Err-clause-same
returns-in-Err-clause-same g c = λ fault. refused_told (fused_members (members g.K.Keeper g.K.Counted)) g.K.Desk.Counted.faults _ _ _ c.in-Err.ensures.refused

pub returns-in-Err-clause-keeper_cause : goal.returns-in-Err-clause-keeper_cause
returns-in-Err-clause-keeper_cause g c = λ fault. refused_rose (fused_members (members g.K.Keeper g.K.Counted)) g.K.Desk.Counted.faults _ _ _ c.in-Err.ensures.refused _ c.status_of.ensures c.requires.counted fault

pub returns-in-Ok-clause-own : goal.returns-in-Ok-clause-own
returns-in-Ok-clause-own g c = own_parts (fused_members (members g.K.Keeper g.K.Counted)) g.K.Desk.Counted.faults _ _ _ c.in-Ok.ensures.own c.generate_world.ensures.desks c.generate_world.ensures.full

pub returns-in-Err-clause-own : goal.returns-in-Err-clause-own
returns-in-Err-clause-own g c = refused_own (fused_members (members g.K.Keeper g.K.Counted)) g.K.Desk.Counted.faults _ _ _ c.in-Err.ensures.refused
