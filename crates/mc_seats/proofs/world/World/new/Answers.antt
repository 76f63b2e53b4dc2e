use Rattle.mc_seats.proofs.MemberWords.{members}
use Rattle.mc_seats.proofs.OpeningFacts.{refused_first, world_calm, world_counted, world_own, world_first, world_unarmed}
use Rattle.mc_seats.proofs.world.World.new.Goals as goal

pub returns-in-Ok-clause-first : goal.returns-in-Ok-clause-first
returns-in-Ok-clause-first g c = world_first (members g.K.Keeper g.K.Counted) g.K.Desk.Counted.faults _ _ c.into_vec-parts.ensures c.open_all.result c.open_all.ensures.opened c.open_all.ensures.around

pub returns-in-Ok-clause-counted : goal.returns-in-Ok-clause-counted
returns-in-Ok-clause-counted g c = world_counted (members g.K.Keeper g.K.Counted) g.K.Desk.Counted.faults _ _ c.into_vec-parts.ensures c.open_all.result c.open_all.ensures.opened

pub returns-in-Ok-clause-unarmed : goal.returns-in-Ok-clause-unarmed
returns-in-Ok-clause-unarmed g c = world_unarmed (members g.K.Keeper g.K.Counted) g.K.Desk.Counted.faults _ _ c.into_vec-parts.ensures c.open_all.result c.open_all.ensures.opened

pub returns-in-Ok-clause-calm : goal.returns-in-Ok-clause-calm
returns-in-Ok-clause-calm g c = world_calm (members g.K.Keeper g.K.Counted) g.K.Desk.Counted.faults _ _ c.into_vec-parts.ensures c.open_all.result c.open_all.ensures.opened

pub returns-in-Ok-clause-refused : goal.returns-in-Ok-clause-refused
returns-in-Ok-clause-refused g c = rw (← c.into_vec-parts.ensures) c.open_all.ensures.refused

pub returns-in-Err-clause-refused : goal.returns-in-Err-clause-refused
returns-in-Err-clause-refused g c = rw (c.from_vec.ensures, c.into_vec-parts.ensures) (refused_first _ _ c.requires.fresh)

pub returns-in-Ok-clause-own : goal.returns-in-Ok-clause-own
returns-in-Ok-clause-own g c = world_own (members g.K.Keeper g.K.Counted) g.K.Desk.Counted.faults _ _ c.into_vec-parts.ensures c.open_all.result c.open_all.ensures.opened
