use Rattle.mc_world.proofs.acting.act_on.Goals as goal

pub returns-in-StopAt : goal.returns-in-StopAt
returns-in-StopAt g c = record { acts = rw c.in-StopAt.is c.arm_in.ensures.acts; fits = c.requires.fits }

pub returns-in-StopAfter-clause-acts : goal.returns-in-StopAfter-clause-acts
returns-in-StopAfter-clause-acts g c = rw c.in-StopAfter.is c.arm_in-in-StopAfter.ensures.acts
