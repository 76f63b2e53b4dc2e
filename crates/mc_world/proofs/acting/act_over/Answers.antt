use Rattle.mc_world.proofs.acting.act_over.Goals as goal

pub returns-in-Step : goal.returns-in-Step
returns-in-Step g c = record { acts = rw c.in-Step.is c.step_in.ensures.acts; fits = c.requires.fits }

pub returns-in-Work : goal.returns-in-Work
returns-in-Work g c = record { acts = rw c.in-Work.is c.work_in.ensures.acts; fits = c.requires.fits }

pub returns-in-Repair : goal.returns-in-Repair
returns-in-Repair g c = record { acts = rw c.in-Repair.is c.repair_in.ensures.acts; fits = c.requires.fits }

pub returns-in-Same : goal.returns-in-Same
returns-in-Same g c = record { acts = rw c.in-Same.is c.same_in.ensures.acts; fits = c.requires.fits }

pub returns-in-Hear : goal.returns-in-Hear
returns-in-Hear g c = record { acts = rw c.in-Hear.is c.hear_in.ensures.acts; fits = c.requires.fits }

pub returns-in-Stop-clause-fits : goal.returns-in-Stop-clause-fits
returns-in-Stop-clause-fits g c = c.forget.ensures _ c.requires.fits

pub returns-in-Open-clause-fits : goal.returns-in-Open-clause-fits
returns-in-Open-clause-fits g c = c.forget-in-Open.ensures _ c.requires.fits
