use Rattle.mc_plan.proofs.wanting.open_links.Goals as goal

pub returns-clause-links : goal.returns-clause-links
returns-clause-links g c = rw (c.as_slice.ensures) at c.open_among.ensures.left
