use Rattle.std.proofs.Common.{inr, refl}
use Rattle.mc_acts.proofs.SameFacts.{content_stays, fails_then, in_found, stay_then}
use Rattle.mc_acts.proofs.sames.has_one.Goals as goal

pub returns-in-Ok-found_among-clause-acts : goal.returns-in-Ok-found_among-clause-acts
returns-in-Ok-found_among-clause-acts g c = stay_then _ _ _ _ c.in-Ok.ensures.ok c.in-Ok-found_among.ensures.ok

pub returns-in-Ok-found_among-clause-one : goal.returns-in-Ok-found_among-clause-one
returns-in-Ok-found_among-clause-one g c = in_found _ _ _ c.in-Ok.block c.in-Some.cid c.args.position c.in-Ok-found_among.found c.in-Ok.ensures.block c.in-Some.is (content_stays _ _ _ c.args.other c.in-Ok.ensures.ok) c.in-Ok-found_among.ensures.found

pub returns-in-Err-found_among-clause-acts : goal.returns-in-Err-found_among-clause-acts
returns-in-Err-found_among-clause-acts g c = (inr refl, fails_then _ _ _ _ _ c.in-Ok.ensures.ok c.in-Err-found_among.ensures.err)
