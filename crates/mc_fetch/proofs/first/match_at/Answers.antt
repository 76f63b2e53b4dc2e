use Rattle.mc_fetch.proofs.FirstFacts.{match_found, match_led}
use Rattle.mc_fetch.proofs.first.match_at.Goals as goal

pub returns-in-Ok-clause-found : goal.returns-in-Ok-clause-found
returns-in-Ok-clause-found g c = match_found (g.F.Fetch.offers c.args.fetch.now) c.args.cid.now c.args.place _ _ c.in-Ok.ensures.offer c.matching.ensures.same

pub returns-in-Ok-clause-digest : goal.returns-in-Ok-clause-digest
returns-in-Ok-clause-digest g c = c.matching.ensures.digest

pub returns-in-Ok-clause-led : goal.returns-in-Ok-clause-led
returns-in-Ok-clause-led g c = match_led c.args.cid.now (g.F.Fetch.leading c.args.fetch.now c.args.cid.now) c.args.place _ _ c.in-Ok.ensures.led c.matching.ensures.same
