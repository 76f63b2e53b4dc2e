use Rattle.std.proofs.Common.{subst}
use Rattle.std.specs.Prelude.{None}
use Rattle.mc_fetch.proofs.AskFacts.{asks_more}
use Rattle.mc_fetch.proofs.FirstFacts.{MatchAt, MatchLed, first_goes_on, first_is_there, none_said, sure_goes_on, sure_is_there}
use Rattle.mc_fetch.proofs.first.first_match.Goals as goal

pub returns-in-Ok-Some-clause-found : goal.returns-in-Ok-Some-clause-found
returns-in-Ok-Some-clause-found g c =
    let here = rw c.in-Ok-Some.field-0-is at c.in-Ok-Some.ensures.found in
    first_is_there c.args.cid.now (g.F.Fetch.offers c.args.fetch.now) c.loop-place.place _ c.loop-place.invariant.so_far
    (subst (MatchAt c.args.cid.now c.loop-place.place _) c.loop-place.invariant.asked.offers_same here)

pub returns-in-Ok-Some-clause-surely : goal.returns-in-Ok-Some-clause-surely
returns-in-Ok-Some-clause-surely g c =
    let here = rw c.in-Ok-Some.field-0-is at c.in-Ok-Some.ensures.led in
    sure_is_there c.args.cid.now (g.F.Fetch.leading c.args.fetch.now c.args.cid.now) c.loop-place.place _ c.loop-place.invariant.sure
    (subst (MatchLed c.args.cid.now c.loop-place.place _) c.loop-place.invariant.asked.leading_same here)

pub loop-place-preserved : goal.loop-place-preserved
loop-place-preserved g c =
    let here = rw c.in-Ok-None.field-0-is at c.in-Ok-None.ensures.found in
    let led = rw c.in-Ok-None.field-0-is at c.in-Ok-None.ensures.led in
    record {
      sure = sure_goes_on c.args.cid.now (g.F.Fetch.leading c.args.fetch.now c.args.cid.now) c.loop-place.place c.loop-place.invariant.sure
          (subst (MatchLed c.args.cid.now c.loop-place.place None) c.loop-place.invariant.asked.leading_same led);
      asked = asks_more g.met.F.Fetch.follows_on c.loop-place.invariant.asked c.in-Ok-None.ensures.asks;
      end = c.loop-place.invariant.end;
      so_far = first_goes_on c.args.cid.now (g.F.Fetch.offers c.args.fetch.now) c.loop-place.place c.loop-place.invariant.so_far
          (subst (MatchAt c.args.cid.now c.loop-place.place None) c.loop-place.invariant.asked.offers_same here);
    }

pub returns-in-Err-clause-found : goal.returns-in-Err-clause-found
returns-in-Err-clause-found g c = none_said (g.F.Fetch.offers c.args.fetch.now)

pub returns-in-Err-clause-asks : goal.returns-in-Err-clause-asks
returns-in-Err-clause-asks g c = asks_more g.met.F.Fetch.follows_on c.loop-place.invariant.asked c.in-Err.ensures.asks
