use Rattle.mc_past.proofs.WalkFacts.{begun_again, begun_anew}
use Rattle.mc_past.proofs.below.begin.Goals as goal

pub returns : goal.returns
returns c = begun_again c.args.cid.now c.args.last c.in-Some.field-0 c.again.new.self c.ne.result c.in-Some.is c.ne.ensures c.if-ne.false c.again.ensures

pub returns-then-ne : goal.returns-then-ne
returns-then-ne c = begun_anew c.args.cid.now c.args.last c.new-then-ne.result c.new-then-ne.ensures
