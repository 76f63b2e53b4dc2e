use Rattle.mc_lend.proofs.Firsts.{put_before}
use Rattle.mc_lend.proofs.lending.put_first.Goals as goal

pub returns-clause-items : goal.returns-clause-items
returns-clause-items g c = put_before c.insert.result c.args.things.now.items _ c.args.thing (c.insert.ensures.succeeds c.requires.room) c.insert.ensures.items
