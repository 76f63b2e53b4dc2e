use Rattle.mc_rows.specs.Rows.{tombs_of}
use Rattle.mc_rows.proofs.HiddenFacts.{hidden_told}
use Rattle.mc_rows.proofs.live.is_hidden.Goals as goal

pub returns-clause-hidden : goal.returns-clause-hidden
returns-clause-hidden g c = hidden_told (g.K.Keeper.told c.args.keeper.now) c.hides.result (tombs_of c.args.tombs.now) c.args.key.now c.args.cid.now _ c.in_ok-is_named.ensures c.if-branch.false c.hides.ensures.row

pub returns-clause-reads : goal.returns-clause-reads
returns-clause-reads g c = c.hides.ensures.reads
