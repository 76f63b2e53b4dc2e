use Rattle.mc_keep.proofs.Frames.{read_itself}
use Rattle.mc_news.proofs.ValueFacts.{keys_cover}
use Rattle.mc_news.proofs.news.changes_of.Goals as goal

pub returns-clause-covers : goal.returns-clause-covers
returns-clause-covers g c = keys_cover c.args.blocks.now _ _ _ c.as_slice.ensures.value c.in-Ok.ensures c.in_ok-changes.ensures.keys

pub returns-in-Err-clause-reads : goal.returns-in-Err-clause-reads
returns-in-Err-clause-reads g c = read_itself c.args.keeper.now
