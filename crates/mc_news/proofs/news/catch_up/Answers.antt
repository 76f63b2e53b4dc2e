use Rattle.std.proofs.Common.{refl}
use Rattle.mc_news.proofs.ValueFacts.{covers_slice, values_right, whole_list}
use Rattle.mc_news.proofs.news.catch_up.Goals as goal

pub append-requires-clause-covers : goal.append-requires-clause-covers
append-requires-clause-covers g c = covers_slice _ _ _ c.as_slice.ensures c.in_ok-changes.ensures.covers

pub append-requires-clause-values : goal.append-requires-clause-values
append-requires-clause-values g c =
    values_right g.X.Exactness.exact (g.K.Keeper.told c.args.keeper.now) _ _ c.args.face.now.list _ _ _ refl c.in_ok-blocks.ensures.reads.told_same c.length.ensures c.requires.tells c.requires.begins c.in_ok-blocks.ensures.blocks c.in_ok-changes.ensures.values

pub returns-clause-list : goal.returns-clause-list
returns-clause-list g c = whole_list _ _ c.args.face.now.list _ _ _ refl c.length.ensures c.requires.begins c.in_ok-blocks.ensures.blocks c.in_ok-append.ensures.ok
