use Rattle.std.proofs.Common.{ap, subst, sym, ◌++◌, ◌∷◌, []}
use Rattle.mc_node.specs.Feeds.{PassDoes}
use Rattle.mc_node.specs.Entries.{items_at}
use Rattle.mc_node.proofs.FeedFacts.{feed_goes, seat_fed, seat_feed, seat_part, seat_whole}
use Rattle.mc_node.proofs.SeatFacts.{open_given, turned}
use Rattle.mc_node.proofs.node.feeds.Node+Stored+K+J.feed.Goals as goal

pub feed-result-requires : goal.feed-result-requires
feed-result-requires g c = record {
  begins = seat_fed g.K.Keeper.told g.K.Keeper.fuse g.K.Keeper.own g.K.Counted.faults g.K.Keeper.quiet g.K.Keeper.schedule g.H.Hook.taken c.kept_is_durable.ensures.back _ c.take-held.result.value.replica.value _ _ _ c.args.feed.now
      c.requires.begins.rooted c.requires.begins.begins c.take-held.ensures.taken.seen c.take-held.result.value.tied c.requires.begins.feed;
}

pub returns-clause-open : goal.returns-clause-open
returns-clause-open g c = open_given _ _ _ _ c.take-held.ensures.taken.seen c.feed-result.ensures.extends (ap (λ v. v.seen) c.give.ensures.given)

pub returns-clause-turned : goal.returns-clause-turned
returns-clause-turned g c =
    turned _ _ _ (c.take-held.ensures.held.0 ++ 0 ∷ []) _ _ _ c.take-held.ensures.taken c.take-held.ensures.held.2 c.give.ensures.given c.feed-result.ensures.extends
    (subst (λ r. PassDoes g.H.Hook.taken c.args.feed.now c.feed-result.new.feed r (items_at g.K.Keeper.told g.K.Keeper.fuse g.K.Keeper.own g.K.Counted.faults g.K.Keeper.quiet g.K.Keeper.schedule c.take-held.result.value.log.items)
    (items_at g.K.Keeper.told g.K.Keeper.fuse g.K.Keeper.own g.K.Counted.faults g.K.Keeper.quiet g.K.Keeper.schedule c.feed-result.new.self.log.items)) (sym c.answer_of.ensures) c.feed-result.ensures.does)

pub returns-clause-whole : goal.returns-clause-whole
returns-clause-whole g c unsealed =
    seat_whole g.K.Keeper.told g.K.Keeper.fuse g.K.Keeper.own g.K.Counted.faults g.K.Keeper.quiet g.K.Keeper.schedule g.H.Hook.taken _ _ _ _ c.args.feed.now c.feed-result.new.feed c.answer_of.result c.feed-result.result c.answer_of.ensures unsealed
    c.take-held.ensures.taken.seen (ap (λ v. v.seen) c.give.ensures.given) c.feed-result.ensures.whole

pub returns-clause-part : goal.returns-clause-part
returns-clause-part g c unsealed unspent =
    seat_part g.K.Keeper.told g.K.Keeper.fuse g.K.Keeper.own g.K.Counted.faults g.K.Keeper.quiet g.K.Keeper.schedule g.H.Hook.taken _ _ _ _ c.args.feed.now c.feed-result.new.feed c.answer_of.result c.feed-result.result c.answer_of.ensures unsealed
    c.take-held.ensures.taken.seen (ap (λ v. v.seen) c.give.ensures.given) c.feed-result.ensures.goes c.feed-result.ensures.part unspent

pub returns-clause-begins : goal.returns-clause-begins
returns-clause-begins g c unsealed =
    seat_feed g.K.Keeper.told g.K.Keeper.fuse g.K.Keeper.own g.K.Counted.faults g.K.Keeper.quiet g.K.Keeper.schedule g.H.Hook.taken _ _ _ _ c.args.feed.now c.feed-result.new.feed c.answer_of.result c.feed-result.result c.answer_of.ensures unsealed
    c.take-held.ensures.taken.seen (ap (λ v. v.seen) c.give.ensures.given) _ _ _ c.requires.begins.rooted c.requires.begins.begins c.feed-result.ensures.extends c.feed-result.new.self.tied c.requires.begins.feed
    c.feed-result.ensures.goes c.feed-result.ensures.whole c.feed-result.ensures.part

pub returns-clause-goes : goal.returns-clause-goes
returns-clause-goes g c = feed_goes c.args.feed.now c.feed-result.new.feed c.answer_of.result c.feed-result.result c.answer_of.ensures c.feed-result.ensures.goes
