use Rattle.mc_past_tests.proofs.FeedFacts.{was_of}
use Rattle.mc_past_tests.proofs.feeds.follows.Goals as goal

pub feed-requires-2-clause-begins : goal.feed-requires-2-clause-begins
feed-requires-2-clause-begins g c = was_of _ _ _ _ (c.feed.ensures.open c.requires.open.0) (c.feed.ensures.begins c.requires.open.0)

pub feed-requires-3-clause-begins : goal.feed-requires-3-clause-begins
feed-requires-3-clause-begins g c =
    let unsealed = c.feed.ensures.open c.requires.open.0 in was_of _ _ _ _ (c.feed-2.ensures.open unsealed) (c.feed-2.ensures.begins unsealed)
