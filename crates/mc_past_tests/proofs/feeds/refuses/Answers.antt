use Rattle.mc_past_tests.proofs.FeedFacts.{was_of}
use Rattle.mc_past_tests.proofs.feeds.refuses.Goals as goal

pub feed-again-requires-clause-begins : goal.feed-again-requires-clause-begins
feed-again-requires-clause-begins g c = was_of _ _ _ _ (c.feed-once.ensures.open c.requires.open) (c.feed-once.ensures.begins c.requires.open)
