pub mod FeedFacts
