pub mod FeedFacts
pub mod LookFacts
pub mod PassingFacts
pub mod PastFacts
pub mod TellingFacts
pub mod WalkFacts
