pub mod EntryFacts
pub mod FitsFacts
pub mod MoveFacts
