pub mod InboxFacts
pub mod GroupFacts
pub mod OfferedFacts
