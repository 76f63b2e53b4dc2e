pub mod LinkFacts
pub mod MadeFacts
pub mod OfferFacts
pub mod NamedFacts
