pub mod HeadFacts
pub mod KeptFacts
pub mod LawFacts
pub mod MessageFacts
