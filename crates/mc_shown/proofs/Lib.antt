pub mod Crossing
pub mod NameFacts
pub mod ReadFacts
pub mod TurnFacts
