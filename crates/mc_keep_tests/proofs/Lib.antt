pub mod FirstGroup
pub mod GroupFacts
