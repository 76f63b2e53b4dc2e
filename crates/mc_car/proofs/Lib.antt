pub mod FoundFacts
pub mod Fronts
pub mod Headers
pub mod Pieces
pub mod PlaceFacts
pub mod ReadFacts
pub mod Sections
pub mod Spellings
