pub mod AskFacts
pub mod FirstFacts
pub mod PeerFacts
pub mod PlantFacts
