pub mod BlockFacts
pub mod KeyFacts
pub mod ValueFacts
