pub mod BlockFacts
pub mod FrameFacts
pub mod ImportFacts
pub mod LookFacts
pub mod MessageFacts
pub mod SectionFacts
pub mod TakeFacts
