pub mod CommitFacts
pub mod DrainFacts
pub mod GiveFacts
pub mod MakeFacts
pub mod ReadyFacts
pub mod SlotFacts
pub mod WithoutFacts
pub mod StoringFacts
