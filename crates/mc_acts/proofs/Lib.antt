pub mod LiftFacts
pub mod PastsFacts
pub mod RecordFacts
pub mod SameFacts
pub mod SameRows
pub mod StepInFacts
