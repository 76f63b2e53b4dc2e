pub mod StepFacts
pub mod SumFacts
