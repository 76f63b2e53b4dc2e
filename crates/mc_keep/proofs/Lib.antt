pub mod BurningFacts
pub mod ElementTies
pub mod Processed
pub mod Fitting
pub mod Frames
pub mod Lives
pub mod LaidTwo
