pub mod Answers
pub mod Bounds
pub mod Hands
pub mod Pulls
pub mod Shows
