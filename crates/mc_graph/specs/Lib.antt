pub mod Front
pub mod Graph
pub mod Tombs
