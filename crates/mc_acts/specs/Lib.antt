pub mod Counting
pub mod Sames
