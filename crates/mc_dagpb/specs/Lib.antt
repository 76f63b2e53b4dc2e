pub mod Before
pub mod Reads
pub mod Named
pub mod Step
pub mod Written
