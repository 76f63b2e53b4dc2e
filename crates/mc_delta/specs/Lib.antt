pub mod Deltas
pub mod Entries
pub mod Lengths
pub mod Faults
pub mod Written
