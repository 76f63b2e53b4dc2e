pub mod Cutting
pub mod Held
pub mod Lengths
pub mod PairOrder
pub mod Refusals
pub mod Rows
pub mod Pairs
