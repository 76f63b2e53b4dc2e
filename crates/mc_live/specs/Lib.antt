pub mod Order
pub mod Prune
pub mod Rows
pub mod Stands
pub mod Hiding
