pub mod Rows
pub mod Hiding
pub mod LastBlock
pub mod Places
pub mod Values
