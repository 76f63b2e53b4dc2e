pub mod Rows
pub mod Found
pub mod Sound
pub mod Checks
pub mod Values
pub mod Sweep
pub mod Plain
pub mod Laws
