pub mod Interleavings
pub mod Storms
