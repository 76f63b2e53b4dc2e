pub mod Chains
pub mod Fits
pub mod Listed
pub mod Places
pub mod Values
pub mod Winners
